-- One copy after the other.
use Rattle.std.proofs.Common.{◌≡◌, ℕ, ◌+◌, ◌*◌, ◌^◌, ◌<◌, List, Option, length, refl, sym, ◌∙◌, ap, subst, arith}
use Rattle.nl_field.specs.Page.{Image}
use Rattle.nl_field.specs.declared.answers.VirtualWrite.{VirtualWrite}
use Rattle.nl_field.specs.declared.answers.VirtualWrite.TheVariants as write
use Rattle.nl_blocks.specs.Table.{Table}
use Rattle.nl_nand.specs.Nand.{ErasedWithin}
use Rattle.nl_nand.specs.declared.geometry.Geometry.{Geometry}
use Rattle.nl_nand.specs.declared.nand.Nand.{Ghosts}
use Rattle.nl_nand.proofs.Crashes.{then}
use Rattle.nl_vseg.specs.Copies.{CanCopy, HasCopiedPlace, UsesMore, ChangesIn, CopiesTo}
use Rattle.nl_vseg.specs.Copying.{SameFreeBlocks}
use Rattle.nl_vseg.specs.Layout.{ArePlaces, wears_of}
use Rattle.nl_vseg.specs.Places.{PlacesShow}
use Rattle.nl_vseg.specs.Used.{OpenBlocksAreRisen, UsesNext, used_of}
use Rattle.nl_vseg.specs.declared.place.Place.{Place}
use Rattle.nl_vseg.proofs.Blocks.{same_then, same_use}
use Rattle.nl_vseg.proofs.Counts.{counted_start, counted_then}
use Rattle.nl_vseg.proofs.Operating.{operates_both, operates_none}
use Rattle.nl_vseg.proofs.Small.{done_fault, le_same}

-- no page more is used
pub uses_none : (pages block : ℕ) (table : Table) → used_of table block < pages → OpenBlocksAreRisen table → UsesMore pages block table table
uses_none pages block table left rising = record { left = left; more = le_same (used_of table block); rising = rising; states = same_use table; wears = refl }

-- the next page is used
pub uses_next : (pages block : ℕ) {old new : Table} → used_of old block + 1 < pages → UsesNext block old new → SameFreeBlocks old new → wears_of new ≡ wears_of old → UsesMore pages block old new
uses_next pages block {old} {new} left next states wears = record {
  left = let more = next.more in omega (arith, left, more);
  more = let more = next.more in omega (arith, more);
  rising = next.rising;
  states = states;
  wears = wears;
}

pub uses_then : {pages block : ℕ} {a b c : Table} → UsesMore pages block a b → UsesMore pages block b c → UsesMore pages block a c
uses_then first second = record {
  left = second.left;
  more = let one = first.more in let two = second.more in omega (arith, one, two);
  rising = second.rising;
  states = same_then first.states second.states;
  wears = second.wears ∙ first.wears;
}

module _ {M : Type 0} (g : Ghosts M) where
  -- what has to hold before the next copy
  pub can_next : {pages victim target : ℕ} {was places : List (Option Place)} {before after : Table} {old new : M} → CanCopy g pages victim target was before old
      → g.geometry new ≡ g.geometry old → SameFreeBlocks before after → OpenBlocksAreRisen after → length places ≡ length was
      → ArePlaces pages ((g.geometry old).blocks * pages) target (used_of after target) places
      → (g.tells → PlacesShow (g.contents new) places)
      → (g.tells → ErasedWithin (g.contents new) (target * pages + used_of after target) (target * pages + pages))
      → CanCopy g pages victim target places after new
  can_next {pages} {victim} {target} {was} {places} {before} {after} {old} {new} can same states rising count are holds erased = record {
    same_pages = ap (λ (n : Geometry). n.pages) same ∙ can.same_pages;
    some = can.some;
    in_medium = subst (λ (n : Geometry). target < n.blocks) (sym same) can.in_medium;
    numbers = subst (λ (n : Geometry). n.blocks * pages < 2 ^ 32) (sym same) can.numbers;
    first = states.numbers.same_first ∙ can.first;
    within = subst (λ n. target < n) (sym states.numbers.same_count) can.within;
    width = states.numbers.same_size ∙ can.width;
    rising = rising;
    other = can.other;
    few = subst (λ n. n < 2 ^ 32) (sym count) can.few;
    are_places = subst (λ (n : Geometry). ArePlaces pages (n.blocks * pages) target (used_of after target) places) (sym same) are;
    holds = holds;
    erased = erased;
  }

  pub copied_then : {pages victim target : ℕ} {first second third : List (Option Place)} {before after : Table} {a b c : M} → HasCopiedPlace g pages victim target first second before a b
      → HasCopiedPlace g pages victim target second third after b c → HasCopiedPlace g pages victim target first third after a c
  copied_then one two = record { next = two.next; map = λ t v. two.map t v ∙ one.map t v }

  pub changes_then : {pages target : ℕ} {places : List (Option Place)} {image : Image} {a b c : M} → ChangesIn g pages target places image a b
      → ChangesIn g pages target places image b c → ChangesIn g pages target places image a c
  changes_then one two = record { now = two.now; crash = then _ one.crash two.crash }

  -- nothing was copied
  pub copies_none : (pages block wear : ℕ) (s : M) → CopiesTo g pages block wear write.Done s s
  copies_none pages block wear s = record { operates = λ wears is. operates_none refl; told = λ t is. is; geometry = refl; counts = counted_start s done_fault }

  pub copies_then : {pages block wear : ℕ} {answer : VirtualWrite} {a b c : M} → CopiesTo g pages block wear write.Done a b → CopiesTo g pages block wear answer b c
      → CopiesTo g pages block wear answer a c
  copies_then one two = record {
    operates = λ wears is. operates_both (one.operates wears is) (two.operates wears is);
    told = two.told;
    geometry = two.geometry ∙ one.geometry;
    counts = counted_then done_fault one.counts two.counts;
  }
