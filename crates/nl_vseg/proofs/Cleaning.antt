-- The calls that make room, one after the other.
use Rattle.std.proofs.Common.{◌≡◌, ℕ, ◌+◌, ◌*◌, ◌^◌, ◌<◌, ◌≤◌, true, false, List, Option, length, refl, sym, ◌∙◌, ap, subst, arith, mul-le-mul_right}
use Rattle.nl_field.specs.Page.{erased}
use Rattle.nl_field.specs.declared.answers.VirtualWrite.{VirtualWrite}
use Rattle.nl_blocks.specs.Table.{Table, free_count}
use Rattle.nl_nand.specs.Nand.{CrashLeaves, IsLegal, OperationLeaves, OperationCounted, block_start, block_end}
use Rattle.nl_nand.specs.declared.answers.WriteAnswer.{WriteAnswer}
use Rattle.nl_nand.specs.declared.answers.WriteAnswer.TheVariants as write
use Rattle.nl_nand.specs.declared.nand.Nand.{Ghosts}
use Rattle.nl_vseg.specs.Answers.{LosesPlaceStamp}
use Rattle.nl_vseg.specs.Cleaning.{KeepsValues, LosesUntold, IsStateOfMedium}
use Rattle.nl_vseg.specs.Copies.{CanCopy}
use Rattle.nl_vseg.specs.Copying.{IsSettled, SetsFree, SameBlockNumbers, SameFreeBlocks}
use Rattle.nl_vseg.specs.Effects.{KeepsMap}
use Rattle.nl_vseg.specs.Layout.{LayoutHasUnmapped, IsLayout, IsLayoutOf, block_is_free, bound, closed, wears_of}
use Rattle.nl_vseg.specs.Operations.{wears_after}
use Rattle.nl_vseg.specs.Places.{PlacesShow, IsUnmapped, map_of, stamp_for}
use Rattle.nl_vseg.specs.Seen.{seen, FitsLayout, IsVirtualFormed}
use Rattle.nl_vseg.specs.Used.{OpenBlocksAreRisen, IsClosed, IsUnusedBlock, used_of}
use Rattle.nl_vseg.specs.declared.place.Place.{Place}
use Rattle.nl_vseg.specs.declared.state.State.{State}
use Rattle.nl_vseg.proofs.Copies.{closed_segment, free_spare, next_blank, widen}
use Rattle.nl_vseg.proofs.Counts.{counted_as, counted_start, counted_then, counted_write, keeps_then}
use Rattle.nl_vseg.proofs.Operating.{operates_as, operates_block, operates_both, operates_still}
use Rattle.nl_vseg.proofs.Segments.{below_of, erase_keeps, keeps_as, keeps_nothing}
use Rattle.nl_vseg.proofs.Shapes.{medium_fits}
use Rattle.nl_vseg.proofs.Small.{few_places, fits_then, lt_le, shape_after, shape_of, shape_then}
use Rattle.nl_vseg.proofs.Using.{closed_image, numbered, numbered_image, opened, settled_full, settled_rising}

-- the state with another table
abbrev pub with_table : State → Table → State
with_table s table = record s { blocks = table }

-- a state with another table and another active block
abbrev pub with_active : State → Table → ℕ → State
with_active s table block = record s { blocks = table; active = block }

-- the state is formed where the same blocks are Free, and as many pages of the active one are used
pub formed_numbered : (s : State) (table : Table) → SameFreeBlocks s.blocks table → used_of table s.active ≡ used_of s.blocks s.active → OpenBlocksAreRisen table → IsVirtualFormed s → IsVirtualFormed (with_table s table)
formed_numbered s table same used rising formed = record {
  segment = numbered (seen s) table same used formed.segment;
  rising = rising;
  copies = formed.copies;
  targets = formed.targets ∙ sym same.numbers.same_size;
}

-- a state is formed where a Free block is the active one now
pub formed_opened : (s : State) (table : Table) (block : ℕ) → IsVirtualFormed s → block < length s.blocks.blocks → block_is_free s.blocks block ≡ true → SetsFree block false s.blocks table → IsUnusedBlock block s.blocks table
    → IsVirtualFormed (with_active s table block)
formed_opened s table block formed within free taken used = record {
  segment = subst (λ n. IsLayout (record (seen s) { table = table; active = block; used = n })) (sym used.none) (opened (seen s) table block formed.segment within free taken);
  rising = used.rising formed.rising;
  copies = formed.copies;
  targets = formed.targets ∙ sym taken.numbers.same_size;
}

-- each block in use is Sealed, so each page of the active one counts as used
pub settled_used : (s : State) (table : Table) → IsVirtualFormed s → SameFreeBlocks s.blocks table → IsSettled s.places.items table → used_of table s.active ≡ table.size
settled_used s table formed same settled =
    settled_full s.places.items table (same.numbers.same_first ∙ formed.segment.first) settled s.active (subst (λ n. s.active < n) (sym same.numbers.same_count) formed.segment.active_is)

module _ {M : Type 0} (g : Ghosts M) where
  -- what has to hold before a copy to the active block, of which no page is used
  pub can_copy : {s : State} {m : M} (victim : ℕ) → IsLegal (g.geometry m) → (seen s).used ≡ 0 → (s.active ≡ victim → ⊥) → IsStateOfMedium g s m → CanCopy g s.blocks.size victim s.active s.places.items s.blocks m
  can_copy {s} {m} victim legal begins other stands =
      let is = stands.formed.segment in
      record {
        same_pages = stands.fits.pages;
        some = is.some;
        in_medium = lt_le is.active_is stands.fits.blocks;
        numbers = subst (λ n. (g.geometry m).blocks * n < 2 ^ 32) stands.fits.pages (medium_fits (g.geometry m) legal);
        first = is.first;
        within = is.active_is;
        width = refl;
        rising = stands.formed.rising;
        other = other;
        few = few_places _ _ _ is.few is.numbers;
        are_places = widen ((g.geometry m).blocks * s.blocks.size) (mul-le-mul_right s.blocks.size stands.fits.blocks) is.places_are;
        holds = λ t. (stands.segment t).holds;
        erased = λ t p from below. next_blank (seen s) (g.contents m) is begins (stands.segment t) p (omega (arith, from)) below;
      }

  -- the state stands on the medium with another table, as its segment does
  pub stands_numbered : {s : State} {m : M} (table : Table) → SameFreeBlocks s.blocks table → used_of table s.active ≡ used_of s.blocks s.active → OpenBlocksAreRisen table → IsStateOfMedium g s m → IsStateOfMedium g (with_table s table) m
  stands_numbered {s} {m} table same used rising stands = record {
    formed = formed_numbered s table same used rising stands.formed;
    fits = fits_then _ _ (seen s) (seen (with_table s table)) refl same.numbers stands.fits;
    segment = λ t. numbered_image (seen s) table same used (g.contents m) (stands.segment t);
  }

  -- where each block in use is Sealed
  pub stands_settled : {s : State} {m : M} (table : Table) → used_of s.blocks s.active ≡ s.blocks.size → SameFreeBlocks s.blocks table → IsSettled s.places.items table → IsStateOfMedium g s m → IsStateOfMedium g (with_table s table) m
  stands_settled {s} {m} table full same settled stands =
      stands_numbered table same (settled_used s table stands.formed same settled ∙ (same.numbers.same_size ∙ sym full))
      (settled_rising s.places.items table (same.numbers.same_first ∙ stands.formed.segment.first) settled) stands

  -- where the active block is Sealed
  pub stands_closed : {s : State} {m : M} (table : Table) → SameFreeBlocks s.blocks table → IsClosed s.active s.blocks table → IsStateOfMedium g s m → IsStateOfMedium g (with_table s table) m
  stands_closed {s} {m} table same shut stands = record {
    formed = record {
      segment = numbered (closed (seen s)) table same (shut.full ∙ same.numbers.same_size) (closed_segment (seen s) s.blocks.size stands.formed.segment refl);
      rising = shut.rising stands.formed.rising;
      copies = stands.formed.copies;
      targets = stands.formed.targets ∙ sym same.numbers.same_size;
    };
    fits = fits_then _ _ (seen s) (seen (with_table s table)) refl same.numbers stands.fits;
    segment = λ t. numbered_image (closed (seen s)) table same (shut.full ∙ same.numbers.same_size) (g.contents m) (closed_image (seen s) (g.contents m) (stands.segment t));
  }

  -- where a block is Free, some block holds no page of the map
  pub stands_spare : {s : State} {m : M} → IsStateOfMedium g s m → 1 ≤ free_count s.blocks → LayoutHasUnmapped (seen s)
  stands_spare {s} {m} stands some = free_spare (seen s) stands.formed.segment some

  -- by another name of the failure
  pub values_as : {F G : Type 0} {s t : State} {old new : M} → (F → G) → (G → F) → KeepsValues g F s t old new → KeepsValues g G s t old new
  values_as to from k = record {
    stands = k.stands;
    shape = k.shape;
    stamps = k.stamps;
    map = k.map;
    operates = k.operates;
    geometry = k.geometry;
    counts = counted_as to from k.counts;
  }

  -- from a state with the same places, and a table of the same numbers
  pub values_from : {F : Type 0} (s u : State) {t : State} {old new : M} → u.places.items ≡ s.places.items → SameBlockNumbers s.blocks u.blocks → wears_of u.blocks ≡ wears_of s.blocks
      → KeepsValues g F u t old new → KeepsValues g F s t old new
  values_from s u {t} {old} {new} places n wears k = record {
    stands = k.stands;
    shape = shape_after (ap length places) n k.shape;
    stamps = λ v. k.stamps v ∙ ap (λ (l : List (Option Place)). stamp_for l v) places;
    map = λ told. subst (λ (l : List (Option Place)). KeepsMap g.clock g.contents g.left s.blocks.size (bound (seen s)) (map_of l (g.contents old)) (map_of t.places.items (g.contents new)) old new) places
        (keeps_as n.same_size (λ i. n.same_count i * n.same_size i) (k.map told));
    operates = operates_both (operates_still _ _ _ _ _ _ wears refl refl) (operates_as n.same_size k.operates);
    geometry = k.geometry;
    counts = k.counts;
  }

  -- a call that did not fail, and then another
  pub values_then : {F G : Type 0} {s t u : State} {a b c : M} → (F → ⊥) → KeepsValues g F s t a b → KeepsValues g G t u b c → KeepsValues g G s u a c
  values_then {F} {G} {s} {t} {u} {a} {b} {c} not one two = record {
    stands = two.stands;
    shape = shape_then one.shape two.shape;
    stamps = λ v. two.stamps v ∙ one.stamps v;
    map = λ told. keeps_then (one.map told) (keeps_as one.shape.pages (λ i. one.shape.blocks i * one.shape.pages i) (two.map told));
    operates = operates_both one.operates (operates_as one.shape.pages two.operates);
    geometry = two.geometry ∙ one.geometry;
    counts = counted_then not one.counts two.counts;
  }

  -- nothing was done to the medium
  pub values_still : {F : Type 0} (s u : State) {m : M} (spare : LayoutHasUnmapped (seen s)) → IsStateOfMedium g s m → IsStateOfMedium g u m → u.places.items ≡ s.places.items → SameBlockNumbers s.blocks u.blocks
      → wears_of u.blocks ≡ wears_of s.blocks → (F → ⊥) → KeepsValues g F s u m m
  values_still s u {m} spare before stands places n wears not = record {
    stands = stands;
    shape = shape_of (seen s) (seen u) (ap length places) n;
    stamps = λ v. ap (λ (l : List (Option Place)). stamp_for l v) places;
    map = λ told. subst (λ (l : List (Option Place)). KeepsMap g.clock g.contents g.left s.blocks.size (bound (seen s)) (map_of s.places.items (g.contents m)) (map_of l (g.contents m)) m m) (sym places)
        (keeps_nothing m spare.block s.blocks.size (length s.blocks.blocks) s.places.items spare.within (before.segment told).holds (below_of (seen s) before.formed.segment) spare.unmapped);
    operates = operates_still _ _ _ _ _ _ wears refl refl;
    geometry = refl;
    counts = counted_start m not;
  }

  -- a block that holds no page of the map was erased, or that failed
  pub values_erased : (s t : State) {old new : M} (block : ℕ) (answer : WriteAnswer) → IsVirtualFormed s → FitsLayout (g.geometry old) (seen s) → (g.tells → PlacesShow (g.contents old) s.places.items)
      → block < length s.blocks.blocks → IsUnmapped s.blocks.size s.places.items block
      → CrashLeaves g.clock g.contents g.left (block_start (g.geometry old) block) (block_end (g.geometry old) block) erased old new
      → (g.tells → OperationLeaves (block_start (g.geometry old) block) (block_end (g.geometry old) block) erased (g.contents old) answer (g.contents new))
      → OperationCounted g.geometry g.clock g.read_faults g.write_faults old new answer
      → t.places.items ≡ s.places.items → SameBlockNumbers s.blocks t.blocks → wears_of t.blocks ≡ wears_after answer block (wears_of s.blocks)
      → IsVirtualFormed t → (g.tells → IsLayoutOf (g.contents new) (seen t)) → KeepsValues g (answer ≡ write.Failed) s t old new
  values_erased s t {old} {new} block answer formed fits holds within unmapped crash effect counted places n wears formed_then segment = record {
    stands = record { formed = formed_then; fits = fits_then _ _ (seen s) (seen t) counted.same_geometry n fits; segment = segment };
    shape = shape_of (seen s) (seen t) (ap length places) n;
    stamps = λ v. ap (λ (l : List (Option Place)). stamp_for l v) places;
    map = λ told. subst (λ (l : List (Option Place)). KeepsMap g.clock g.contents g.left s.blocks.size (bound (seen s)) (map_of s.places.items (g.contents old)) (map_of l (g.contents new)) old new) (sym places)
        (erase_keeps block (g.geometry old).pages s.blocks.size (length s.blocks.blocks) s.places.items answer fits.pages within (holds told) (below_of (seen s) formed.segment) unmapped crash (effect told));
    operates = operates_block s.blocks.size block answer (wears_of s.blocks) (wears_of t.blocks) _ _ _ _ wears counted.ticks
        (λ told. subst (λ k. OperationLeaves (block * k) (block * k + k) erased (g.contents old) answer (g.contents new)) fits.pages (effect told));
    geometry = counted.same_geometry;
    counts = counted_write answer crash.later counted.same_read_faults counted.failures;
  }

-- what is lost of the same places
pub loses_as : {told : Type 0} {old new : List (Option Place)} {answer : VirtualWrite} → new ≡ old → LosesUntold told new answer → LosesUntold told old answer
loses_as {told} {old} {new} {answer} same l = record { lost = subst (λ (x : List (Option Place)). LosesPlaceStamp x answer) same l.lost; kept = l.kept }
