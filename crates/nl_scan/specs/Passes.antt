-- A pass over the pages below a number, and what it knows then.
use Rattle.std.specs.Prelude.{◌≡◌, ◌↔◌, ℕ, ◌+◌, ◌*◌, ◌^◌, ◌<◌, ◌≤◌, nat_le, nat_lt, Bool, true, false, ◌&&◌, replicate, IsTrue, List, [], length, map, take, filter, filter_map, fold, slice_index_or, All, IfSome, Option, Some, option_map, MatchBool, not, ◌++◌, ◌∷◌}
use Rattle.std.specs.List.{enumerate_from, AllPairs}
use Rattle.std.specs.Ordering.{nat_cmp}
use Rattle.std.specs.BTreeMap.{BTreeMap, get, Updates}
use Rattle.nl_field.specs.Page.{Image, page_at, erased}
use Rattle.nl_field.specs.Medium.{Readable, readable, stamp_on, is_virtual_rec, is_physical_rec, first_physical, shape_of_image}
use Rattle.nl_field.specs.declared.shape.Shape.{Shape}
use Rattle.nl_nand.specs.declared.geometry.Geometry.{Geometry}
use Rattle.nl_field.specs.Scan.{without_wear, zeros_from}
use Rattle.nl_field.specs.SpareRecord.{is_spare, stamp_of}
use Rattle.nl_field.specs.declared.seen.Seen.{Seen}
use Rattle.nl_field.specs.declared.spare.SpareRec.{SpareRec}
use Rattle.nl_scan.specs.Firsts.{first_seen, noted}
use Rattle.nl_scan.specs.Supers.{no_super, super_after}
use Rattle.nl_field.specs.ScanList.{seen_of, virtual_seen, physical_seen}
use Rattle.nl_scan.specs.Tables.{IsSeen, greatest_stamp}
use Rattle.nl_scan.specs.declared.firsts.First.{First}
use Rattle.nl_scan.specs.declared.pass.Pass.{Pass}

-- one of so many pages, noted with a record that is spelled
pub record IsFirst (pages : ℕ) (f : First) : Type 0 where
  pub within : f.page < pages
  pub spelled : IsTrue (is_spare f.rec)

abbrev pub AreFirsts : ℕ → BTreeMap ℕ First → Type 0
AreFirsts pages firsts = (stamp : ℕ) → IfSome (get nat_cmp firsts stamp) (IsFirst pages)

-- the record that is noted for a stamp, without its wear
abbrev pub record_for : BTreeMap ℕ First → ℕ → Option SpareRec
record_for firsts stamp = option_map (λ f. without_wear f.rec) (get nat_cmp firsts stamp)

-- A page with this record was noted. The records of all stamps stay, and where the page agrees it has that of its stamp.
pub record Notes (rec : SpareRec) (agrees : Bool) (old new : BTreeMap ℕ First) : Type 0 where
  pub stays : (stamp : ℕ) (known : SpareRec) → record_for old stamp ≡ Some known → record_for new stamp ≡ Some known
  pub same : agrees ≡ true → record_for new (stamp_of rec) ≡ Some (without_wear rec)

-- each of these pages that agrees has the record of its stamp
abbrev pub FirstsAreNoted : BTreeMap ℕ First → List Seen → Type 0
FirstsAreNoted firsts pages = All (λ s. s.agrees ≡ true → record_for firsts (stamp_of s.rec) ≡ Some (without_wear s.rec)) pages

-- a page of the virtual segment with its kind of record
abbrev pub is_own_virtual : Shape → Readable → Bool
is_own_virtual shape r = nat_lt r.page (first_physical shape) && is_virtual_rec shape r.rec

abbrev pub is_own_physical : Shape → Readable → Bool
is_own_physical shape r = nat_le (first_physical shape) r.page && is_physical_rec r.rec

-- A page was noted in its segment, if its record is of that, and in no other one.
pub record NotedIn (shape : Shape) (r : Readable) (agrees : Bool)
    (virtuals virtuals' physicals physicals' : BTreeMap ℕ First) : Type 0 where
  pub in_virtual : MatchBool (is_own_virtual shape r) (Notes r.rec agrees virtuals virtuals') (virtuals' ≡ virtuals)
  pub in_physical : MatchBool (is_own_physical shape r) (Notes r.rec agrees physicals physicals') (physicals' ≡ physicals)

-- the readable pages below a number
unfoldable pub readable_below : Image → ℕ → List Readable
readable_below image at = filter_map readable (enumerate_from 0 (take at image.contents))

-- A page was compared with the lower pages of its segment, and noted among the first pages there.
pub record Compared (image : Image) (shape : Shape) (r : Readable) (virtuals virtuals' physicals physicals' : BTreeMap ℕ First)
    (agrees : Bool) : Type 0 where
  pub in_virtual : MatchBool (is_own_virtual shape r)
      (Updates nat_cmp virtuals virtuals' (stamp_on r) (Some (noted image r (get nat_cmp virtuals (stamp_on r))))) (virtuals' ≡ virtuals)
  pub in_physical : MatchBool (is_own_physical shape r)
      (Updates nat_cmp physicals physicals' (stamp_on r) (Some (noted image r (get nat_cmp physicals (stamp_on r)))))
      (physicals' ≡ physicals)
  pub verdict : agrees ≡ (not (is_own_virtual shape r && (noted image r (get nat_cmp virtuals (stamp_on r))).mixed)
      && not (is_own_physical shape r && (noted image r (get nat_cmp physicals (stamp_on r))).mixed))

-- a readable page was added
pub record Added (image : Image) (shape : Shape) (r : Readable) (old new : Pass) : Type 0 where
  pub verdict : Bool
  pub compared : Compared image shape r old.virtuals new.virtuals old.physicals new.physicals verdict
  pub seen : new.seen.items ≡ old.seen.items ++ record { page = r.page; rec = r.rec; zeros = zeros_from r.main; agrees = verdict } ∷ []
  pub newest : new.newest ≡ super_after old.newest r

-- what a pass knows of the readable pages of an image below a number
pub record KnowsPages (image : Image) (at : ℕ) (pass : Pass) : Type 0 where
  pub each_page : pass.seen.items ≡ map (seen_of image) (readable_below image at)
  pub virtuals : (stamp : ℕ) → get nat_cmp pass.virtuals stamp
      ≡ first_seen (filter (is_own_virtual (shape_of_image image)) (readable_below image at)) stamp
  pub physicals : (stamp : ℕ) → get nat_cmp pass.physicals stamp
      ≡ first_seen (filter (is_own_physical (shape_of_image image)) (readable_below image at)) stamp
  pub newest : pass.newest ≡ fold super_after no_super (readable_below image at)

-- so far all pages of the block are erased
abbrev pub ErasedBelow : Image → ℕ → ℕ → Type 0
ErasedBelow image at block = (p : ℕ) → block * image.pages ≤ p → p < block * image.pages + image.pages → p < at → page_at image p ≡ erased

-- what it knows of the blocks
pub record KnowsBlocks (image : Image) (at : ℕ) (erased_so_far : List Bool) : Type 0 where
  pub each_block : (block : ℕ) → block < image.blocks → IsTrue (slice_index_or erased_so_far block false) ↔ ErasedBelow image at block

-- what holds of a pass below a page, whatever the pages hold
pub record IsPassBelow (geometry : Geometry) (shape : Shape) (at : ℕ) (pass : Pass) : Type 0 where
  pub rising : AllPairs (λ a b. a.page < b.page) pass.seen.items
  pub pages : All (IsSeen at) pass.seen.items
  pub few : length pass.seen.items ≤ at
  pub is_greatest : pass.greatest ≡ greatest_stamp pass.seen.items
  pub small : pass.greatest < 2 ^ 63
  pub virtuals : AreFirsts (geometry.blocks * geometry.pages) pass.virtuals
  pub physicals : AreFirsts (geometry.blocks * geometry.pages) pass.physicals
  pub noted_virtuals : FirstsAreNoted pass.virtuals (virtual_seen shape pass.seen.items)
  pub noted_physicals : FirstsAreNoted pass.physicals (physical_seen shape pass.seen.items)
  pub blocks : length pass.erased.items ≡ geometry.blocks

-- a pass before the first page of a medium of so many blocks
pub record IsFreshPass (blocks : ℕ) (pass : Pass) : Type 0 where
  pub no_pages : pass.seen.items ≡ []
  pub all_erased : pass.erased.items ≡ replicate blocks true
  pub no_virtuals : pass.virtuals.entries ≡ []
  pub no_physicals : pass.physicals.entries ≡ []
  pub no_newest : pass.newest ≡ no_super
  pub no_greatest : pass.greatest ≡ 0
