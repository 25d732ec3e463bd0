-- A pass before its first page, and what it gives after its last.
use Rattle.std.proofs.Common.{◌≡◌, ℕ, ◌+◌, ◌*◌, ◌<◌, ◌≤◌, Bool, true, false, List, [], length, IsTrue, All, refl, sym, ◌∙◌, ap, subst, arith, map, get_or, ⊎_elim}
use Rattle.std.specs.Prelude.{fold, nat_le, ◌&&◌, IfSome}
use Rattle.std.specs.List.{AllPairs}
use Rattle.std.specs.Map.{lookup}
use Rattle.std.specs.BTreeMap.{BTreeMap}
use Rattle.std.specs.Ordering.{nat_cmp, is_eq}
use Rattle.std.proofs.lemmas.Bool.{and_parts, leb-true}
use Rattle.std.proofs.lemmas.List.{get_or-replicate, length-replicate}
use Rattle.std.proofs.lemmas.List.Elements.{All-nil}
use Rattle.nl_field.specs.Numbers.{is_legal, shape_for}
use Rattle.nl_field.specs.Page.{Image}
use Rattle.nl_field.specs.Medium.{Readable, readable_pages, shape_of_image}
use Rattle.nl_nand.specs.Nand.{ImageOf, IsLegal}
use Rattle.nl_nand.specs.ImageLaws.{image_size}
use Rattle.nl_nand.specs.declared.geometry.Geometry.{Geometry}
use Rattle.nl_field.specs.declared.shape.Shape.{Shape}
use Rattle.nl_scan.specs.declared.firsts.First.{First}
use Rattle.nl_scan.specs.declared.pass.Pass.{Pass}
use Rattle.nl_field.specs.declared.seen.Seen.{Seen}
use Rattle.nl_scan.specs.Supers.{no_super, super_after}
use Rattle.nl_scan.specs.Tables.{IsSeen, IsSeenTable, IsTableOf, FitsMedium, greatest_stamp}
use Rattle.nl_field.specs.ScanList.{seen_of, virtual_seen, physical_seen}
use Rattle.nl_field.proofs.ScanLists.{each as listed}
use Rattle.nl_scan.specs.Passes.{AreFirsts, FirstsAreNoted, IsFirst, IsFreshPass, KnowsBlocks, IsPassBelow}
use Rattle.nl_scan.proofs.Noting.{no_virtuals, no_physicals, none_virtual, none_physical, one_record}
use Rattle.nl_scan.proofs.Readables.{below_all, below_none}
use Rattle.nl_scan.proofs.Supers.{version_found}
use Rattle.nl_scan.proofs.Whole.{pages_spelled, greatest_is}

pub fresh_blocks : (image : Image) (blocks : ℕ) (pass : Pass) → image.blocks ≡ blocks → IsFreshPass blocks pass → KnowsBlocks image 0 pass.erased.items
fresh_blocks image blocks pass same fresh =
    record {
      each_block = λ block below. (
        (λ is p low high end. absurd (omega arith)),
        (λ all. ap (λ (l : List Bool). get_or l block false) fresh.all_erased ∙ get_or-replicate blocks block true false (omega (arith, same, below))),
      );
    }

no_firsts : (pages : ℕ) (firsts : BTreeMap ℕ First) → firsts.entries ≡ [] → AreFirsts pages firsts
no_firsts pages firsts none stamp = subst (λ (es : List (ℕ × First)). IfSome (lookup (λ k. is_eq (nat_cmp stamp k)) es) (IsFirst pages)) (sym none) tt

none_greatest : greatest_stamp [] ≡ 0
unfolding greatest_stamp
none_greatest = refl

no_pairs : {X : Type 0} (R : X → X → Type 0) → AllPairs R []
no_pairs R i j d before below = absurd (omega arith)

pub fresh_stands : (geometry : Geometry) (shape : Shape) (pass : Pass) → IsFreshPass geometry.blocks pass → IsPassBelow geometry shape 0 pass
fresh_stands geometry shape pass fresh =
    record {
      rising = subst (AllPairs (λ a b. a.page < b.page)) (sym fresh.no_pages) (no_pairs (λ a b. a.page < b.page));
      pages = subst (All (IsSeen 0)) (sym fresh.no_pages) (All-nil (IsSeen 0));
      few = omega (arith, ap (λ (l : List Seen). length l) fresh.no_pages);
      is_greatest = fresh.no_greatest ∙ sym none_greatest ∙ ap greatest_stamp (sym fresh.no_pages);
      small = omega (arith, fresh.no_greatest);
      virtuals = no_firsts (geometry.blocks * geometry.pages) pass.virtuals fresh.no_virtuals;
      physicals = no_firsts (geometry.blocks * geometry.pages) pass.physicals fresh.no_physicals;
      noted_virtuals = subst (λ (l : List Seen). FirstsAreNoted pass.virtuals (virtual_seen shape l)) (sym fresh.no_pages) (no_virtuals shape pass.virtuals);
      noted_physicals = subst (λ (l : List Seen). FirstsAreNoted pass.physicals (physical_seen shape l)) (sym fresh.no_pages) (no_physicals shape pass.physicals);
      blocks = ap (λ (l : List Bool). length l) fresh.all_erased ∙ length-replicate geometry.blocks true;
    }

pub pages_of : (blocks pages : ℕ) → (shape_for blocks pages).pages ≡ pages
unfolding shape_for
pages_of blocks pages = refl

pub size_of : (geometry : Geometry) (image : Image) → ImageOf geometry image → length image.contents ≡ geometry.blocks * geometry.pages
size_of geometry image fits = image_size image fits.whole ∙ (λ i. fits.blocks i * fits.pages i)

pub shape_fits : (geometry : Geometry) (image : Image) → ImageOf geometry image → shape_for geometry.blocks geometry.pages ≡ shape_of_image image
shape_fits geometry image fits = λ i. shape_for (sym fits.blocks i) (sym fits.pages i)

pub fits_medium : (geometry : Geometry) (pass : Pass) → IsPassBelow geometry (shape_for geometry.blocks geometry.pages) (geometry.blocks * geometry.pages) pass
    → FitsMedium geometry (record { seen = pass.seen.items; erased = pass.erased.items; version = pass.newest.version })
fits_medium geometry pass stands =
    record {
      rising = stands.rising;
      pages = stands.pages;
      blocks = stands.blocks;
      virtuals = one_record pass.virtuals (virtual_seen (shape_for geometry.blocks geometry.pages) pass.seen.items) stands.noted_virtuals;
      physicals = one_record pass.physicals (physical_seen (shape_for geometry.blocks geometry.pages) pass.seen.items) stands.noted_physicals;
    }

few_pages : (blocks pages : ℕ) → IsTrue (is_legal blocks pages) → blocks * pages ≤ 262144
few_pages blocks pages legal = leb-true (blocks * pages) 262144 (and_parts (nat_le 32 blocks && nat_le blocks 4096 && nat_le 32 pages && nat_le pages 256) (nat_le (blocks * pages) 262144) legal).1

pub is_kept : (geometry : Geometry) (shape : Shape) (pass : Pass) → IsTrue (is_legal geometry.blocks geometry.pages) → IsPassBelow geometry shape (geometry.blocks * geometry.pages) pass → IsSeenTable pass.seen.items pass.greatest
is_kept geometry shape pass legal stands = record { few = omega (arith, few_pages geometry.blocks geometry.pages legal, stands.few); is_greatest = stands.is_greatest; small = stands.small }

pub none_kept : IsSeenTable [] 0
none_kept = record { few = omega arith; is_greatest = sym none_greatest; small = omega arith }

-- a medium that was never formed
pub not_formed : (geometry : Geometry) → IsLegal geometry → (IsTrue (is_legal geometry.blocks geometry.pages) → ⊥) → geometry ≡ record { blocks = 0; pages = 0 }
not_formed geometry legal no' = ⊎_elim (λ is. absurd (no' is)) (λ is. is) legal

pub none_fits : (geometry : Geometry) → geometry ≡ record { blocks = 0; pages = 0 } → FitsMedium geometry (record { seen = []; erased = []; version = 0 })
none_fits geometry none =
    record {
      rising = no_pairs (λ a b. a.page < b.page);
      pages = All-nil (IsSeen (geometry.blocks * geometry.pages));
      blocks = sym (ap (λ (x : Geometry). x.blocks) none);
      virtuals = none_virtual (shape_for geometry.blocks geometry.pages);
      physicals = none_physical (shape_for geometry.blocks geometry.pages);
    }

pub none_table : (geometry : Geometry) (image : Image) → ImageOf geometry image → geometry ≡ record { blocks = 0; pages = 0 } → IsTableOf image (record { seen = []; erased = []; version = 0 })
none_table geometry image fits none =
    let no_pages : length image.contents ≡ 0 = size_of geometry image fits ∙ ap (λ (x : Geometry). x.blocks * x.pages) none in
    let empty : readable_pages image ≡ [] = sym (below_all image 0 (omega arith)) ∙ below_none image in
    let no_blocks : image.blocks ≡ 0 = fits.blocks ∙ ap (λ (x : Geometry). x.blocks) none in
    record {
      each_page = sym (listed image ∙ ap (map (seen_of image)) empty);
      next = ap (λ (l : List Seen). 1 + greatest_stamp l) (sym (ap (map (seen_of image)) empty)) ∙ greatest_is image;
      each_block = λ block below. absurd (omega arith);
      super_page = sym (ap (λ (l : List Readable). (fold super_after no_super l).version) empty) ∙ version_found image (pages_spelled image);
    }
