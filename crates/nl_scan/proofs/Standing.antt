-- A pass after one more page.
use Rattle.std.proofs.Common.{◌≡◌, ◌↔◌, ℕ, zero, suc, ◌+◌, ◌*◌, ◌/◌, ◌<◌, ◌≤◌, ◌^◌, Bool, false, List, [], ◌∷◌, ◌++◌, length, Some, None, IsTrue, All, sym, ◌∙◌, ap, subst, arith, ⊎_elim, max, get_or, set}
use Rattle.std.specs.Prelude.{option_map, nat_le, nat_lt, ◌&&◌}
use Rattle.std.specs.List.{AllPairs}
use Rattle.std.proofs.Math.Nat.{mul-le-mul_right, add-mul}
use Rattle.std.proofs.lemmas.Bool.{and_parts, ltb-true, cases_eq, cases_lt, cases_order, both_ways}
use Rattle.std.proofs.lemmas.List.{length_push, get_or-set_same, get_or-set_other}
use Rattle.std.proofs.lemmas.List.Elements.{All-push, All-weaker, All-get_or}
use Rattle.std.proofs.lemmas.List.Quantifiers.{all_pairs_push}
use Rattle.std.proofs.lemmas.List.Sums.{fold-append}
use Rattle.nl_field.specs.Page.{Page, PageBytes, erased, written, Image, page_at}
use Rattle.nl_field.specs.SpareRecord.{spare_rec_of, is_spare, stamp_of}
use Rattle.nl_field.specs.declared.spare.SpareRec.{SpareRec}
use Rattle.nl_field.specs.declared.shape.Shape.{Shape}
use Rattle.nl_field.specs.Medium.{readable, shape_of_image}
use Rattle.nl_field.specs.ScanList.{virtual_seen, physical_seen}
use Rattle.nl_nand.specs.Nand.{ImageOf}
use Rattle.nl_nand.specs.ImageLaws.{image_size}
use Rattle.nl_nand.specs.declared.geometry.Geometry.{Geometry}
use Rattle.nl_scan.specs.declared.pass.Pass.{Pass}
use Rattle.nl_field.specs.declared.seen.Seen.{Seen}
use Rattle.nl_scan.specs.Tables.{IsSeen, greatest_stamp}
use Rattle.nl_scan.specs.Passes.{AreFirsts, FirstsAreNoted, NotedIn, Added, KnowsPages, KnowsBlocks, ErasedBelow, IsPassBelow}
use Rattle.nl_scan.proofs.Knowing.{knows_more, knows_same}
use Rattle.nl_scan.proofs.Noting.{virtuals_more, physicals_more}

small_stamp : (s : ℕ) → IsTrue (nat_le 1 s && nat_lt s (2 ^ 63)) → s < 2 ^ 63
small_stamp s is = ltb-true s (2 ^ 63) (and_parts (nat_le 1 s) (nat_lt s (2 ^ 63)) is).1

greatest_more : (seen : List Seen) (s : Seen) → greatest_stamp (seen ++ s ∷ []) ≡ max (greatest_stamp seen) (stamp_of s.rec)
unfolding greatest_stamp
greatest_more seen s = fold-append (λ best s. max best (stamp_of s.rec)) 0 seen (s ∷ [])

pub stands_more : (geometry : Geometry) (shape : Shape) (at : ℕ) (old new : Pass) (s : Seen) (main : List ℕ) → IsPassBelow geometry shape at old → s.page ≡ at → IsTrue (is_spare s.rec) → s.zeros ≤ 4096
    → new.seen.items ≡ old.seen.items ++ s ∷ [] → new.greatest ≡ max old.greatest (stamp_of s.rec)
    → AreFirsts (geometry.blocks * geometry.pages) new.virtuals → AreFirsts (geometry.blocks * geometry.pages) new.physicals
    → NotedIn shape (record { page = s.page; rec = s.rec; main = main }) s.agrees old.virtuals new.virtuals old.physicals new.physicals
    → length new.erased.items ≡ length old.erased.items → IsPassBelow geometry shape (at + 1) new
stands_more geometry shape at old new s main stands number spelled short seen greatest virtuals physicals noted blocks =
    record {
      rising = subst (AllPairs (λ a b. a.page < b.page)) (sym seen)
          (all_pairs_push (λ a b. a.page < b.page) old.seen.items s stands.rising (λ k d lt. let earlier = (All-get_or (IsSeen at) old.seen.items k d lt stands.pages).within in omega arith));
      pages = subst (All (IsSeen (at + 1))) (sym seen)
          (All-push (IsSeen (at + 1)) old.seen.items s (All-weaker (IsSeen at) (IsSeen (at + 1)) (λ x is. record { within = let w = is.within in omega arith; spelled = is.spelled; short = is.short }) old.seen.items stands.pages)
          (record { within = omega arith; spelled = spelled; short = short }));
      few = let e = ap length seen ∙ length_push old.seen.items s in omega (arith, stands.few);
      is_greatest = greatest ∙ ap (λ (n : ℕ). max n (stamp_of s.rec)) stands.is_greatest ∙ sym (greatest_more old.seen.items s) ∙ ap greatest_stamp (sym seen);
      small = omega (arith, greatest, stands.small, small_stamp (stamp_of s.rec) spelled);
      virtuals = virtuals;
      physicals = physicals;
      noted_virtuals = subst (λ (l : List Seen). FirstsAreNoted new.virtuals (virtual_seen shape l)) (sym seen) (virtuals_more shape old.seen.items s main old.virtuals new.virtuals stands.noted_virtuals noted.in_virtual);
      noted_physicals = subst (λ (l : List Seen). FirstsAreNoted new.physicals (physical_seen shape l)) (sym seen) (physicals_more shape old.seen.items s main old.physicals new.physicals stands.noted_physicals noted.in_physical);
      blocks = blocks ∙ stands.blocks;
    }

-- a page of the medium is one of its contents
pub in_contents : (geometry : Geometry) (image : Image) (page : ℕ) → ImageOf geometry image → page < geometry.blocks * geometry.pages → page < length image.contents
in_contents geometry image page fits below = subst (λ (n : ℕ). page < n) (sym (image_size image fits.whole ∙ (λ i. fits.blocks i * fits.pages i))) below

-- a page that is not readable
pub read_other : (image : Image) (at : ℕ) (page : Page) (pass : Pass) → at < length image.contents → page_at image at ≡ page → readable (at, page) ≡ None → KnowsPages image at pass → KnowsPages image (at + 1) pass
read_other image at page pass below is none knows = knows_same image at pass below (ap (λ (x : Page). readable (at, x)) is ∙ none) knows

pub read_unspelled : (image : Image) (at : ℕ) (bytes : PageBytes) (spare : List ℕ) (pass : Pass) → at < length image.contents → page_at image at ≡ written bytes → spare ≡ bytes.spare → None ≡ spare_rec_of spare
    → KnowsPages image at pass → KnowsPages image (at + 1) pass
read_unspelled image at bytes spare pass below is its_spare none knows =
    read_other image at (written bytes) pass below is (ap (option_map (λ rec. record { page = at; rec = rec; main = bytes.main })) (ap spare_rec_of (sym its_spare) ∙ sym none)) knows

-- a readable page
pub read_some : (image image' : Image) (shape : Shape) (at : ℕ) (bytes : PageBytes) (spare : List ℕ) (rec : SpareRec) (old new : Pass) → at < length image.contents → page_at image at ≡ written bytes
    → spare ≡ bytes.spare → Some rec ≡ spare_rec_of spare → image' ≡ image → shape ≡ shape_of_image image → KnowsPages image at old
    → Added image' shape (record { page = at; rec = rec; main = bytes.main }) old new → KnowsPages image (at + 1) new
read_some image image' shape at bytes spare rec old new below is its_spare some same its_shape knows added =
    knows_more image at (record { page = at; rec = rec; main = bytes.main }) old new below
    (ap (λ (x : Page). readable (at, x)) is ∙ ap (option_map (λ found. record { page = at; rec = found; main = bytes.main })) (ap spare_rec_of (sym its_spare) ∙ sym some))
    knows
    (subst (λ (s : Shape). Added image s (record { page = at; rec = rec; main = bytes.main }) old new) its_shape
    (subst (λ (x : Image). Added x shape (record { page = at; rec = rec; main = bytes.main }) old new) same added))

-- the block of a page
record BlockOf (at pages block : ℕ) : Type 0 where
  low : block * pages ≤ at
  high : at < block * pages + pages

not_before : (at pages block other : ℕ) → BlockOf at pages block → BlockOf at pages other → block < other → ⊥
not_before at pages block other one two before =
    let room : (block + 1) * pages ≤ other * pages = mul-le-mul_right pages (omega arith) in
    let split : (block + 1) * pages ≡ block * pages + 1 * pages = add-mul block 1 pages in
    omega arith

one_block : (at pages block other : ℕ) → BlockOf at pages block → BlockOf at pages other → block ≡ other
one_block at pages block other one two =
    ⊎_elim
    (λ same. same)
    (λ apart. ⊎_elim
    (λ before. absurd (not_before at pages block other one two before))
    (λ behind. absurd (not_before at pages other block two one behind))
    apart)
    (cases_order block other)

its_block : (at pages : ℕ) → 0 < pages → BlockOf at pages (at / pages)
its_block at pages some = record { low = omega arith; high = omega arith }

within_blocks : (at pages blocks : ℕ) → 0 < pages → at < blocks * pages → at / pages < blocks
within_blocks at pages blocks some below =
    ⊎_elim
    (λ within. within)
    (λ past. absurd (let room : blocks * pages ≤ at / pages * pages = mul-le-mul_right pages past in let low = (its_block at pages some).low in omega arith))
    (cases_lt (at / pages) blocks)

some_pages : (at blocks pages : ℕ) → at < blocks * pages → 0 < pages
some_pages at blocks zero below = omega arith
some_pages at blocks (suc n) below = omega arith

marked_block : (image : Image) (at : ℕ) (marks : List Bool) (block : ℕ) → BlockOf at image.pages block → block < length marks → (page_at image at ≡ erased → ⊥)
    → IsTrue (get_or (set marks block false) block false) ↔ ErasedBelow image (at + 1) block
marked_block image at marks block its below other = (
  (λ is. absurd (both_ways (get_or (set marks block false) block false) (get_or-set_same marks block false false below) is)),
  (λ all. absurd (other (all at its.low its.high (omega arith)))),
)

other_block : (image : Image) (at : ℕ) (block : ℕ) → (BlockOf at image.pages block → ⊥) → ErasedBelow image at block ↔ ErasedBelow image (at + 1) block
other_block image at block apart = (
  (λ so_far p low high end. ⊎_elim
      (λ below. so_far p low high below)
      (λ from. absurd (apart (let here : p ≡ at = omega arith in record { low = omega arith; high = omega arith })))
      (cases_lt p at)),
  (λ so_far p low high end. so_far p low high (omega arith)),
)

pub blocks_marked : (image : Image) (at pages : ℕ) (marks : List Bool) → pages ≡ image.pages → at < image.blocks * image.pages → length marks ≡ image.blocks → (page_at image at ≡ erased → ⊥)
    → KnowsBlocks image at marks → KnowsBlocks image (at + 1) (set marks (at / pages) false)
blocks_marked image at pages marks same below size other knows = subst (λ (n : ℕ). KnowsBlocks image (at + 1) (set marks (at / n) false)) (sym same) (record { each_block = each })
  where
    some : 0 < image.pages
    some = some_pages at image.blocks image.pages below

    here : at / image.pages < length marks
    here = subst (λ (n : ℕ). at / image.pages < n) (sym size) (within_blocks at image.pages image.blocks some below)

    each : (block : ℕ) → block < image.blocks → IsTrue (get_or (set marks (at / image.pages) false) block false) ↔ ErasedBelow image (at + 1) block
    each block in_range =
        ⊎_elim
        (λ is. subst (λ (b : ℕ). IsTrue (get_or (set marks (at / image.pages) false) b false) ↔ ErasedBelow image (at + 1) b) (sym is) (marked_block image at marks (at / image.pages) (its_block at image.pages some) here other))
        (λ apart.
        let kept = get_or-set_other marks (at / image.pages) block false false apart in
        let before = knows.each_block block in_range in
        let after = other_block image at block (λ its. apart (one_block at image.pages block (at / image.pages) its (its_block at image.pages some))) in
        ((λ is. after.0 (before.0 (sym kept ∙ is))), (λ all. kept ∙ before.1 (after.1 all))))
        (cases_eq block (at / image.pages))
