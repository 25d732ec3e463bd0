-- What users see of a segment, and what it keeps.
use Rattle.std.proofs.Common.{◌≡◌, inl, inr, ⊎_elim, ℕ, ◌+◌, ◌*◌, ◌/◌, ◌<◌, ◌≤◌, nat_le, nat_lt, Bool, true, false, not, refl, ◌&&◌, ◌||◌, length, get_or, map, sym, ◌∙◌, ap, subst, arith, mul-le-mul_right}
use Rattle.std.specs.List.{range_with_len}
use Rattle.std.proofs.Math.ListN.{get_or-map}
use Rattle.std.proofs.lemmas.List.{get_or_past}
use Rattle.std.proofs.lemmas.List.FromFn.{get_or-map-range_with_len, length-map-range_with_len}
use Rattle.std.proofs.lemmas.Bool.{false≢true, and_parts, and_from, or_cases, not-true, cases_lt, ltb-true, lt-ltb, leb-true, le-leb}
use Rattle.nl_field.specs.Page.{Image}
use Rattle.nl_blocks.specs.Table.{Table, block_at, no_row, row_at, wear_of}
use Rattle.nl_nand.specs.declared.geometry.Geometry.{Geometry}
use Rattle.nl_vseg.specs.Layout.{Layout, bound, is_soiled, block_is_free, LayoutHasUnmapped, SameLayoutShape, LayoutTakesAsErased, takes_as_erased, blanks, wears_of, shown, IsLayoutOf}
use Rattle.nl_vseg.specs.Segment.{SegmentHasUnmapped, SameSize, FitsSegment, IsSegmentOf}
use Rattle.nl_vseg.specs.Seen.{FitsLayout}
use Rattle.nl_vseg.proofs.Places.{block_below}

abbrev next : Layout → ℕ → Bool
next seg p = nat_le (seg.active * seg.table.size + seg.used) p && nat_lt p (seg.active * seg.table.size + seg.table.size)

abbrev clean : Layout → ℕ → Bool
clean seg p = block_is_free seg.table (p / seg.table.size) && not (is_soiled seg (p / seg.table.size))

pub taken_of : (seg : Layout) (p : ℕ) → takes_as_erased seg p ≡ true → LayoutTakesAsErased seg p
unfolding takes_as_erased
taken_of seg p is =
    let parts = and_parts (nat_lt p (bound seg)) (next seg p || clean seg p) is in (
      ltb-true p (bound seg) parts.0,
      ⊎_elim
          (λ n.
          let e = and_parts (nat_le (seg.active * seg.table.size + seg.used) p) (nat_lt p (seg.active * seg.table.size + seg.table.size)) n in
          inl (leb-true (seg.active * seg.table.size + seg.used) p e.0, ltb-true p (seg.active * seg.table.size + seg.table.size) e.1))
          (λ f.
          let e = and_parts (block_is_free seg.table (p / seg.table.size)) (not (is_soiled seg (p / seg.table.size))) f in
          inr (e.0, not-true (is_soiled seg (p / seg.table.size)) e.1))
          (or_cases (next seg p) (clean seg p) parts.1),
    )

or_left : (a b : Bool) → a ≡ true → (a || b) ≡ true
or_left a b is = ap (λ x. x || b) is

or_right : (a b : Bool) → b ≡ true → (a || b) ≡ true
or_right true b is = refl
or_right false b is = is

pub is_taken_of : (seg : Layout) (p : ℕ) → LayoutTakesAsErased seg p → takes_as_erased seg p ≡ true
unfolding takes_as_erased
is_taken_of seg p taken = and_from (nat_lt p (bound seg)) (next seg p || clean seg p) (lt-ltb p (bound seg) taken.0)
    (⊎_elim
    (λ n. or_left (next seg p) (clean seg p) (and_from (nat_le (seg.active * seg.table.size + seg.used) p) (nat_lt p (seg.active * seg.table.size + seg.table.size))
    (le-leb (seg.active * seg.table.size + seg.used) p n.0) (lt-ltb p (seg.active * seg.table.size + seg.table.size) n.1)))
    (λ f. or_right (next seg p) (clean seg p) (and_from (block_is_free seg.table (p / seg.table.size)) (not (is_soiled seg (p / seg.table.size))) f.0 (ap not f.1)))
    taken.1)

-- what users see as taken as erased is so
pub taken_blank : (seg : Layout) (p : ℕ) → LayoutTakesAsErased seg p → get_or (blanks seg) p false ≡ true
unfolding blanks
taken_blank seg p taken = get_or-map-range_with_len (takes_as_erased seg) 0 (bound seg) p p false taken.0 (omega arith) ∙ is_taken_of seg p taken

pub blank_taken : (seg : Layout) (p : ℕ) → get_or (blanks seg) p false ≡ true → LayoutTakesAsErased seg p
unfolding blanks
blank_taken seg p is = elim (cases_lt p (bound seg)) [
  | inl lt ↦ taken_of seg p (sym (get_or-map-range_with_len (takes_as_erased seg) 0 (bound seg) p p false lt (omega arith)) ∙ is)
  | inr past ↦
      let end : length (map (takes_as_erased seg) (range_with_len 0 (bound seg))) ≤ p = omega (arith, length-map-range_with_len (takes_as_erased seg) 0 (bound seg), past) in
      absurd (false≢true (sym (get_or_past (map (takes_as_erased seg) (range_with_len 0 (bound seg))) p false end) ∙ is))
]

-- the wear that users see
pub wear_at : (t : Table) (block : ℕ) → t.first ≡ 0 → get_or (wears_of t) block 0 ≡ (block_at t block).wear
unfolding wears_of
wear_at t block first = get_or-map wear_of t.blocks block no_row ∙ ap (λ n. wear_of (row_at t.blocks n)) (omega (arith, first))

pub layout_of : {image : Image} {seg : Layout} → IsSegmentOf image (shown seg) → IsLayoutOf image seg
layout_of {image} {seg} is = record { holds = is.holds; blank = λ p taken. is.erased_is p (taken_blank seg p taken) }

pub segment_from : {image : Image} {seg : Layout} → IsLayoutOf image seg → IsSegmentOf image (shown seg)
segment_from {image} {seg} is = record { holds = is.holds; erased_is = λ p taken. is.blank p (blank_taken seg p taken) }

-- a block whose pages are below the bound is one of the table
pub block_within : (block count pages : ℕ) → 0 < pages → block * pages + pages ≤ count * pages → block < count
block_within block count pages some within = elim (cases_lt block count) [
  | inl lt ↦ lt
  | inr ge ↦ let le : count * pages ≤ block * pages = mul-le-mul_right pages ge in absurd (omega (arith, le, within, some))
]

pub spare_of : {seg : Layout} → 0 < seg.table.size → SegmentHasUnmapped (shown seg) → LayoutHasUnmapped seg
spare_of {seg} some is = record { block = is.block; within = block_within is.block (length seg.table.blocks) seg.table.size some is.within; unmapped = is.unmapped }

pub spare_from : {seg : Layout} → LayoutHasUnmapped seg → SegmentHasUnmapped (shown seg)
spare_from {seg} is = record { block = is.block; within = block_below is.block (length seg.table.blocks) seg.table.size is.within; unmapped = is.unmapped }

pub fits_of : {geometry : Geometry} {seg : Layout} → 0 < seg.table.size → FitsSegment geometry (shown seg) → FitsLayout geometry seg
fits_of {geometry} {seg} some is = record {
  pages = is.same_pages;
  blocks = elim (cases_lt geometry.blocks (length seg.table.blocks)) [
    | inr ge ↦ ge
    | inl lt ↦
        let more : geometry.blocks * seg.table.size + seg.table.size ≤ length seg.table.blocks * seg.table.size = block_below geometry.blocks (length seg.table.blocks) seg.table.size lt in
        let within : length seg.table.blocks * seg.table.size ≤ geometry.blocks * seg.table.size = subst (λ n. bound seg ≤ geometry.blocks * n) is.same_pages is.within in
        absurd (omega (arith, more, within, some))
  ];
}

pub size_from : {old new : Layout} → SameLayoutShape old new → SameSize (shown old) (shown new)
size_from {old} {new} same = record { addresses = same.addresses; same_pages = same.pages; same_bound = λ i. same.blocks i * same.pages i }
