-- What the tables lead to where pages of the medium have changed.
use Rattle.std.proofs.Common.{◌≡◌, ℕ, ◌<◌, true, List, Option, Some, None, refl, sym, ◌∙◌, ap}
use Rattle.nl_field.specs.Page.{Image, page_at}
use Rattle.nl_pagemap.specs.Mapped.{bytes_by, named_by, named_on}
use Rattle.nl_pagemap_names.specs.declared.entry.Entry.{Entry}
use Rattle.nl_pseg_pages.specs.Pages.{main_of, shown_by}
use Rattle.nl_vseg.specs.Pages.{fact_of, main_of as value_of}
use Rattle.nl_vseg.specs.Places.{AreBelow, map_of, place_of, value_at}
use Rattle.nl_vseg.specs.Segment.{IsSegmentOf, Segment, is_taken_as_erased}
use Rattle.nl_vseg.specs.declared.place.Place.{Place}

-- the page of an entry is as it was
pub named_same : (old new : Image) (o : Option Entry) → ((e : Entry) → o ≡ Some e → page_at new e.page ≡ page_at old e.page) → named_by new o ≡ named_by old o
named_same old new None same = refl
named_same old new (Some e) same = ap (λ page. named_on (shown_by page)) (same e refl)

pub bytes_same : (old new : Image) (o : Option Entry) → ((e : Entry) → o ≡ Some e → page_at new e.page ≡ page_at old e.page) → bytes_by new o ≡ bytes_by old o
bytes_same old new None same = refl
bytes_same old new (Some e) same = ap main_of (same e refl)

-- the pages of the addresses are as they were
pub map_same : (bound : ℕ) (places : List (Option Place)) (old new : Image) → AreBelow bound places → ((p : ℕ) → p < bound → page_at new p ≡ page_at old p) → (v : ℕ)
    → map_of places new v ≡ map_of places old v
map_same bound places old new below same v = by (place_of places v) refl
  where
    by : (o : Option Place) → place_of places v ≡ o → value_at new o ≡ value_at old o
    by None is = refl
    by (Some place) is = ap (λ page. Some (place.stamp, value_of page)) (same place.page (below v place is))

pub segment_same : (seg : Segment) (old new : Image) → AreBelow seg.bound seg.places → ((p : ℕ) → is_taken_as_erased seg p ≡ true → p < seg.bound)
    → ((p : ℕ) → p < seg.bound → page_at new p ≡ page_at old p) → IsSegmentOf old seg → IsSegmentOf new seg
segment_same seg old new below inside same is = record {
  holds = λ v place at.
      let e = same place.page (below v place at) in
      ap fact_of e ∙ (is.holds v place at ∙ ap (λ page. Some (v, place.stamp, value_of page)) (sym e));
  erased_is = λ p taken. same p (inside p taken) ∙ is.erased_is p taken;
}
