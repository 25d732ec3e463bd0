-- A pointer's place is a page of its stamp.
use Rattle.std.proofs.Common.{◌≡◌, ℕ, ◌+◌, ◌*◌, ◌<◌, ◌≤◌, ◌&&◌, ◌||◌, not, Bool, true, false, Option, Some, None, option_map, unwrap_or, refl, sym, ◌∙◌, ap, subst, ⊎_elim}
use Rattle.std.specs.Prelude.{◌==◌, IsSome, find}
use Rattle.std.specs.BTreeMap.{BTreeMap}
use Rattle.std.specs.List.{list_any}
use Rattle.std.proofs.Math.Nat.{div-lt_iff_lt-mul, le-div_iff_mul-le}
use Rattle.std.proofs.lemmas.Bool.{cases_Bool, cond-false, cond-true, true≢false}
use Rattle.std.proofs.lemmas.Option.{none-some, same_Some}
use Rattle.nl_field.specs.Space.{is_outside}
use Rattle.nl_field.specs.declared.pointer.Pointer.{Pointer}
use Rattle.nl_pseg.specs.Segment.{InSegment, Physical}
use Rattle.nl_device.specs.Kept.{AreKeptPages, IsOfSegment, KeptPages, has_stamp, is_at_name, place_among}
use Rattle.nl_device.specs.Retain.{IsSegmentFor, is_stale, owns_name, placed_at}
use Rattle.nl_device.specs.declared.kept.copies.Copies.{Copies}
use Rattle.nl_device.specs.declared.kept.page.KeptPage.{KeptPage}
use Rattle.nl_device.proofs.Alone.{any_one, both, found_passes}
use Rattle.nl_device.proofs.Lookups.{found_at, number_is, stamp_of_found, stamp_of_none}
use Rattle.nl_device.proofs.Places.{least}

-- the page was found, has the stamp of the pointer, and is outside the spare block
pub record IsThere (kept : KeptPages) (spare : Option ℕ) (p : Pointer) (page : ℕ) : Type 0 where
  pub kept_page : KeptPage
  pub found : find (λ k. k.page == page) kept.pages ≡ Some kept_page
  pub page_is : kept_page.page ≡ page
  pub stamp : kept_page.stamp ≡ p.stamp
  pub of : IsOfSegment kept.first kept.count kept.size kept_page
  pub outside : is_outside kept.size spare page ≡ true

at_name : (kept : KeptPages) (copies : BTreeMap ℕ Copies) (spare : Option ℕ) (p : Pointer) → AreKeptPages kept copies → is_at_name kept spare p ≡ true → IsThere kept spare p p.name
unfolding has_stamp
at_name kept copies spare p is at = by (find (λ k. k.page == p.name) kept.pages) refl
  where
    by : (o : Option KeptPage) → find (λ k. k.page == p.name) kept.pages ≡ o → IsThere kept spare p p.name
    by None none = absurd (true≢false (sym (both _ _ at).0 ∙ stamp_of_none kept.pages p.name p.stamp none))
    by (Some k) found =
        let one = found_passes (λ (k : KeptPage). k.page == p.name) kept.pages k found in
        record {
          kept_page = k;
          found = found;
          page_is = number_is k.page p.name one.passes;
          stamp = number_is k.stamp p.stamp (sym (stamp_of_found kept.pages p.name p.stamp k is.rising found) ∙ (both _ _ at).0);
          of = subst (IsOfSegment kept.first kept.count kept.size) (one.is k) (is.within one.at k one.within);
          outside = (both _ _ at).1;
        }

-- the first page of the stamp outside the block
elsewhere : (kept : KeptPages) (copies : BTreeMap ℕ Copies) (spare : Option ℕ) (p : Pointer) (page : ℕ) → AreKeptPages kept copies → least kept.size spare kept.pages p.stamp ≡ Some page → IsThere kept spare p page
elsewhere kept copies spare p page is place = by (find (λ k. k.stamp == p.stamp && is_outside kept.size spare k.page) kept.pages) refl place
  where
    by : (o : Option KeptPage) → find (λ k. k.stamp == p.stamp && is_outside kept.size spare k.page) kept.pages ≡ o → option_map (λ (k : KeptPage). k.page) o ≡ Some page → IsThere kept spare p page
    by None none some = absurd (none-some page some)
    by (Some k) found some =
        let here : k.page ≡ page = same_Some k.page page some in
        let one = found_passes (λ (k : KeptPage). k.stamp == p.stamp && is_outside kept.size spare k.page) kept.pages k found in
        let parts = both (k.stamp == p.stamp) (is_outside kept.size spare k.page) one.passes in
        record {
          kept_page = k;
          found = found_at kept.pages page one.at k is.rising one.within (ap (λ (q : KeptPage). q.page) (one.is k) ∙ here) ∙ ap (λ (q : KeptPage). Some q) (one.is k);
          page_is = here;
          stamp = number_is k.stamp p.stamp parts.0;
          of = subst (IsOfSegment kept.first kept.count kept.size) (one.is k) (is.within one.at k one.within);
          outside = ap (is_outside kept.size spare) (sym here) ∙ parts.1;
        }

pub there : (kept : KeptPages) (copies : BTreeMap ℕ Copies) (spare : Option ℕ) (p : Pointer) (page : ℕ) → AreKeptPages kept copies → place_among kept spare p ≡ Some page → IsThere kept spare p page
unfolding place_among
there kept copies spare p page is place = ⊎_elim
    (λ yes. subst (IsThere kept spare p) (same_Some p.name page (sym (cond-true (is_at_name kept spare p) (Some p.name) (least kept.size spare kept.pages p.stamp) yes) ∙ place)) (at_name kept copies spare p is yes))
    (λ fails. elsewhere kept copies spare p page is (sym (cond-false (is_at_name kept spare p) (Some p.name) (least kept.size spare kept.pages p.stamp) fails) ∙ place))
    (cases_Bool (is_at_name kept spare p))

-- where there is a place, it is this page
pub placed : (kept : KeptPages) (spare : Option ℕ) (p : Pointer) (page : ℕ) → place_among kept spare p ≡ Some page → placed_at kept spare p ≡ page
unfolding placed_at
placed kept spare p page is = ap (λ (o : Option ℕ). unwrap_or o p.name) is

pub place_is : (kept : KeptPages) (spare : Option ℕ) (p : Pointer) → IsSome (place_among kept spare p) → place_among kept spare p ≡ Some (placed_at kept spare p)
unfolding placed_at
place_is kept spare p some = by (place_among kept spare p) some
  where
    by : (o : Option ℕ) → IsSome o → o ≡ Some (unwrap_or o p.name)
    by None none = absurd (true≢false (sym none))
    by (Some page) is = refl

-- where the place is not the name, the named page does not have the stamp, or lies in the spare block
pub moved_why : (kept : KeptPages) (block : ℕ) (p : Pointer) → (placed_at kept (Some block) p ≡ p.name → ⊥) → is_stale kept p ≡ false → is_outside kept.size (Some block) p.name ≡ false
unfolding place_among
moved_why kept block p away found = ⊎_elim
    (λ yes. absurd (away (placed kept (Some block) p p.name (cond-true (is_at_name kept (Some block) p) (Some p.name) (least kept.size (Some block) kept.pages p.stamp) (stays (has_stamp kept.pages p.name p.stamp) (is_outside kept.size (Some block) p.name) found yes)))))
    (λ fails. fails)
    (cases_Bool (is_outside kept.size (Some block) p.name))
  where
    stays : (a b : Bool) → not a ≡ false → b ≡ true → (a && b) ≡ true
    stays true b has is = is
    stays false b has is = absurd (true≢false has)

-- a name that is owned names a page of the pointer's stamp, where it names one that was found
pub owned : (kept : KeptPages) (copies : BTreeMap ℕ Copies) (p : Pointer) (k : KeptPage) → AreKeptPages kept copies → owns_name kept p ≡ true → find (λ k. k.page == p.name) kept.pages ≡ Some k → k.stamp ≡ p.stamp
unfolding has_stamp
owned kept copies p k is owns found = ⊎_elim
    (λ has. number_is k.stamp p.stamp (sym (stamp_of_found kept.pages p.name p.stamp k is.rising found) ∙ has))
    (λ other.
    let one = found_passes (λ (k : KeptPage). k.page == p.name) kept.pages k found in
    let listed : list_any (λ (k : KeptPage). k.page == p.name) kept.pages ≡ true = any_one (λ (k : KeptPage). k.page == p.name) (λ (k : KeptPage). k.page == p.name) kept.pages k one one.passes in
    absurd (true≢false (sym owns ∙ (λ i. other i || not (listed i)))))
    (cases_Bool (list_any (λ k. k.page == p.name && k.stamp == p.stamp) kept.pages))

pub in_segment : (kept : KeptPages) (copies : BTreeMap ℕ Copies) (spare : Option ℕ) (p : Pointer) (page : ℕ) (seg : Physical) → AreKeptPages kept copies → IsSegmentFor kept seg → IsThere kept spare p page → InSegment seg page
in_segment kept copies spare p page seg is same t =
    let low : kept.first * kept.size ≤ t.kept_page.page = (le-div_iff_mul-le {k = kept.size} {x = kept.first} {y = t.kept_page.page} is.some).0 t.of.from_first in
    let high : t.kept_page.page < (kept.first + kept.count) * kept.size = (div-lt_iff_lt-mul {k = kept.size} {x = t.kept_page.page} {y = kept.first + kept.count} is.some).0 t.of.to_last in (
      subst (λ n. n ≤ page) (sym (λ i. same.first i * same.size i)) (subst (λ n. kept.first * kept.size ≤ n) t.page_is low),
      subst (λ n. page < n) (sym (λ i. same.blocks i * same.size i)) (subst (λ n. n < (kept.first + kept.count) * kept.size) t.page_is high),
    )
