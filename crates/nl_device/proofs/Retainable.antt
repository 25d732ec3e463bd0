-- Beside a spare block each stamp that is needed has a place, so that the list of a scan tells which pointers can be retained.
use Rattle.std.proofs.Common.{◌≡◌, ℕ, ◌*◌, ◌/◌, ◌<◌, ◌≤◌, ◌==◌, ◌&&◌, ◌||◌, not, Bool, true, List, length, get_or, map, Option, Some, None, is_some, option_map, refl, sym, ◌∙◌, ap, subst, arith, ⊎_elim}
use Rattle.std.specs.Prelude.{IsSome, find}
use Rattle.std.specs.List.{list_any, range_with_len}
use Rattle.std.proofs.lemmas.Bool.{cases_Bool, cond-false, cond-true, true≢false}
use Rattle.std.proofs.lemmas.List.{get_or-map, length-map}
use Rattle.std.proofs.lemmas.List.Elements.{filter_agree}
use Rattle.std.proofs.lemmas.List.Folds.{Any-from_list_any, list_all_at, list_any_at}
use Rattle.nl_field.specs.Space.{is_outside}
use Rattle.nl_field.specs.declared.pointer.Pointer.{Pointer}
use Rattle.nl_field.specs.declared.seen.Seen.{Seen}
use Rattle.nl_field.specs.declared.shape.Shape.{Shape}
use Rattle.nl_field.specs.ScanList.{is_lost_seen}
use Rattle.nl_device.specs.Kept.{KeptPages, is_at_name, kept_of_scan, place_among, spare_among}
use Rattle.nl_device.specs.Reopened.{CanBeRetained}
use Rattle.nl_device.specs.Retain.{CanRetain, is_stale}
use Rattle.nl_device.specs.declared.kept.page.KeptPage.{KeptPage}
use Rattle.nl_device.proofs.Alone.{Passes, both, can_erase, finds_one, found_passes, has_copy, is_copy}
use Rattle.nl_device.proofs.Found.{lost_is, owns_is, spare_is, stamp_is}
use Rattle.nl_device.proofs.Lookups.{is_number, number_is}
use Rattle.nl_device.proofs.Places.{least}

abbrev passes : KeptPages → ℕ → Pointer → KeptPage → Bool
passes kept block p k = k.stamp == p.stamp && is_outside kept.size (Some block) k.page

-- a needed stamp has a page outside the spare block
outside : (kept : KeptPages) (stamps : List ℕ) (block : ℕ) (p : Pointer) (k : KeptPage) → can_erase kept.size kept.pages stamps block ≡ true → list_any (λ s. s == p.stamp) stamps ≡ true → find (λ k. k.stamp == p.stamp) kept.pages ≡ Some k
    → (x : KeptPage) × (find (passes kept block p) kept.pages ≡ Some x)
outside kept stamps block p k spare listed found = ⊎_elim
    (λ here.
    let needed : (k.page / kept.size == block && list_any (λ s. s == k.stamp) stamps) ≡ true = (λ i. here i && (ap (λ n. list_any (λ s. s == n) stamps) stamp ∙ listed) i) in
    let copied : has_copy kept.size kept.pages block k ≡ true = ⊎_elim (λ has. has) (λ none. absurd (true≢false (sym spare ∙ list_all_at test kept.pages one.at k one.within (ap test (one.is k) ∙ (λ i. not (needed i) || none i))))) (cases_Bool (has_copy kept.size kept.pages block k)) in
    let q = Any-from_list_any (is_copy kept.size block k) kept.pages copied in
    let parts = both (not (q.1.page / kept.size == block)) (q.1.stamp == k.stamp) q.4 in
    finds_one (passes kept block p) kept.pages q.0 q.1 q.2 (ap (passes kept block p) q.3 ∙ (λ i. is_number q.1.stamp p.stamp (number_is q.1.stamp k.stamp parts.1 ∙ stamp) i && parts.0 i)))
    (λ there. finds_one (passes kept block p) kept.pages one.at k one.within (ap (passes kept block p) (one.is k) ∙ (λ i. one.passes i && not (there i))))
    (cases_Bool (k.page / kept.size == block))
  where
    test : KeptPage → Bool
    test r = not (r.page / kept.size == block && list_any (λ s. s == r.stamp) stamps) || list_any (λ q. not (q.page / kept.size == block) && q.stamp == r.stamp) kept.pages

    one : Passes (λ (k : KeptPage). k.stamp == p.stamp) kept.pages k
    one = found_passes (λ (k : KeptPage). k.stamp == p.stamp) kept.pages k found

    stamp : k.stamp ≡ p.stamp
    stamp = number_is k.stamp p.stamp one.passes

place_some : (kept : KeptPages) (stamps : List ℕ) (p : Pointer) (k : KeptPage) → IsSome (spare_among kept stamps) → list_any (λ s. s == p.stamp) stamps ≡ true → find (λ k. k.stamp == p.stamp) kept.pages ≡ Some k → IsSome (place_among kept (spare_among kept stamps) p)
unfolding spare_among place_among
place_some kept stamps p k some listed found = by (spare_among kept stamps) refl some
  where
    by : (o : Option ℕ) → spare_among kept stamps ≡ o → IsSome o → IsSome (place_among kept o p)
    by None none is = absurd (true≢false (sym is))
    by (Some block) spare is = ⊎_elim
        (λ at. ap is_some (cond-true (is_at_name kept (Some block) p) (Some p.name) (least kept.size (Some block) kept.pages p.stamp) at))
        (λ away.
        let erases = (found_passes (can_erase kept.size kept.pages stamps) (range_with_len kept.first kept.count) block spare).passes in
        let x = outside kept stamps block p k erases listed found in
        ap is_some (cond-false (is_at_name kept (Some block) p) (Some p.name) (least kept.size (Some block) kept.pages p.stamp) away) ∙ ap (λ (o : Option KeptPage). is_some (option_map (λ (k : KeptPage). k.page) o)) x.1)
        (cases_Bool (is_at_name kept (Some block) p))

pub can_be_retained : (shape : Shape) (seen : List Seen) (pointers : List Pointer) → CanBeRetained shape seen pointers → CanRetain (kept_of_scan shape seen) pointers
can_be_retained shape seen pointers can = record {
  spare = subst IsSome (sym (spare_is shape seen (map (λ (p : Pointer). p.stamp) pointers))) can.spare;
  placed = λ i d within.
      let p = get_or pointers i d in
      let one = Any-from_list_any (λ (k : KeptPage). k.stamp == p.stamp) (kept_of_scan shape seen).pages (stamp_is shape seen p.stamp ∙ can.found i d within) in
      let k = finds_one (λ (k : KeptPage). k.stamp == p.stamp) (kept_of_scan shape seen).pages one.0 one.1 one.2 (ap (λ (k : KeptPage). k.stamp == p.stamp) one.3 ∙ one.4) in
      let stamps = map (λ (p : Pointer). p.stamp) pointers in
      let inside : i < length stamps = let count = length-map pointers (λ (p : Pointer). p.stamp) in omega (arith, within, count) in
      let listed : list_any (λ s. s == p.stamp) stamps ≡ true = list_any_at (λ s. s == p.stamp) stamps i p.stamp inside (is_number (get_or stamps i p.stamp) p.stamp (get_or-map (λ (p : Pointer). p.stamp) pointers i d p.stamp within)) in
      place_some (kept_of_scan shape seen) stamps p k.0 (subst IsSome (sym (spare_is shape seen stamps)) can.spare) listed k.1;
  differ = can.differ;
  names_differ = can.names_differ;
  own = λ i d within. owns_is shape seen (get_or pointers i d) ∙ can.own i d within;
  few_lost = subst (λ (l : List Pointer). length l ≤ 3 * shape.pages) (sym (filter_agree (is_stale (kept_of_scan shape seen)) (is_lost_seen shape seen) (lost_is shape seen) pointers)) can.few_lost;
}
