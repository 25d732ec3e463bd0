-- What holds of pages in memory holds with another super page.
use Rattle.std.proofs.Common.{◌≡◌, ◌⊎◌, inl, inr, ⊎_elim, ℕ, ◌<◌, ◌≤◌, ◌==◌, nat_lt, Bool, not, List, [], ◌∷◌, length, filter, Some, None, IsSome, is_some, refl, sym, ap, subst, ◌∙◌, arith, ne_eqb}
use Rattle.std.proofs.lemmas.Bool.{cases_eq, cond-false, le-ltb, lt-ltb, not_from_false}
use Rattle.std.proofs.lemmas.List.{get_or-set_other, get_or-set_same, length-append}
use Rattle.std.proofs.lemmas.List.Elements.{filter-append}
use Rattle.nl_meta.specs.Pages.{IsPages, Pages, above, below, besides_0, page_of, with_address}
use Rattle.nl_meta.specs.Steps.{with_dirty}
use Rattle.nl_meta.proofs.Rising.{filtered_few, with-member, with-rises}
use Rattle.nl_journal_commit.proofs.Places.{resident_below}

abbrev is_other : ℕ → Bool
is_other a = not (a == 0)

above_is : (a : ℕ) → nat_lt 0 a ≡ is_other a
above_is a = by (cases_eq a 0)
  where
    more : (a ≡ 0 → ⊥) → 0 < a
    more far = omega (arith, far)

    by : (a ≡ 0) ⊎ (a ≡ 0 → ⊥) → nat_lt 0 a ≡ is_other a
    by (inl e) = ap (λ (n : ℕ). nat_lt 0 n) e ∙ ap (λ (n : ℕ). not (n == 0)) (sym e)
    by (inr far) = lt-ltb 0 a (more far) ∙ sym (not_from_false _ (ne_eqb a 0 far))

above_0 : (xs : List ℕ) → above 0 xs ≡ besides_0 xs
above_0 xs = λ i. filter (λ a. above_is a i) xs

below_0 : (xs : List ℕ) → below 0 xs ≡ []
below_0 [] = refl
below_0 (x ∷ xs) = cond-false (nat_lt x 0) _ _ (le-ltb x 0 (omega arith)) ∙ below_0 xs

-- address 0 does not count among the others
no_more : (xs : List ℕ) → length (besides_0 (with_address 0 xs)) ≤ length (besides_0 xs)
unfolding with_address
no_more xs =
    let all = ap length (filter-append is_other (below 0 xs) (0 ∷ above 0 xs)) ∙ length-append (besides_0 (below 0 xs)) (besides_0 (above 0 xs)) in
    let none : length (besides_0 (below 0 xs)) ≡ 0 = ap (λ (ys : List ℕ). length (besides_0 ys)) (below_0 xs) in
    let few = filtered_few is_other (above 0 xs) in
    let same = ap length (above_0 xs) in
    omega (arith, all, none, few, same)

pub super_page_held : (pages : Pages) (bytes : List ℕ) → IsPages pages → IsSome (page_of pages 0) → IsPages (with_dirty pages 0 bytes)
super_page_held pages bytes is there = record {
  dirty_rise = with-rises 0 pages.dirty is.dirty_rise;
  dirty_there = λ v has. ⊎_elim (λ e. subst (λ u. IsSome (page_of (with_dirty pages 0 bytes) u)) e here) (λ more. still v (is.dirty_there v more)) (with-member 0 pages.dirty v has);
  few_dirty = let a = no_more pages.dirty in let b = is.few_dirty in omega (arith, a, b);
  frozen_rise = is.frozen_rise;
  frozen_images = is.frozen_images;
  few_frozen = is.few_frozen;
}
  where
    here : IsSome (page_of (with_dirty pages 0 bytes) 0)
    here = ap is_some (get_or-set_same pages.running 0 (Some bytes) None (resident_below pages 0 there))

    still : (v : ℕ) → IsSome (page_of pages v) → IsSome (page_of (with_dirty pages 0 bytes) v)
    still v some = ⊎_elim (λ e. subst (λ u. IsSome (page_of (with_dirty pages 0 bytes) u)) (sym e) here)
        (λ ne. ap is_some (get_or-set_other pages.running 0 v (Some bytes) None ne) ∙ some) (cases_eq v 0)
