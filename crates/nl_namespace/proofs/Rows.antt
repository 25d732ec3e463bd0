-- The pages of a directory that are resident.
use Rattle.std.proofs.Common.{◌≡◌, ℕ, ◌+◌, ◌<◌, List, get_or, IsSome, sym, subst, ◌⊎◌, inl, inr, arith}
use Rattle.std.proofs.lemmas.Bool.{cases_eq}
use Rattle.nl_meta.specs.Pages.{Pages, page_of}
use Rattle.nl_meta_running.specs.Holding.{HoldsPage}

-- the pages of one more row are resident
pub rows-more : (xs : List ℕ) (k : ℕ) (old new : Pages) → HoldsPage (get_or xs k 0) old new → ((i : ℕ) → i < k → IsSome (page_of old (get_or xs i 0)))
    → (i : ℕ) → i < k + 1 → IsSome (page_of new (get_or xs i 0))
rows-more xs k old new holds there i h = by (cases_eq i k)
  where
    by : (i ≡ k) ⊎ (i ≡ k → ⊥) → IsSome (page_of new (get_or xs i 0))
    by (inl e) = subst (λ (j : ℕ). IsSome (page_of new (get_or xs j 0))) (sym e) holds.there
    by (inr far) = holds.stays (get_or xs i 0) (there i (omega (arith, h, far)))
