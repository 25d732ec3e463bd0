-- A front of the bytes of a write.
use Rattle.std.proofs.Common.{◌≡◌, ◌⊎◌, ℕ, ◌+◌, ◌<◌, ◌≤◌, max, List, length, take, refl, sym, ◌∙◌, ap, subst, arith}
use Rattle.std.proofs.lemmas.List.{get_or-take, length-take-le}
use Rattle.nl_store.specs.Store.{BytesPut, FrontPut}

-- nothing was written
pub put_none : (at : ℕ) (from old : List ℕ) → FrontPut at from old old
put_none at from old = (0, omega arith, record { inside = λ k less. absurd (omega (arith, less)); outside = λ i apart. refl; no_shorter = omega arith; length_is = λ more. absurd (omega (arith, more)); length_stays = λ none. refl })

-- a front of the bytes was
pub put_front : (at n : ℕ) (from old new : List ℕ) → n ≤ length from → BytesPut at (length (take n from)) (take n from) old new → BytesPut at n from old new
put_front at n from old new within put =
    let size : length (take n from) ≡ n = length-take-le n from within in
    record {
      inside = λ k less. let less_taken : k < length (take n from) = omega (arith, size, less) in put.inside k less_taken ∙ get_or-take n from k 0 less;
      outside = λ i apart. put.outside i (subst (λ s. (i < at) ⊎ (at + s ≤ i)) (sym size) apart);
      no_shorter = put.no_shorter;
      length_is = λ more. let some : 0 < length (take n from) = omega (arith, size, more) in put.length_is some ∙ ap (λ (k : ℕ). max (length old) (at + k)) size;
      length_stays = λ none. put.length_stays (size ∙ none);
    }
