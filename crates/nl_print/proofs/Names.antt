-- The text of a path, name by name.
use Rattle.std.proofs.Common.{◌≡◌, ℕ, zero, suc, ◌+◌, ◌≤◌, List, [], ◌∷◌, ◌++◌, length, drop, refl, sym, ◌∙◌, ap, append_assoc, arith, add-one}
use Rattle.std.specs.Prelude.{slice_get, Some}
use Rattle.std.proofs.Math.ListN.{drop_of_length-le}
use Rattle.std.proofs.lemmas.List.{append-nil}
use Rattle.nl_print.specs.Texts.{slashed, path_text}

from_name : (names : List (List ℕ)) (i : ℕ) (name : List ℕ) → slice_get names i ≡ Some name → drop i names ≡ name ∷ drop (suc i) names
from_name [] i name e = absurd (cc e)
from_name (x ∷ names) zero name e = let same : x ≡ name = cc e in ap (λ (n : List ℕ). n ∷ names) same
from_name (x ∷ names) (suc i) name e = from_name names i name e

pub next_name : (names : List (List ℕ)) (i : ℕ) (name : List ℕ) → slice_get names i ≡ Some name → drop i names ≡ name ∷ drop (i + 1) names
next_name names i name e = rw add-one (from_name names i name e)

-- the names so far, and the next one
pub slashed_split : (done all name : List ℕ) (rest after : List (List ℕ)) → done ++ slashed rest ≡ all → rest ≡ name ∷ after → (done ++ 47 ∷ name) ++ slashed after ≡ all
slashed_split done all name rest after so_far split = append_assoc done (47 ∷ name) (slashed after) ∙ ap (λ (r : List (List ℕ)). done ++ slashed r) (sym split) ∙ so_far

pub slashed_end : (done all : List ℕ) (names : List (List ℕ)) (i : ℕ) → done ++ slashed (drop i names) ≡ all → length names ≤ i → done ≡ all
slashed_end done all names i so_far le = sym (append-nil done) ∙ ap (λ (r : List (List ℕ)). done ++ slashed r) (sym (drop_of_length-le names le)) ∙ so_far

pub no_names : (names : List (List ℕ)) → length names ≡ 0 → path_text names ≡ 47 ∷ []
no_names [] none = refl
no_names (name ∷ names) none = absurd (omega arith)

pub some_names : (names : List (List ℕ)) → (length names ≡ 0 → ⊥) → slashed names ≡ path_text names
some_names [] some = absurd (some refl)
some_names (name ∷ names) some = refl
