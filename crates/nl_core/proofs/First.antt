-- Whether the first of rising addresses is 0.
use Rattle.std.proofs.Common.{◌≡◌, inl, inr, ⊎_elim, ℕ, ◌==◌, ◌||◌, nat_lt, Bool, true, false, List, [], ◌∷◌, Some, None, refl, sym, ap, ◌∙◌, arith, ne_eqb}
use Rattle.std.specs.List.{list_all, list_any}
use Rattle.std.specs.Prelude.{slice_get}
use Rattle.std.proofs.lemmas.Bool.{and_parts, eqb-true, ltb-true, or_cases}
use Rattle.nl_field.specs.Members.{Has}
use Rattle.nl_meta.specs.Pages.{rises}
use Rattle.nl_meta.proofs.Lists.{none_some, some_in}

none_zero : (a : ℕ) (xs : List ℕ) → list_all (λ b. nat_lt a b) xs ≡ true → list_any (λ b. b == 0) xs ≡ false
none_zero a [] all = refl
none_zero a (x ∷ xs) all =
    let both = and_parts (nat_lt a x) (list_all (λ b. nat_lt a b) xs) all in
    let more = ltb-true a x both.0 in
    ap (λ b. b || list_any (λ b. b == 0) xs) (ne_eqb x 0 (λ e. omega (arith, more, e))) ∙ none_zero a xs both.1

or_none : (b : Bool) → b || false ≡ b
or_none true = refl
or_none false = refl

pub first_tells : (xs : List ℕ) (x : ℕ) → rises xs ≡ true → Some x ≡ slice_get xs 0 → x == 0 ≡ list_any (λ a. a == 0) xs
unfolding rises
first_tells [] x rise is = absurd (none_some x (sym is))
first_tells (a ∷ xs) x rise is =
    let both = and_parts (list_all (λ b. nat_lt a b) xs) (rises xs) rise in
    ap (λ n. n == 0) (some_in x a is) ∙ sym (ap (λ b. a == 0 || b) (none_zero a xs both.0) ∙ or_none (a == 0))

pub none_tells : (xs : List ℕ) → None ≡ slice_get xs 0 → false ≡ list_any (λ a. a == 0) xs
none_tells [] is = refl
none_tells (a ∷ xs) is = absurd (none_some a is)

pub any_has : (xs : List ℕ) → list_any (λ a. a == 0) xs ≡ true → Has xs 0
any_has [] is = absurd (let no : ⊥ = cc in no)
any_has (x ∷ xs) is = ⊎_elim (λ here. inl (eqb-true x 0 here)) (λ far. inr (any_has xs far)) (or_cases (x == 0) (list_any (λ a. a == 0) xs) is)
