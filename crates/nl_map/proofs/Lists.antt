-- Tests over the items of lists.
use Rattle.std.proofs.Common.{◌≡◌, ℕ, ◌+◌, ◌∙◌, Bool, true, false, ◌||◌, cond, List, [], ◌∷◌, drop, map, Some, inl, inr, refl, ap, arith}
use Rattle.std.specs.Prelude.{◌==◌, slice_get}
use Rattle.std.specs.BTreeSet.{BTreeSet, Updates, contains}
use Rattle.std.specs.List.{list_any}
use Rattle.std.specs.Ordering.{is_eq, nat_cmp}
use Rattle.std.proofs.lemmas.Bool.Decides.{nat_tests}
use Rattle.std.proofs.lemmas.List.{drop_more}
use Rattle.std.proofs.lemmas.Option.{get_or_from_slice_get, slice_get_within}
use Rattle.nl_iface.specs.Names.{Has}

pub any_same : {X : Type 0} (p q : X → Bool) (xs : List X) → ((x : X) → Has xs x → p x ≡ q x) → list_any p xs ≡ list_any q xs
any_same p q [] same = refl
any_same p q (x ∷ xs) same = λ i. same x (inl refl) i || any_same p q xs (λ y has. same y (inr has)) i

pub any_map : {X Y : Type 0} (f : X → Y) (p : Y → Bool) (xs : List X) → list_any p (map f xs) ≡ list_any (λ x. p (f x)) xs
any_map f p [] = refl
any_map f p (x ∷ xs) = ap (λ b. p (f x) || b) (any_map f p xs)

-- the item of a look-up comes first
pub drop_got : {X : Type 0} (xs : List X) (at : ℕ) (x : X) → slice_get xs at ≡ Some x → drop at xs ≡ x ∷ drop (at + 1) xs
drop_got xs at x is = drop_more xs at x (slice_get_within xs at x is) ∙ ap (λ y. y ∷ drop (at + 1) xs) (get_or_from_slice_get xs at x x is)

number_test : (n m : ℕ) → is_eq (nat_cmp n m) ≡ (n == m)
number_test n m = grind (arith, nat_tests)

or_moved : (one before later : Bool) → (cond one true before || later) ≡ (before || (one || later))
or_moved true true later = refl
or_moved true false later = refl
or_moved false before later = refl

-- one more number in a set, before the tests of later ones
pub number_moved : (old new : BTreeSet ℕ) (n : ℕ) → Updates nat_cmp old new n true → (m : ℕ) (later : Bool) → (contains nat_cmp new m || later) ≡ (contains nat_cmp old m || (n == m || later))
number_moved old new n updates m later =
    ap (λ x. x || later) (updates.0 m ∙ ap (λ x. cond x true (contains nat_cmp old m)) (number_test n m)) ∙ or_moved (n == m) (contains nat_cmp old m) later
