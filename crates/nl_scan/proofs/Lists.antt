-- Lists of which all elements have something, and tests that none passes.
use Rattle.std.proofs.Common.{◌≡◌, Bool, true, false, ◌||◌, cond, List, [], ◌∷◌, ◌++◌, Some, refl, sym, ◌∙◌, subst, ⊎_elim}
use Rattle.std.specs.Prelude.{filter, find}
use Rattle.std.specs.List.{list_any, AllByRecursion}
use Rattle.std.proofs.lemmas.Bool.{cases_Bool, or_left, or_right}

pub all_each : {X : Type 0} (P : X → Type 0) → ((x : X) → P x) → (xs : List X) → AllByRecursion P xs
all_each P f [] = tt
all_each P f (x ∷ xs) = (f x, all_each P f xs)

pub weaken_all : {X : Type 0} (P Q : X → Type 0) → ((x : X) → P x → Q x) → (xs : List X) → AllByRecursion P xs → AllByRecursion Q xs
weaken_all P Q f [] all = tt
weaken_all P Q f (x ∷ xs) all = (f x all.0, weaken_all P Q f xs all.1)

pub push_all : {X : Type 0} (P : X → Type 0) (xs : List X) (y : X) → AllByRecursion P xs → P y → AllByRecursion P (xs ++ y ∷ [])
push_all P [] y all p = (p, tt)
push_all P (x ∷ xs) y all p = (all.0, push_all P xs y all.1 p)

pub join_all : {X : Type 0} (P : X → Type 0) (xs ys : List X) → AllByRecursion P xs → AllByRecursion P ys → AllByRecursion P (xs ++ ys)
join_all P [] ys all more = more
join_all P (x ∷ xs) ys all more = (all.0, join_all P xs ys all.1 more)

pub filter_all : {X : Type 0} (P : X → Type 0) (own : X → Bool) (xs : List X) → AllByRecursion P xs → AllByRecursion P (filter own xs)
filter_all P own [] all = tt
filter_all P own (x ∷ xs) all =
    ⊎_elim
    (λ is. subst (AllByRecursion P) (sym (λ i. cond (is i) (x ∷ filter own xs) (filter own xs))) (all.0, filter_all P own xs all.1))
    (λ is. subst (AllByRecursion P) (sym (λ i. cond (is i) (x ∷ filter own xs) (filter own xs))) (filter_all P own xs all.1))
    (cases_Bool (own x))

pub any_at : {X : Type 0} (p : X → Bool) (xs : List X) (y : X) (ys : List X) → p y ≡ true → list_any p (xs ++ y ∷ ys) ≡ true
any_at p [] y ys is = or_left (p y) (list_any p ys) is
any_at p (x ∷ xs) y ys is = or_right (p x) (list_any p (xs ++ y ∷ ys)) (any_at p xs y ys is)

pub any_none : {X : Type 0} (p : X → Bool) (xs : List X) → AllByRecursion (λ x. p x ≡ false) xs → list_any p xs ≡ false
any_none p [] all = refl
any_none p (x ∷ xs) all = λ i. all.0 i || any_none p xs all.1 i

pub any_same : {X : Type 0} (p q : X → Bool) (xs : List X) → AllByRecursion (λ x. p x ≡ q x) xs → list_any p xs ≡ list_any q xs
any_same p q [] same = refl
any_same p q (x ∷ xs) same = λ i. same.0 i || any_same p q xs same.1 i

pub find_behind : {X : Type 0} (p : X → Bool) (xs : List X) (y : X) (ys : List X) → AllByRecursion (λ x. p x ≡ false) xs → p y ≡ true → find p (xs ++ y ∷ ys) ≡ Some y
find_behind p [] y ys all is = λ i. cond (is i) (Some y) (find p ys)
find_behind p (x ∷ xs) y ys all is = (λ i. cond (all.0 i) (Some x) (find p (xs ++ y ∷ ys))) ∙ find_behind p xs y ys all.1 is

pub or_false : (b : Bool) → (b || false) ≡ b
or_false true = refl
or_false false = refl

pub same_some : {X : Type 0} (x y : X) → Some x ≡ Some y → x ≡ y
same_some x y e = cc
