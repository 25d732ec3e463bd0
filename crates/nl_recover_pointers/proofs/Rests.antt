-- What is left of a list, one item on.
use Rattle.std.proofs.Common.{◌≡◌, ℕ, ◌+◌, ◌<◌, ◌≤◌, Bool, true, false, cond, List, [], ◌∷◌, ◌++◌, drop, length, get_or, map, Some, sym, ◌∙◌, ap}
use Rattle.std.specs.Prelude.{filter, slice_get}
use Rattle.std.proofs.lemmas.List.{append-nil, append_assoc, drop_all, drop_more}
use Rattle.std.proofs.lemmas.Option.{get_or_from_slice_get, slice_get_within}

-- the item of a look-up comes first
pub drop_got : {X : Type 0} (xs : List X) (at : ℕ) (x : X) → slice_get xs at ≡ Some x → drop at xs ≡ x ∷ drop (at + 1) xs
drop_got xs at x is = drop_more xs at x (slice_get_within xs at x is) ∙ ap (λ y. y ∷ drop (at + 1) xs) (get_or_from_slice_get xs at x x is)

-- the item that an index reads comes first
pub drop_read : {X : Type 0} (xs : List X) (at : ℕ) (x : X) → at < length xs → x ≡ get_or xs at x → drop at xs ≡ x ∷ drop (at + 1) xs
drop_read xs at x within is = drop_more xs at x within ∙ ap (λ y. y ∷ drop (at + 1) xs) (sym is)

-- ---- a list that gathers the items that pass

pub gathered_more : {X : Type 0} (p : X → Bool) (xs : List X) (at : ℕ) (x : X) (ys : List X) → slice_get xs at ≡ Some x → p x ≡ true → ys ++ filter p (drop at xs) ≡ filter p xs
    → (ys ++ x ∷ []) ++ filter p (drop (at + 1) xs) ≡ filter p xs
gathered_more p xs at x ys is passes so =
    append_assoc ys (x ∷ []) (filter p (drop (at + 1) xs))
    ∙ ap (λ l. ys ++ l) (sym (ap (filter p) (drop_got xs at x is) ∙ ap (λ b. cond b (x ∷ filter p (drop (at + 1) xs)) (filter p (drop (at + 1) xs))) passes))
    ∙ so

pub gathered_same : {X : Type 0} (p : X → Bool) (xs : List X) (at : ℕ) (x : X) (ys : List X) → slice_get xs at ≡ Some x → p x ≡ false → ys ++ filter p (drop at xs) ≡ filter p xs
    → ys ++ filter p (drop (at + 1) xs) ≡ filter p xs
gathered_same p xs at x ys is fails so =
    ap (λ l. ys ++ l) (sym (ap (filter p) (drop_got xs at x is) ∙ ap (λ b. cond b (x ∷ filter p (drop (at + 1) xs)) (filter p (drop (at + 1) xs))) fails)) ∙ so

pub gathered_all : {X : Type 0} (p : X → Bool) (xs : List X) (at : ℕ) (ys : List X) → length xs ≤ at → ys ++ filter p (drop at xs) ≡ filter p xs → ys ≡ filter p xs
gathered_all p xs at ys past so = sym (ap (λ l. ys ++ filter p l) (drop_all at xs past) ∙ append-nil ys) ∙ so

-- ---- a list that gets a value for each item

pub mapped_more : {X Y : Type 0} (f : X → Y) (xs : List X) (at : ℕ) (x : X) (y : Y) (ys zs : List Y) → drop at xs ≡ x ∷ drop (at + 1) xs → y ≡ f x → ys ++ map f (drop at xs) ≡ zs
    → (ys ++ y ∷ []) ++ map f (drop (at + 1) xs) ≡ zs
mapped_more f xs at x y ys zs first is so =
    append_assoc ys (y ∷ []) (map f (drop (at + 1) xs)) ∙ (λ i. ys ++ is i ∷ map f (drop (at + 1) xs)) ∙ sym (ap (λ l. ys ++ map f l) first) ∙ so

pub mapped_all : {X Y : Type 0} (f : X → Y) (xs : List X) (at : ℕ) (ys zs : List Y) → length xs ≤ at → ys ++ map f (drop at xs) ≡ zs → ys ≡ zs
mapped_all f xs at ys zs past so = sym (ap (λ l. ys ++ map f l) (drop_all at xs past) ∙ append-nil ys) ∙ so
