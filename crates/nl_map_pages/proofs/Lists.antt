-- Lists that are looked through, mapped and filtered.
use Rattle.std.proofs.Common.{◌≡◌, ℕ, suc, zero, ◌+◌, ◌<◌, ◌≤◌, Bool, true, false, ◌&&◌, ◌||◌, cond, List, [], ◌∷◌, ◌++◌, drop, length, map, Some, None, option_map, refl, sym, ◌∙◌, ap, arith}
use Rattle.std.specs.Prelude.{filter, find, nat_eq, slice_get}
use Rattle.std.proofs.lemmas.Bool.Decides.{nat_tests}
use Rattle.std.specs.List.{list_any, range_with_len}
use Rattle.std.proofs.lemmas.List.{append-nil, append_assoc, drop_all, drop_more}
use Rattle.std.proofs.lemmas.Option.{get_or_from_slice_get, slice_get_within}

-- ---- what is left of a list, one item on

pub drop_got : {X : Type 0} (xs : List X) (at : ℕ) (x : X) → slice_get xs at ≡ Some x → drop at xs ≡ x ∷ drop (at + 1) xs
drop_got xs at x is = drop_more xs at x (slice_get_within xs at x is) ∙ ap (λ y. y ∷ drop (at + 1) xs) (get_or_from_slice_get xs at x x is)

pub gathered_more : {X : Type 0} (p : X → Bool) (xs : List X) (at : ℕ) (x : X) (ys : List X) → slice_get xs at ≡ Some x → p x ≡ true → ys ++ filter p (drop at xs) ≡ filter p xs
    → (ys ++ x ∷ []) ++ filter p (drop (at + 1) xs) ≡ filter p xs
gathered_more p xs at x ys is passes so =
    append_assoc ys (x ∷ []) (filter p (drop (at + 1) xs))
    ∙ ap (λ l. ys ++ l) (sym (ap (filter p) (drop_got xs at x is) ∙ ap (λ b. cond b (x ∷ filter p (drop (at + 1) xs)) (filter p (drop (at + 1) xs))) passes))
    ∙ so

pub gathered_same : {X : Type 0} (p : X → Bool) (xs : List X) (at : ℕ) (x : X) (ys : List X) → slice_get xs at ≡ Some x → p x ≡ false → ys ++ filter p (drop at xs) ≡ filter p xs
    → ys ++ filter p (drop (at + 1) xs) ≡ filter p xs
gathered_same p xs at x ys is fails so =
    ap (λ l. ys ++ l) (sym (ap (filter p) (drop_got xs at x is) ∙ ap (λ b. cond b (x ∷ filter p (drop (at + 1) xs)) (filter p (drop (at + 1) xs))) fails)) ∙ so

pub gathered_all : {X : Type 0} (p : X → Bool) (xs : List X) (at : ℕ) (ys : List X) → length xs ≤ at → ys ++ filter p (drop at xs) ≡ filter p xs → ys ≡ filter p xs
gathered_all p xs at ys past so = sym (ap (λ l. ys ++ filter p l) (drop_all at xs past) ∙ append-nil ys) ∙ so

-- ---- numbers in a row

cond-true : {X : Type 0} (b : Bool) (x y : X) → b ≡ true → cond b x y ≡ x
cond-true b x y is = ap (λ c. cond c x y) is

cond-false : {X : Type 0} (b : Bool) (x y : X) → b ≡ false → cond b x y ≡ y
cond-false b x y is = ap (λ c. cond c x y) is

pub find_at_range : (p : ℕ → Bool) (first count at : ℕ) → at < count → ((i : ℕ) → i < at → p (first + i) ≡ false) → p (first + at) ≡ true → find p (range_with_len first count) ≡ Some (first + at)
find_at_range p first zero at below lower is = absurd (omega (arith, below))
find_at_range p first (suc n) zero below lower is =
    let e : first + 0 ≡ first = omega arith in
    cond-true (p first) (Some first) (find p (range_with_len (first + 1) n)) (ap p (sym e) ∙ is) ∙ ap (λ k. Some k) (sym e)
find_at_range p first (suc n) (suc k) below lower is =
    let e : first + 0 ≡ first = omega arith in
    let next : first + 1 + k ≡ first + suc k = omega arith in
    cond-false (p first) (Some first) (find p (range_with_len (first + 1) n)) (ap p (sym e) ∙ lower 0 (omega arith))
    ∙ find_at_range p (first + 1) n k (omega (arith, below))
    (λ i less. let same : first + 1 + i ≡ first + suc i = omega arith in ap p same ∙ lower (suc i) (omega (arith, less)))
    (ap p next ∙ is)
    ∙ ap (λ k. Some k) next

pub find_none_range : (p : ℕ → Bool) (first count : ℕ) → ((i : ℕ) → i < count → p (first + i) ≡ false) → find p (range_with_len first count) ≡ None
find_none_range p first zero all = refl
find_none_range p first (suc n) all =
    let e : first + 0 ≡ first = omega arith in
    cond-false (p first) (Some first) (find p (range_with_len (first + 1) n)) (ap p (sym e) ∙ all 0 (omega arith))
    ∙ find_none_range p (first + 1) n (λ i less. let same : first + 1 + i ≡ first + suc i = omega arith in ap p same ∙ all (suc i) (omega (arith, less)))

one_number : (n m : ℕ) → nat_eq n m ≡ true → n ≡ m
one_number n m e = grind (arith, nat_tests)

not_last : (n m : ℕ) → nat_eq n m ≡ false → n < m + 1 → n < m
not_last n m e l = grind (arith, nat_tests)

-- a test fails at all numbers below the next one
pub below_next : (p : ℕ → Bool) (at : ℕ) → ((i : ℕ) → i < at → p i ≡ false) → p at ≡ false → (i : ℕ) → i < at + 1 → p i ≡ false
below_next p at lower here i less = by (nat_eq i at) refl
  where
    by : (b : Bool) → nat_eq i at ≡ b → p i ≡ false
    by true is = ap p (one_number i at is) ∙ here
    by false is = lower i (not_last i at is less)

-- the row of numbers, one number longer
pub range_more : (first count : ℕ) → range_with_len first (suc count) ≡ range_with_len first count ++ (first + count) ∷ []
range_more first zero = let e : first ≡ first + 0 = omega arith in ap (λ (n : ℕ). n ∷ []) e
range_more first (suc n) =
    let e : first + 1 + n ≡ first + suc n = omega arith in
    ap (λ (ns : List ℕ). first ∷ ns) (range_more (first + 1) n ∙ ap (λ (m : ℕ). range_with_len (first + 1) n ++ m ∷ []) e)

pub map_append : {X Y : Type 0} (f : X → Y) (xs ys : List X) → map f (xs ++ ys) ≡ map f xs ++ map f ys
map_append f [] ys = refl
map_append f (x ∷ xs) ys = ap (λ zs. f x ∷ zs) (map_append f xs ys)

-- the values of the numbers in a row, with that of the next number
pub mapped_range : {Y : Type 0} (f : ℕ → Y) (count : ℕ) (y : Y) (ys : List Y) → ys ≡ map f (range_with_len 0 count) → y ≡ f count → ys ++ y ∷ [] ≡ map f (range_with_len 0 (count + 1))
mapped_range f count y ys so is =
    let e : 0 + count ≡ count = omega arith in
    let next : suc count ≡ count + 1 = omega arith in
    (λ i. so i ++ is i ∷ []) ∙ sym (map_append f (range_with_len 0 count) (count ∷ []))
    ∙ ap (map f) (sym (range_more 0 count ∙ ap (λ (m : ℕ). range_with_len 0 count ++ m ∷ []) e))
    ∙ ap (λ (n : ℕ). map f (range_with_len 0 n)) next

-- ---- looking through a list that was mapped or filtered

pub any_map : {X Y : Type 0} (f : X → Y) (p : Y → Bool) (xs : List X) → list_any p (map f xs) ≡ list_any (λ x. p (f x)) xs
any_map f p [] = refl
any_map f p (x ∷ xs) = ap (λ b. p (f x) || b) (any_map f p xs)

pub find_map : {X Y : Type 0} (f : X → Y) (p : Y → Bool) (xs : List X) → find p (map f xs) ≡ option_map f (find (λ x. p (f x)) xs)
find_map f p [] = refl
find_map f p (x ∷ xs) = by (p (f x)) (find_map f p xs)
  where
    by : (b : Bool) → find p (map f xs) ≡ option_map f (find (λ y. p (f y)) xs) → cond b (Some (f x)) (find p (map f xs)) ≡ option_map f (cond b (Some x) (find (λ y. p (f y)) xs))
    by true rest = refl
    by false rest = rest

pub find_filter : {X : Type 0} (p q : X → Bool) (xs : List X) → find q (filter p xs) ≡ find (λ x. p x && q x) xs
find_filter p q [] = refl
find_filter p q (x ∷ xs) = by (p x) (find_filter p q xs)
  where
    by : (b : Bool) → find q (filter p xs) ≡ find (λ y. p y && q y) xs → find q (cond b (x ∷ filter p xs) (filter p xs)) ≡ cond (b && q x) (Some x) (find (λ y. p y && q y) xs)
    by true rest = ap (cond (q x) (Some x)) rest
    by false rest = rest
