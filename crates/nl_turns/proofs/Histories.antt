-- Facts on beginnings of one history, and on the entries of one seat.
use Rattle.std.proofs.Common.{◌≡◌, ◌≢◌, ◌==◌, ℕ, ◌+◌, ◌≤◌, Bool, true, false, cond, List, [], ◌∷◌, ◌++◌, length, filter, refl, sym, ap, ◌∙◌, arith, append_assoc, length-append, ne_eqb, eq-eqb}
use Rattle.std.proofs.lemmas.List.Elements.{filter-append}
use Rattle.std.proofs.lemmas.List.{append-nil}
use Rattle.std.proofs.lemmas.Bool.Decides.{nat_tests}
use Rattle.std.specs.Prelude.{nat_le}
use mathlib.Core.List.{IsPrefix}
use Rattle.nl_turns.specs.Seat.{Passed, by_seat, longer}

-- beginnings
pub prefix_self : {A : Type 0} (xs : List A) → IsPrefix xs xs
prefix_self xs = ([], append-nil xs)

pub prefix_trans : {A : Type 0} (xs ys zs : List A) → IsPrefix xs ys → IsPrefix ys zs → IsPrefix xs zs
prefix_trans xs ys zs p q = (p.0 ++ q.0, sym (append_assoc xs p.0 q.0) ∙ (ap (λ w. w ++ q.0) p.1 ∙ q.1))

pub prefix_more : {A : Type 0} (xs ys zs : List A) → IsPrefix xs ys → IsPrefix xs (ys ++ zs)
prefix_more xs ys zs p = prefix_trans xs ys (ys ++ zs) p (zs, refl)

-- an entry of another seat
pub by_other : (n : ℕ) (xs : List Passed) (p : Passed) → p.seat ≢ n → by_seat n (xs ++ p ∷ []) ≡ by_seat n xs
by_other n xs p other =
    let f : Passed → Bool = λ q. q.seat == n in
    let none : f p ≡ false = ne_eqb p.seat n other in
    filter-append f xs (p ∷ []) ∙ (ap (λ (b : Bool). filter f xs ++ cond b (p ∷ []) []) none ∙ append-nil (filter f xs))

-- a beginning with the entries of every seat is the whole
pub whole_by : (xs ys : List Passed) → IsPrefix xs ys → ((n : ℕ) → by_seat n xs ≡ by_seat n ys) → xs ≡ ys
whole_by xs ys pre same = go pre.0 pre.1
  where
    go : (rest : List Passed) → xs ++ rest ≡ ys → xs ≡ ys
    go [] e = sym (append-nil xs) ∙ e
    go (p ∷ rest) e =
        let f : Passed → Bool = λ q. q.seat == p.seat in
        let so : f p ≡ true = eq-eqb p.seat p.seat refl in
        let kept : filter f (p ∷ rest) ≡ p ∷ filter f rest = ap (λ b. cond b (p ∷ filter f rest) (filter f rest)) so in
        let all : filter f xs ≡ filter f xs ++ (p ∷ filter f rest) = same p.seat ∙ (ap (filter f) (sym e) ∙ (filter-append f xs (p ∷ rest) ∙ ap (λ r. filter f xs ++ r) kept)) in
        absurd (omega (arith, ap length all ∙ length-append (filter f xs) (p ∷ filter f rest)))

no_length : {A : Type 0} (xs : List A) → length xs ≡ 0 → xs ≡ []
no_length [] e = refl
no_length (x ∷ xs) e = absurd (omega arith)

-- between a beginning that has the seat's entries and the whole, each beginning has them
pub between : (n : ℕ) (xs ys zs : List Passed) → IsPrefix xs ys → IsPrefix ys zs → by_seat n xs ≡ by_seat n zs → by_seat n ys ≡ by_seat n zs
between n xs ys zs p q e =
    let f : Passed → Bool = λ x. x.seat == n in
    let a : by_seat n ys ≡ by_seat n xs ++ by_seat n p.0 = ap (by_seat n) (sym p.1) ∙ filter-append f xs p.0 in
    let b : by_seat n zs ≡ by_seat n ys ++ by_seat n q.0 = ap (by_seat n) (sym q.1) ∙ filter-append f ys q.0 in
    let c : length (by_seat n ys) ≡ length (by_seat n xs) + length (by_seat n p.0) = ap length a ∙ length-append (by_seat n xs) (by_seat n p.0) in
    let d : length (by_seat n zs) ≡ length (by_seat n ys) + length (by_seat n q.0) = ap length b ∙ length-append (by_seat n ys) (by_seat n q.0) in
    let l : length (by_seat n xs) ≡ length (by_seat n zs) = ap length e in
    let none : by_seat n q.0 ≡ [] = no_length (by_seat n q.0) (omega arith) in
    sym (b ∙ (ap (λ r. by_seat n ys ++ r) none ∙ append-nil (by_seat n ys)))

-- a seat with no entry in the whole has none in a beginning
pub none_by : (n : ℕ) (xs zs : List Passed) → IsPrefix xs zs → by_seat n zs ≡ [] → by_seat n xs ≡ by_seat n zs
none_by n xs zs p e =
    let f : Passed → Bool = λ x. x.seat == n in
    let b : by_seat n zs ≡ by_seat n xs ++ by_seat n p.0 = ap (by_seat n) (sym p.1) ∙ filter-append f xs p.0 in
    let l : length (by_seat n zs) ≡ length (by_seat n xs) + length (by_seat n p.0) = ap length b ∙ length-append (by_seat n xs) (by_seat n p.0) in
    let z : length (by_seat n zs) ≡ 0 = ap length e in
    no_length (by_seat n xs) (omega arith) ∙ sym e

-- the same, for the beginning alone
pub none_before : (n : ℕ) (xs zs : List Passed) → IsPrefix xs zs → by_seat n zs ≡ [] → by_seat n xs ≡ []
none_before n xs zs p e = none_by n xs zs p e ∙ e

-- of two beginnings of one list the shorter begins the longer
pub prefix_shorter : {A : Type 0} (xs ys zs : List A) → IsPrefix xs zs → IsPrefix ys zs → length xs ≤ length ys → IsPrefix xs ys
prefix_shorter [] ys zs p q le = (ys, refl)
prefix_shorter (x ∷ xs) [] zs p q le = absurd (omega arith)
prefix_shorter (x ∷ xs) (y ∷ ys) [] p q le = absurd (cc (p.1))
prefix_shorter (x ∷ xs) (y ∷ ys) (z ∷ zs) p q le =
    let heads : x ≡ y = cc (p.1, q.1) in
    let rest = prefix_shorter xs ys zs (p.0, cc (p.1)) (q.0, cc (q.1)) (omega arith) in
    (rest.0, cc (heads, rest.1))

pub longer_is : (xs ys zs : List Passed) → IsPrefix xs zs → IsPrefix ys zs → IsPrefix xs (longer xs ys) × IsPrefix ys (longer xs ys) × IsPrefix (longer xs ys) zs
longer_is xs ys zs p q = go (nat_le (length xs) (length ys)) refl
  where
    go : (b : Bool) → nat_le (length xs) (length ys) ≡ b → IsPrefix xs (cond b ys xs) × IsPrefix ys (cond b ys xs) × IsPrefix (cond b ys xs) zs
    go true e = (prefix_shorter xs ys zs p q (grind (arith, nat_tests)), prefix_self ys, q)
    go false e = (prefix_self xs, prefix_shorter ys xs zs q p (grind (arith, nat_tests)), p)
