-- How many effects of a line a history has, by its seats.
use Rattle.std.proofs.Common.{◌≡◌, ◌==◌, ◌&&◌, ℕ, zero, suc, ◌+◌, ◌-◌, ◌<◌, ◌≤◌, Bool, true, false, cond, nat_lt, nat_le, List, [], ◌∷◌, ◌++◌, length, Some, refl, sym, ap, ◌∙◌, arith, eq-eqb, lt_of_not-le}
use Rattle.std.proofs.lemmas.Bool.Decides.{nat_tests}
use Rattle.std.proofs.lemmas.List.Sums.{sum_by-cons, sum_by-append}
use Rattle.std.specs.Prelude.{slice_get, take, drop, count_by}
use Rattle.nl_tree.specs.declared.call.Line.{Line}
use Rattle.nl_turns.specs.Seat.{Passed, by_seat, entries, NoNumberBeyond}
use Rattle.nl_turns.specs.declared.entry.Entry.{Entry}
use Rattle.nl_workers.specs.Placed.{entries_of, effects_of}
use Rattle.nl_workers.specs.Worked.{lines_between}
use Rattle.nl_workers.specs.Crew.{counted_from, effects_from, lines_below}
use Rattle.nl_workers.specs.Going.{times_in}

count_cons : (f : Entry → Bool) (e : Entry) (es : List Entry) → count_by f (e ∷ es) ≡ cond {A = ℕ} (f e) 1 0 + count_by f es
count_cons f e es = sum_by-cons (λ (x : Entry). cond (f x) 1 0) e es

one_if_own : (f : Entry → Bool) (b : Bool) (p : Passed) (ys : List Passed) → count_by f (entries (cond b (p ∷ ys) ys)) ≡ cond {A = ℕ} (b && f p.entry) 1 0 + count_by f (entries ys)
one_if_own f true p ys = count_cons f p.entry (entries ys)
one_if_own f false p ys = omega arith

in_range : (s a c : ℕ) (hit : Bool) → cond {A = ℕ} ((nat_le a s && nat_lt s (a + suc c)) && hit) 1 0 ≡ cond {A = ℕ} (s == a && hit) 1 0 + cond {A = ℕ} ((nat_le (a + 1) s && nat_lt s (a + 1 + c)) && hit) 1 0
in_range s a c true = grind (arith, nat_tests)
in_range s a c false = grind (arith, nat_tests)

no_range : (s a : ℕ) (hit : Bool) → cond {A = ℕ} ((nat_le a s && nat_lt s (a + 0)) && hit) 1 0 ≡ 0
no_range s a true = grind (arith, nat_tests)
no_range s a false = grind (arith, nat_tests)

from_cons : (f : Entry → Bool) (a c : ℕ) (p : Passed) (xs : List Passed) → counted_from f a c (p ∷ xs) ≡ cond {A = ℕ} ((nat_le a p.seat && nat_lt p.seat (a + c)) && f p.entry) 1 0 + counted_from f a c xs
from_cons f a zero p xs = let n = no_range p.seat a (f p.entry) in omega arith
from_cons f a (suc c) p xs =
    let here : count_by f (entries_of a (p ∷ xs)) ≡ cond {A = ℕ} (p.seat == a && f p.entry) 1 0 + count_by f (entries_of a xs) = one_if_own f (p.seat == a) p (by_seat a xs) in
    let rest = from_cons f (a + 1) c p xs in
    let one = in_range p.seat a c (f p.entry) in
    omega arith

below_next : (n : ℕ) (p : Passed) (xs : List Passed) → NoNumberBeyond n (p ∷ xs) → p.seat < n
below_next n p xs none = lt_of_not-le (λ le. not_empty (p.seat == p.seat) (eq-eqb p.seat p.seat refl) (none p.seat le))
  where
    not_empty : (b : Bool) → b ≡ true → cond b (p ∷ by_seat p.seat xs) (by_seat p.seat xs) ≡ [] → ⊥
    not_empty true so e = absurd (cc e)
    not_empty false so e = absurd (cc so)

none_later : (n : ℕ) (p : Passed) (xs : List Passed) → NoNumberBeyond n (p ∷ xs) → NoNumberBeyond n xs
none_later n p xs none m le = go (p.seat == m) (none m le)
  where
    go : (b : Bool) → cond b (p ∷ by_seat m xs) (by_seat m xs) ≡ [] → by_seat m xs ≡ []
    go true e = absurd (cc e)
    go false e = e

from_none : (f : Entry → Bool) (a c : ℕ) → counted_from f a c [] ≡ 0
from_none f a zero = refl
from_none f a (suc c) = let r = from_none f (a + 1) c in omega arith

whole_range : (s n : ℕ) (hit : Bool) → s < n → cond {A = ℕ} ((nat_le 0 s && nat_lt s (0 + n)) && hit) 1 0 ≡ cond {A = ℕ} hit 1 0
whole_range s n true h = grind (arith, nat_tests)
whole_range s n false h = grind (arith, nat_tests)

-- where no number from n on stands in the history, all entries of a kind are those of the seats below n
pub all_counted : (f : Entry → Bool) (n : ℕ) (xs : List Passed) → NoNumberBeyond n xs → count_by f (entries xs) ≡ counted_from f 0 n xs
all_counted f n [] none = sym (from_none f 0 n)
all_counted f n (p ∷ xs) none =
    let rest = all_counted f n xs (none_later n p xs none) in
    let a = count_cons f p.entry (entries xs) in
    let b = from_cons f 0 n p xs in
    let c = whole_range p.seat n (f p.entry) (below_next n p xs none) in
    omega arith

pub all_effects : (m n : ℕ) (xs : List Passed) → NoNumberBeyond n xs → effects_of m (entries xs) ≡ effects_from m 0 n xs
all_effects m n xs none = all_counted (λ (e : Entry). e.line == m) n xs none

pub counted_append : (f : Entry → Bool) (a c d : ℕ) (xs : List Passed) → counted_from f a (c + d) xs ≡ counted_from f a c xs + counted_from f (a + c) d xs
counted_append f a zero d xs =
    let n : a + 0 ≡ a = omega arith in
    let e : counted_from f (a + 0) d xs ≡ counted_from f a d xs = ap (λ k. counted_from f k d xs) n in
    let z : 0 + d ≡ d = omega arith in
    let g : counted_from f a (0 + d) xs ≡ counted_from f a d xs = ap (λ k. counted_from f a k xs) z in
    omega arith
counted_append f a (suc c) d xs =
    let n : suc c + d ≡ suc (c + d) = omega arith in
    let e : counted_from f a (suc c + d) xs ≡ counted_from f a (suc (c + d)) xs = ap (λ k. counted_from f a k xs) n in
    let r = counted_append f (a + 1) c d xs in
    let k : a + 1 + c ≡ a + suc c = omega arith in
    let g : counted_from f (a + 1 + c) d xs ≡ counted_from f (a + suc c) d xs = ap (λ j. counted_from f j d xs) k in
    omega arith

pub from_append : (m a c d : ℕ) (xs : List Passed) → effects_from m a (c + d) xs ≡ effects_from m a c xs + effects_from m (a + c) d xs
from_append m a c d xs = counted_append (λ (e : Entry). e.line == m) a c d xs

-- ---- lines

all_below : (w : ℕ) (hit : Bool) → w ≤ 7 → cond {A = ℕ} (nat_lt w 8 && hit) 1 0 ≡ cond {A = ℕ} hit 1 0
all_below w true h = grind (arith, nat_tests)
all_below w false h = grind (arith, nat_tests)

pub below_eight : (m : ℕ) (xs : List Line) → ((i : ℕ) (x : Line) → slice_get xs i ≡ Some x → x.worker ≤ 7) → lines_below m 8 xs ≡ times_in m xs
below_eight m [] each = refl
below_eight m (x ∷ xs) each =
    let a : lines_below m 8 (x ∷ xs) ≡ cond {A = ℕ} (nat_lt x.worker 8 && x.line == m) 1 0 + lines_below m 8 xs = sum_by-cons (λ (l : Line). cond (nat_lt l.worker 8 && l.line == m) 1 0) x xs in
    let b : times_in m (x ∷ xs) ≡ cond {A = ℕ} (x.line == m) 1 0 + times_in m xs = sum_by-cons (λ (l : Line). cond (l.line == m) 1 0) x xs in
    let c = below_eight m xs (λ i y e. each (suc i) y e) in
    let d = all_below x.worker (x.line == m) (each 0 x refl) in
    omega arith

get_take : (xs : List Line) (n i : ℕ) (x : Line) → slice_get (take n xs) i ≡ Some x → slice_get xs i ≡ Some x
get_take [] zero i x e = absurd (cc e)
get_take [] (suc n) i x e = absurd (cc e)
get_take (y ∷ xs) zero i x e = absurd (cc e)
get_take (y ∷ xs) (suc n) zero x e = e
get_take (y ∷ xs) (suc n) (suc i) x e = get_take xs n i x e

get_drop : (xs : List Line) (n i : ℕ) (x : Line) → slice_get (drop n xs) i ≡ Some x → slice_get xs (n + i) ≡ Some x
get_drop xs zero i x e = ap (slice_get xs) (omega arith) ∙ e
get_drop [] (suc n) i x e = absurd (cc e)
get_drop (y ∷ xs) (suc n) i x e = let k : suc n + i ≡ suc (n + i) = omega arith in ap (slice_get (y ∷ xs)) k ∙ get_drop xs n i x e

pub get_between : (xs : List Line) (from to i : ℕ) (x : Line) → slice_get (lines_between from to xs) i ≡ Some x → slice_get xs (from + i) ≡ Some x
get_between xs from to i x e = get_drop xs from i x (get_take (drop from xs) (to - from) i x e)

take_split : (xs : List Line) (n k : ℕ) → take (n + k) xs ≡ take n xs ++ take k (drop n xs)
take_split xs zero k = ap (λ j. take j xs) (omega arith)
take_split [] (suc n) zero = let e : suc n + 0 ≡ suc n = omega arith in ap (λ j. take j []) e
take_split [] (suc n) (suc k) = let e : suc n + suc k ≡ suc (n + suc k) = omega arith in ap (λ j. take j []) e
take_split (x ∷ xs) (suc n) k = let e : suc n + k ≡ suc (n + k) = omega arith in ap (λ j. take j (x ∷ xs)) e ∙ ap (λ z. x ∷ z) (take_split xs n k)

pub times_more : (m from to : ℕ) (xs : List Line) → from ≤ to → times_in m (take to xs) ≡ times_in m (take from xs) + times_in m (lines_between from to xs)
times_more m from to xs le =
    let e : to ≡ from + (to - from) = omega arith in
    ap (λ k. times_in m (take k xs)) e ∙ (ap (times_in m) (take_split xs from (to - from)) ∙ sum_by-append (λ (l : Line). cond (l.line == m) 1 0) (take from xs) (lines_between from to xs))

pub take_whole : (xs : List Line) → take (length xs) xs ≡ xs
take_whole [] = refl
take_whole (x ∷ xs) = ap (λ z. x ∷ z) (take_whole xs)
