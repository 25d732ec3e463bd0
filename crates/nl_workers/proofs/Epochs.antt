-- The lines of one epoch.
use Rattle.std.proofs.Common.{◌≡◌, ◌⊎◌, inl, inr, ℕ, zero, suc, ◌+◌, ◌<◌, ◌≤◌, Bool, true, false, List, [], ◌∷◌, length, Some, refl, sym, ap, ◌∙◌, subst, arith}
use Rattle.std.specs.Prelude.{slice_get, IsTrue, Contains, nat_lt, ◌==◌, ◌&&◌, ◌||◌, slice_index_or, IfSome}
use Rattle.std.proofs.lemmas.Bool.Decides.{nat_tests}
use Rattle.nl_tree.specs.Calls.{IsLine, AreLines}
use Rattle.nl_tree.specs.Order.{has_to_precede}
use Rattle.nl_tree.specs.declared.call.Line.{Line}
use Rattle.nl_turns.specs.History.{Opening, line_at}
use Rattle.nl_turns.specs.Seat.{Passed}
use Rattle.nl_turns.proofs.Lines.{get_at, line_found}
use Rattle.nl_workers.specs.Placed.{HasLine, LineTookEffect, LineMayRun}
use Rattle.nl_workers.specs.Worked.{AreLinesOf, IsEpoch}

-- all lines from one position up to another are of this epoch
pub record IsWithin (lines : List Line) (from at round : ℕ) : Type 0 where
  pub rises : from ≤ at
  pub same : (i : ℕ) (b : Line) → from ≤ i → i < at → slice_get lines i ≡ Some b → b.round ≡ round

pub within_none : (lines : List Line) (from round : ℕ) → IsWithin lines from from round
within_none lines from round = record { rises = omega arith; same = λ i b le lt e. absurd (omega arith) }

lt_split : (i k : ℕ) → i < k + 1 → (i ≡ k) ⊎ (i < k)
lt_split zero zero h = inl refl
lt_split zero (suc k) h = inr (omega arith)
lt_split (suc i) zero h = absurd (omega arith)
lt_split (suc i) (suc k) h = go (lt_split i k (omega arith))
  where
    go : (i ≡ k) ⊎ (i < k) → (suc i ≡ suc k) ⊎ (suc i < suc k)
    go (inl e) = inl (omega arith)
    go (inr e) = inr (omega arith)

some_same : {A : Type 0} (a b : A) → Some a ≡ Some b → a ≡ b
some_same a b e = cc e

pub within_more : (lines : List Line) (from at round : ℕ) (line : Line) → IsWithin lines from at round → slice_get lines at ≡ Some line → line.round ≡ round → IsWithin lines from (at + 1) round
within_more lines from at round line w is same = record {
  rises = let r = w.rises in omega arith;
  same = λ i b le lt e. go i b le e (lt_split i at lt);
}
  where
    go : (i : ℕ) (b : Line) → from ≤ i → slice_get lines i ≡ Some b → (i ≡ at) ⊎ (i < at) → b.round ≡ round
    go i b le e (inl here) = ap (λ (z : Line). z.round) (some_same b line (sym e ∙ (ap (slice_get lines) here ∙ is))) ∙ same
    go i b le e (inr below) = w.same i b le below e

pub within_epoch : (lines : List Line) (from at round : ℕ) (first : Line) → slice_get lines from ≡ Some first → first.round ≡ round → IsWithin lines from at round → at ≤ length lines → IsEpoch lines from at
within_epoch lines from at round first is same w inside = record {
  within = inside;
  one_round = λ i a b le lt ea eb. w.same i b le lt eb ∙ sym (ap (λ (z : Line). z.round) (some_same a first (sym ea ∙ is)) ∙ same);
}

-- ---- what precedes a line

pub get_below : (xs : List Line) (i : ℕ) → i < length xs → (x : Line) × (slice_get xs i ≡ Some x)
get_below [] i h = absurd (omega arith)
get_below (x ∷ xs) zero h = (x, refl)
get_below (x ∷ xs) (suc i) h = get_below xs i (omega arith)

pub index_read : (xs : List Line) (i : ℕ) (d x : Line) → slice_get xs i ≡ Some x → slice_index_or xs i d ≡ x
index_read xs i d x e = (get_at xs i x d e).1

-- where a line stands that the list contains
pub stands_at : (lines : List Line) (line : Line) → Contains lines line → (i : ℕ) × (slice_get lines i ≡ Some line)
stands_at lines line c =
    let g = get_below lines c.0 c.1 in
    (c.0, g.1 ∙ ap Some (sym (index_read lines c.0 line g.0 g.1) ∙ c.2))

pub rises : (lines : List Line) (i j : ℕ) (a b : Line) → AreLines lines → i < j → slice_get lines i ≡ Some a → slice_get lines j ≡ Some b → (a.line < b.line) × (a.round ≤ b.round)
rises lines i j a b are below ea eb =
    let gb = get_at lines j b a eb in
    let ga = get_at lines i a a ea in
    let h = are.rising i j a below gb.0 in
    subst (λ (z : Line × Line). (z.0.line < z.1.line) × (z.0.round ≤ z.1.round)) (λ k. (ga.1 k, gb.1 k)) h

earlier_is : (r q w v l m : ℕ) → IsTrue (nat_lt r q || (r == q && w == v && nat_lt l m)) → (r < q) ⊎ ((r ≡ q) × (w ≡ v) × (l < m))
earlier_is r q w v l m h = go (nat_lt r q) (r == q) (w == v) (nat_lt l m) refl refl refl refl h
  where
    go : (a b c d : Bool) → nat_lt r q ≡ a → (r == q) ≡ b → (w == v) ≡ c → nat_lt l m ≡ d → IsTrue (a || (b && c && d)) → (r < q) ⊎ ((r ≡ q) × (w ≡ v) × (l < m))
    go true b c d e f g i t = inl (grind (arith, nat_tests))
    go false true true true e f g i t = inr (grind (arith, nat_tests), grind (arith, nat_tests), grind (arith, nat_tests))
    go false false c d e f g i t = absurd (cc t)
    go false true false d e f g i t = absurd (cc t)
    go false true true false e f g i t = absurd (cc t)

pub below_or : (n m : ℕ) → (n < m) ⊎ (m ≤ n)
below_or zero zero = inr (omega arith)
below_or zero (suc m) = inl (omega arith)
below_or (suc n) zero = inr (omega arith)
below_or (suc n) (suc m) = go (below_or n m)
  where
    go : (n < m) ⊎ (m ≤ n) → (suc n < suc m) ⊎ (suc m ≤ suc n)
    go (inl h) = inl (omega arith)
    go (inr h) = inr (omega arith)

-- what has to precede the line at a position stands before it, below the epoch or of the same worker
pub precedes : (lines : List Line) (from to at i : ℕ) (line earlier : Line) → AreLines lines → IsEpoch lines from to → from ≤ at → at < to → slice_get lines at ≡ Some line → slice_get lines i ≡ Some earlier
    → IsTrue (has_to_precede earlier line) → (i < at) × ((i < from) ⊎ (earlier.worker ≡ line.worker))
precedes lines from to at i line earlier are epoch low high is ie t = (before, where_is (below_or i from))
  where
    why : (earlier.round < line.round) ⊎ ((earlier.round ≡ line.round) × (earlier.worker ≡ line.worker) × (earlier.line < line.line))
    why = earlier_is earlier.round line.round earlier.worker line.worker earlier.line line.line t

    not_behind : (at < i) → ⊥
    not_behind lt = go (rises lines at i line earlier are lt is ie) why
      where
        go : (line.line < earlier.line) × (line.round ≤ earlier.round) → (earlier.round < line.round) ⊎ ((earlier.round ≡ line.round) × (earlier.worker ≡ line.worker) × (earlier.line < line.line)) → ⊥
        go r (inl h) = let q = r.1 in omega arith
        go r (inr h) = let q = r.0 in let p = h.2 in omega arith

    not_here : i ≡ at → ⊥
    not_here e = go (some_same earlier line (sym ie ∙ (ap (slice_get lines) e ∙ is))) why
      where
        go : earlier ≡ line → (earlier.round < line.round) ⊎ ((earlier.round ≡ line.round) × (earlier.worker ≡ line.worker) × (earlier.line < line.line)) → ⊥
        go e (inl h) = let q = ap (λ (z : Line). z.round) e in omega arith
        go e (inr h) = let q = ap (λ (z : Line). z.line) e in let p = h.2 in omega arith

    before : i < at
    before = pick (below_or i at) (below_or at i)
      where
        pick : (i < at) ⊎ (at ≤ i) → (at < i) ⊎ (i ≤ at) → i < at
        pick (inl h) o = h
        pick (inr h) (inl g) = absurd (not_behind g)
        pick (inr h) (inr g) = absurd (not_here (omega arith))

    where_is : (i < from) ⊎ (from ≤ i) → (i < from) ⊎ (earlier.worker ≡ line.worker)
    where_is (inl h) = inl h
    where_is (inr h) = inr (go why)
      where
        first : (x : Line) × (slice_get lines from ≡ Some x)
        first = get_below lines from (let a = epoch.within in omega arith)

        go : (earlier.round < line.round) ⊎ ((earlier.round ≡ line.round) × (earlier.worker ≡ line.worker) × (earlier.line < line.line)) → earlier.worker ≡ line.worker
        go (inr g) = g.1
        go (inl g) =
            let b = before in
            let one = epoch.one_round at first.0 line low high first.1 is in
            let two = epoch.one_round i first.0 earlier h (omega arith) first.1 ie in
            absurd (omega arith)

-- a line of these is found by its number
pub found_at : (lines : List Line) (i : ℕ) (line : Line) → AreLines lines → slice_get lines i ≡ Some line → line_at lines line.line ≡ Some line
found_at lines i line are e = line_found lines i line (λ j k d below within. (are.rising j k d below within).0) e

pub line_is : (lines : List Line) (i : ℕ) (line : Line) → AreLines lines → slice_get lines i ≡ Some line → IsLine line
line_is lines i line are e = let at = get_at lines i line line e in subst IsLine at.1 (are.each i line at.0)

pub has_line : (opening : Opening) (lines : List Line) (i : ℕ) (line : Line) → AreLinesOf opening lines → slice_get lines i ≡ Some line → HasLine opening line
has_line opening lines i line all e =
    let is = line_is lines i line all.are e in
    record {
      numbered = is.number;
      bounded = is.bounded;
      found = (line, ap (λ ls. line_at ls line.line) all.has ∙ found_at lines i line all.are e, refl, refl);
    }

-- a line may run where each line is done that stands before it, below the epoch or of the same worker
pub may_run : (lines : List Line) (from to at : ℕ) (line : Line) (history : List Passed) → AreLines lines → IsEpoch lines from to → from ≤ at → at < to → slice_get lines at ≡ Some line
    → ((i : ℕ) (earlier : Line) → i < at → (i < from) ⊎ (earlier.worker ≡ line.worker) → slice_get lines i ≡ Some earlier → LineTookEffect earlier.line history) → LineMayRun lines line.line history
may_run lines from to at line history are epoch low high is done =
    subst (λ o. IfSome o (λ l. (earlier : Line) → Contains lines earlier → IsTrue (has_to_precede earlier l) → LineTookEffect earlier.line history)) (sym (found_at lines at line are is))
    (λ earlier c t.
    let s = stands_at lines earlier c in
    let p = precedes lines from to at s.0 line earlier are epoch low high is s.1 t in
    done s.0 earlier p.0 p.1 s.1)
