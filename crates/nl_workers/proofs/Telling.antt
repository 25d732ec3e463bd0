-- How many pages a seat staged for a line, turn by turn.
use Rattle.std.proofs.Common.{◌≡◌, ◌==◌, ℕ, ◌+◌, ◌≤◌, ◌&&◌, Bool, true, false, cond, List, [], ◌∷◌, ◌++◌, refl, sym, ap, ◌∙◌, subst, arith, eq-eqb, ne_eqb}
use Rattle.std.proofs.lemmas.Bool.{lt-ltb, le-ltb}
use Rattle.std.proofs.lemmas.List.Sums.{sum_by_push}
use Rattle.std.specs.Prelude.{nat_lt}
use Rattle.nl_turns.specs.Seat.{SeatState, by_seat, passed_by}
use Rattle.nl_turns.specs.declared.entry.Entry.{Entry}
use Rattle.nl_workers.specs.Gates.{stagings_of, StagesSome}
use Rattle.nl_workers.specs.Placed.{HasPassed, entries_of, one_if}
use Rattle.nl_workers.proofs.GoingOn.{passed_seen}
use Rattle.nl_workers.proofs.Turned.{own_more}

stagings_push : (m : ℕ) (es : List Entry) (e : Entry) → stagings_of m (es ++ e ∷ []) ≡ stagings_of m es + one_if (e.staged == m && e.more)
stagings_push m es e = sum_by_push (λ (x : Entry). cond (x.staged == m && x.more) 1 0) es e

and_false : (b : Bool) → (b && false) ≡ false
and_false true = refl
and_false false = refl

module _ (seat s s' : SeatState) (e : Entry) (number : s.number ≡ seat.number) (p : HasPassed s e s') where
  -- what one turn adds
  passed_stagings : (m : ℕ) → stagings_of m (entries_of seat.number s'.seen) ≡ stagings_of m (entries_of seat.number s.seen) + one_if (e.staged == m && e.more)
  passed_stagings m =
      let seen_is : s'.seen ≡ p.mid ++ passed_by seat.number e ∷ [] = passed_seen s s' e p ∙ ap (λ k. p.mid ++ passed_by k e ∷ []) number in
      let quiet : by_seat seat.number p.mid ≡ by_seat seat.number s.seen = subst (λ k. by_seat k p.mid ≡ by_seat k s.seen) number p.quiet in
      ap (λ xs. stagings_of m (entries_of seat.number xs)) seen_is ∙ ap (stagings_of m) (own_more seat.number s.seen p.mid e quiet)
      ∙ stagings_push m (entries_of seat.number s.seen) e

  adds_none : (m : ℕ) → one_if (e.staged == m && e.more) ≡ 0 → stagings_of m (entries_of seat.number s'.seen) ≡ stagings_of m (entries_of seat.number s.seen)
  adds_none m none = passed_stagings m ∙ ap (λ k. stagings_of m (entries_of seat.number s.seen) + k) none ∙ plus_zero (stagings_of m (entries_of seat.number s.seen))
    where
      plus_zero : (k : ℕ) → k + 0 ≡ k
      plus_zero k = omega arith

  -- a turn that stages nothing
  pub none_staged : e.more ≡ false → (m : ℕ) → stagings_of m (entries_of seat.number s'.seen) ≡ stagings_of m (entries_of seat.number s.seen)
  none_staged none m = adds_none m (ap one_if (ap (λ b. e.staged == m && b) none ∙ and_false (e.staged == m)))

module _ (line : ℕ) (seat s s' : SeatState) (e : Entry) (number : s.number ≡ seat.number) (p : HasPassed s e s') where
  -- a turn that stages nothing
  pub stays_some : (some : Bool) → e.more ≡ false → StagesSome line seat s some → StagesSome line seat s' some
  stays_some some none i =
      let same = none_staged seat s s' e number p none in
      record {
        none_gone = subst (λ k. stagings_of line (entries_of seat.number seat.seen) ≤ k) (sym (same line)) i.none_gone;
        some_is = i.some_is ∙ ap (nat_lt (stagings_of line (entries_of seat.number seat.seen))) (sym (same line));
        others = λ m other. same m ∙ i.others m other;
      }

  -- a turn that stages
  pub has_some : (some : Bool) → e.staged ≡ line → e.more ≡ true → StagesSome line seat s some → StagesSome line seat s' true
  has_some some line_is more i =
      let adds : one_if (e.staged == line && e.more) ≡ 1 = ap one_if ((λ k. eq-eqb e.staged line line_is k && more k)) in
      let rises : stagings_of line (entries_of seat.number s'.seen) ≡ stagings_of line (entries_of seat.number s.seen) + 1 = passed_stagings seat s s' e number p line ∙ ap (λ k. stagings_of line (entries_of seat.number s.seen) + k) adds in
      let a = stagings_of line (entries_of seat.number seat.seen) in
      let b = stagings_of line (entries_of seat.number s.seen) in
      let c = stagings_of line (entries_of seat.number s'.seen) in
      let low : a ≤ b = i.none_gone in
      record {
        none_gone = omega arith;
        some_is = sym (lt-ltb a c (omega arith));
        others = λ m other. adds_none seat s s' e number p m (ap (λ (b : Bool). one_if (b && e.more)) (ne_eqb e.staged m (λ same. other (sym same ∙ line_is)))) ∙ i.others m other;
      }

pub none_yet : (line : ℕ) (seat : SeatState) → StagesSome line seat seat false
none_yet line seat = record { none_gone = omega arith; some_is = sym (le-ltb (stagings_of line (entries_of seat.number seat.seen)) (stagings_of line (entries_of seat.number seat.seen)) (omega arith)); others = λ m other. refl }
