-- One worker more in a round.
use Rattle.std.proofs.Common.{◌≡◌, ℕ, zero, suc, ◌+◌, ◌-◌, ◌<◌, List, [], ◌∷◌, ◌++◌, map, replicate, Option, Some, None, sym, ap, ◌∙◌, subst, arith}
use Rattle.std.specs.Prelude.{slice_get, IfSome, Contains}
use mathlib.Core.List.{IsPrefix}
use Rattle.nl_tree.specs.declared.call.Line.{Line}
use Rattle.nl_turns.specs.Seat.{Passed, SeatState, by_seat, longer, NoNumberBeyond}
use Rattle.nl_test_workers.specs.Work.{lines_of, HasTakenTurns, CanRunWorkers, SeatsHaveRun}
use Rattle.nl_turns.proofs.Histories.{prefix_trans}

contains_cons : (n m : ℕ) (ms : List ℕ) → Contains ms n → Contains (m ∷ ms) n
contains_cons n m ms h = (suc h.0, let below = h.1 in omega arith, h.2)

contains_here : (n m : ℕ) (ms : List ℕ) → m ≡ n → Contains (m ∷ ms) n
contains_here n m ms e = (0, omega arith, e)

no_lines : (n : ℕ) (xs : List Passed) → by_seat n xs ≡ [] → lines_of n xs ≡ []
no_lines n xs e = ap (λ (ys : List Passed). map (λ e. e.line) (map (λ p. p.entry) ys)) e

module _ (seat own s1 own' s2 s3 : SeatState) (lines : List Line) (line : Line) (more times : ℕ)
    (may : CanRunWorkers seat (more + 1))
    (at : slice_get lines more ≡ Some line)
    (new : own ≡ record seat { number = seat.next; places = 0; next = 0; joined = [] })
    (left : s1 ≡ record seat { places = seat.places - 1; next = seat.next + 1 })
    (unused : NoNumberBeyond own.number own.seen)
    (worked : HasTakenTurns own line.line times own')
    (ran : SeatsHaveRun s1 lines more times s2)
    (joined : s3 ≡ record s2 { seen = longer s2.seen own'.seen; places = s2.places + 1; joined = own'.number ∷ s2.joined })
    (grows : IsPrefix s2.seen s3.seen × IsPrefix own'.seen s3.seen)
    (kept : by_seat 0 s3.seen ≡ by_seat 0 s2.seen)
    (theirs : by_seat own'.number s3.seen ≡ by_seat own'.number own'.seen)
    (before : (n : ℕ) → Contains s2.joined n → by_seat n s3.seen ≡ by_seat n s2.seen)
    (numbers : NoNumberBeyond s3.next s3.seen) where
  joined_is : s3.joined ≡ own'.number ∷ s2.joined
  joined_is = ap (λ (z : SeatState). z.joined) joined

  number_is : own'.number ≡ seat.next
  number_is = ap (λ (z : SeatState). z.number) worked.same ∙ ap (λ (z : SeatState). z.number) new

  seen1 : s1.seen ≡ seat.seen
  seen1 = ap (λ (z : SeatState). z.seen) left

  next1 : s1.next ≡ seat.next + 1
  next1 = ap (λ (z : SeatState). z.next) left

  next3 : s3.next ≡ s2.next
  next3 = ap (λ (z : SeatState). z.next) joined

  next2 : s2.next ≡ s1.next + more
  next2 = ap (λ (z : SeatState). z.next) ran.same

  places3 : s3.places ≡ seat.places
  places3 =
      let a : s3.places ≡ s2.places + 1 = ap (λ (z : SeatState). z.places) joined in
      let b : s2.places ≡ s1.places = ap (λ (z : SeatState). z.places) ran.same in
      let c : s1.places ≡ seat.places - 1 = ap (λ (z : SeatState). z.places) left in
      let d = may.places in
      omega arith

  same_is : s3 ≡ record seat { seen = s3.seen; next = seat.next + (more + 1); joined = s3.joined }
  same_is =
      let a : s3.lock ≡ seat.lock = ap (λ (z : SeatState). z.lock) joined ∙ (ap (λ (z : SeatState). z.lock) ran.same ∙ ap (λ (z : SeatState). z.lock) left) in
      let b : s3.number ≡ seat.number = ap (λ (z : SeatState). z.number) joined ∙ (ap (λ (z : SeatState). z.number) ran.same ∙ ap (λ (z : SeatState). z.number) left) in
      let c : s3.opening ≡ seat.opening = ap (λ (z : SeatState). z.opening) joined ∙ (ap (λ (z : SeatState). z.opening) ran.same ∙ ap (λ (z : SeatState). z.opening) left) in
      let d : s3.has_turn ≡ seat.has_turn = ap (λ (z : SeatState). z.has_turn) joined ∙ (ap (λ (z : SeatState). z.has_turn) ran.same ∙ ap (λ (z : SeatState). z.has_turn) left) in
      let x = next3 in
      let y = next2 in
      let z = next1 in
      let e : s3.next ≡ seat.next + (more + 1) = omega arith in
      λ i. record { lock = a i; number = b i; opening = c i; seen = s3.seen; has_turn = d i; places = places3 i; next = e i; joined = s3.joined }

  own_lines : lines_of seat.next s3.seen ≡ replicate times line.line
  own_lines =
      let was : own.number ≡ seat.next = ap (λ (z : SeatState). z.number) new in
      let here : by_seat seat.next s3.seen ≡ by_seat seat.next own'.seen = subst (λ n. by_seat n s3.seen ≡ by_seat n own'.seen) number_is theirs in
      let did : lines_of seat.next own'.seen ≡ lines_of seat.next own.seen ++ replicate times line.line = subst (λ n. lines_of n own'.seen ≡ lines_of n own.seen ++ replicate times line.line) was worked.own in
      let none : lines_of seat.next own.seen ≡ [] = no_lines seat.next own.seen (unused seat.next (let e = was in omega arith)) in
      ap (λ (ys : List Passed). map (λ e. e.line) (map (λ p. p.entry) ys)) here ∙ (did ∙ ap (λ xs. xs ++ replicate times line.line) none)

  each_is : (i : ℕ) → i < more + 1 → Contains s3.joined (seat.next + i) × IfSome (slice_get lines (more + 1 - 1 - i)) (λ l. lines_of (seat.next + i) s3.seen ≡ replicate times l.line)
  each_is zero below =
      let next : seat.next + 0 ≡ seat.next = omega arith in
      let last : more + 1 - 1 - 0 ≡ more = omega arith in (
        subst (λ (js : List ℕ). Contains js (seat.next + 0)) (sym joined_is) (contains_here (seat.next + 0) own'.number s2.joined (number_is ∙ sym next)),
        subst (λ (o : Option Line). IfSome o (λ l. lines_of (seat.next + 0) s3.seen ≡ replicate times l.line)) (sym (ap (slice_get lines) last ∙ at)) (ap (λ n. lines_of n s3.seen) next ∙ own_lines),
      )
  each_is (suc i) below =
      let n1 = next1 in
      let next : s1.next + i ≡ seat.next + suc i = omega arith in
      let place : more - 1 - i ≡ more + 1 - 1 - suc i = omega arith in
      let h = ran.each i (omega arith) in
      let stay : lines_of (s1.next + i) s3.seen ≡ lines_of (s1.next + i) s2.seen = ap (λ (ys : List Passed). map (λ e. e.line) (map (λ p. p.entry) ys)) (before (s1.next + i) h.0) in
      let kept' : IfSome (slice_get lines (more - 1 - i)) (λ l. lines_of (s1.next + i) s3.seen ≡ replicate times l.line) = carry (slice_get lines (more - 1 - i)) (lines_of (s1.next + i) s2.seen) (lines_of (s1.next + i) s3.seen) stay h.1 in (
        subst (λ (z : List ℕ × ℕ). Contains z.0 z.1) (λ k. (sym joined_is k, next k)) (contains_cons (s1.next + i) own'.number s2.joined h.0),
        subst (λ (z : ℕ × ℕ). IfSome (slice_get lines z.0) (λ l. lines_of z.1 s3.seen ≡ replicate times l.line)) (λ k. (place k, next k)) kept',
      )
    where
      carry : (o : Option Line) (xs ys : List ℕ) → ys ≡ xs → IfSome o (λ l. xs ≡ replicate times l.line) → IfSome o (λ l. ys ≡ replicate times l.line)
      carry None xs ys e h = tt
      carry (Some l) xs ys e h = e ∙ h

  pub one_more_ran : SeatsHaveRun seat lines (more + 1) times s3
  one_more_ran = record {
    same = same_is;
    grows = (
        let b : IsPrefix seat.seen s2.seen = subst (λ xs. IsPrefix xs s2.seen) seen1 ran.grows in
        prefix_trans seat.seen s2.seen s3.seen b grows.0);
    own = kept ∙ (ran.own ∙ ap (by_seat 0) seen1);
    numbers = λ _. numbers;
    joined = λ n h.
        let was : Contains s1.joined n = subst (λ (z : SeatState). Contains z.joined n) (sym left) h in
        let q = ran.joined n was in
        (subst (λ (js : List ℕ). Contains js n) (sym joined_is) (contains_cons n own'.number s2.joined q.0), before n q.0 ∙ (q.1 ∙ ap (by_seat n) seen1));
    each = each_is;
  }
