-- What a round of workers adds up to.
use Rattle.std.proofs.Common.{◌≡◌, ℕ, zero, suc, ◌+◌, ◌-◌, ◌*◌, ◌^◌, ◌<◌, ◌≤◌, List, [], ◌∷◌, length, replicate, Option, Some, None, refl, ap, ◌∙◌, subst, arith}
use Rattle.std.specs.Prelude.{slice_get, IfSome}
use Rattle.std.proofs.Math.Nat.{mul-le-mul_left, mul_comm, min-eq_left}
use Rattle.nl_field.specs.CrashStates.{top, saturated}
use Rattle.nl_tree.specs.Calls.{IsLine}
use Rattle.nl_tree.specs.declared.call.Line.{Line}
use Rattle.nl_turns.specs.History.{Opening, line_at, effects}
use Rattle.nl_turns.specs.Seat.{SeatState, by_seat, entries, NoNumberBeyond}
use Rattle.nl_turns.proofs.Lines.{get_at, line_found}
use Rattle.nl_test_workers.specs.Script.{IsScript}
use Rattle.nl_test_workers.specs.Work.{entries_of, lines_of, LineIsOfSeat, EachHasLine, SeatsHaveRun}
use Rattle.nl_test_workers.proofs.Totals.{workers_effects, effects_of_line}

-- a script's lines are lines of an opening that has them
pub script_lines : (opening : Opening) (lines : List Line) (count : ℕ) → opening.lines ≡ lines → IsScript lines count → EachHasLine opening lines
script_lines opening lines count has script i = go (slice_get lines i) refl
  where
    go : (x : Option Line) → slice_get lines i ≡ x → IfSome x (LineIsOfSeat opening)
    go None e = tt
    go (Some l) e =
        let at = get_at lines i l l e in
        let is : IsLine l = subst IsLine at.1 (script.lines_are.each i l at.0) in
        record {
          numbered = is.number;
          bounded = is.bounded;
          found = (l, ap (λ ls. line_at ls l.line) has ∙ line_found lines i l (λ j k d below within. (script.lines_are.rising j k d below within).0) e, refl, refl);
        }

get_there : (xs : List Line) (i : ℕ) → i < length xs → (l : Line) × (slice_get xs i ≡ Some l)
get_there [] i h = absurd (omega arith)
get_there (x ∷ xs) zero h = (x, refl)
get_there (x ∷ xs) (suc i) h = get_there xs i (omega arith)

pub run_counts : (seat after : SeatState) (lines : List Line) (workers times : ℕ) → IsScript lines workers → SeatsHaveRun seat lines workers times after → seat.next ≡ 1 → seat.seen ≡ []
    → effects (entries after.seen) ≡ workers * times
run_counts seat after lines workers times script ran next seen =
    workers_effects workers times after.seen (subst (λ n. NoNumberBeyond n after.seen) next_is (ran.numbers (λ n le. ap (by_seat n) seen))) (ran.own ∙ ap (by_seat 0) seen) each
  where
    next_is : after.next ≡ workers + 1
    next_is = let a = ap (λ (z : SeatState). z.next) ran.same in omega arith

    each : (i : ℕ) → i < workers → effects (entries_of (1 + i) after.seen) ≡ times
    each i below =
        let l = get_there lines (workers - 1 - i) (let c = script.count_is in omega arith) in
        let at = get_at lines (workers - 1 - i) l.0 l.0 l.1 in
        let some : 0 < l.0.line = subst (λ (z : Line). 0 < z.line) at.1 (script.lines_are.each (workers - 1 - i) l.0 at.0).number in
        let did : lines_of (seat.next + i) after.seen ≡ replicate times l.0.line = subst (λ o. IfSome o (λ line. lines_of (seat.next + i) after.seen ≡ replicate times line.line)) l.1 (ran.each i below).1 in
        let here : lines_of (1 + i) after.seen ≡ replicate times l.0.line = subst (λ n. lines_of (n + i) after.seen ≡ replicate times l.0.line) next did in
        effects_of_line l.0.line times (entries_of (1 + i) after.seen) some here

-- a count from 0 is never at its end
pub count_fits : (n workers times : ℕ) → n ≡ workers * times → workers ≤ 9 → times < 2 ^ 32 → saturated (0 + n) ≡ workers * times
count_fits n workers times is few small =
    let most : times * workers ≤ times * 9 = mul-le-mul_left times few in
    let turned : times * workers ≡ workers * times = mul_comm times workers in
    let below : 0 + n ≤ top = omega arith in
    min-eq_left below ∙ let z : 0 + n ≡ n = omega arith in z ∙ is
