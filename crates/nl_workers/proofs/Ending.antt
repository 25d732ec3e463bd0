-- The first epoch and the last.
use Rattle.std.proofs.Common.{◌≡◌, ◌⊎◌, inl, inr, ℕ, zero, suc, ◌+◌, ◌-◌, ◌<◌, ◌≤◌, Bool, false, nat_lt, ◌||◌, List, [], length, Some, refl, sym, ap, ◌∙◌, subst, arith}
use Rattle.std.specs.Prelude.{slice_get, take}
use Rattle.atomic_table.specs.Seated.{TableId}
use Rattle.nl_callbacks.specs.declared.notices.Notices.{Notices}
use Rattle.nl_tree.specs.Calls.{AreLines}
use Rattle.nl_tree.specs.declared.call.Line.{Line}
use Rattle.nl_turns.specs.Seat.{Passed, SeatState, by_seat, entries}
use Rattle.nl_workers.specs.Placed.{EachPlaced, EntryIsPlaced, KnowsLosses, entries_of, effects_of, losses_by}
use Rattle.nl_workers.specs.Duties.{MayClean, MayHandle}
use Rattle.nl_workers.specs.Fresh.{AreFresh}
use Rattle.nl_workers.specs.Worked.{IsStation}
use Rattle.nl_workers.specs.Crew.{any_lost, effects_from, losses_from}
use Rattle.nl_workers.specs.Rounds.{IsFirstSeat, AllPlaced}
use Rattle.nl_workers.specs.Going.{IsTaskSeat, IsUnderWay, MayGo, TookSeatsBack, HasRunAll, times_in}
use Rattle.nl_workers.specs.declared.crew.Crew.{Crew}
use Rattle.nl_workers.specs.declared.station.Station.{Station}
use Rattle.nl_turns.specs.History.{losses, has_lost_page}
use Rattle.nl_turns.specs.declared.entry.Entry.{Entry}
use Rattle.nl_workers.proofs.Crewing.{counted_stay, effects_same, effects_stay, losses_same}
use Rattle.nl_workers.proofs.Epochs.{below_or}
use Rattle.nl_workers.proofs.Losing.{knows_self, both_know, none_lost_yet}
use Rattle.nl_workers.proofs.Splits.{has_own}
use Rattle.nl_workers.proofs.Totals.{all_counted, all_effects, counted_append, from_append, take_whole}
use Rattle.nl_workers.proofs.Turned.{placed_grows}
use Rattle.nl_workers.proofs.Working.{station_grows}

none_placed : (lines : List Line) (n : ℕ) (history : List Passed) → by_seat n history ≡ [] → EachPlaced lines n history
none_placed lines n history none before entry after is = absurd (has_own n before after entry (ap (by_seat n) is ∙ none))

-- ---- the first epoch

module _ (tells : Type 0) (lock : TableId) (notices : Notices) (lines : List Line) (seat s1 s2 first second : SeatState) (stations : List Station)
    (are : AreLines lines) (of_lock : seat.lock ≡ lock) (is_first : IsFirstSeat lines seat) (fresh : AreFresh lines stations)
    (left1 : s1 ≡ record seat { places = seat.places - 1; next = seat.next + 1 }) (new1 : first ≡ record seat { number = seat.next; places = 0; next = 0; joined = [] })
    (left2 : s2 ≡ record s1 { places = s1.places - 1; next = s1.next + 1 }) (new2 : second ≡ record s1 { number = s1.next; places = 0; next = 0; joined = [] }) where
  seen2 : s2.seen ≡ []
  seen2 = ap (λ (z : SeatState). z.seen) left2 ∙ (ap (λ (z : SeatState). z.seen) left1 ∙ is_first.none_seen)

  next2 : s2.next ≡ 3
  next2 = let a : s2.next ≡ s1.next + 1 = ap (λ (z : SeatState). z.next) left2 in let b : s1.next ≡ seat.next + 1 = ap (λ (z : SeatState). z.next) left1 in let c = is_first.none_given in omega arith

  opening2 : s2.opening ≡ seat.opening
  opening2 = ap (λ (z : SeatState). z.opening) left2 ∙ ap (λ (z : SeatState). z.opening) left1

  pub may_go : MayGo lock lines s2
  may_go = record {
    of_lock = ap (λ (z : SeatState). z.lock) left2 ∙ (ap (λ (z : SeatState). z.lock) left1 ∙ of_lock);
    at_rest = ap (λ (z : SeatState). z.has_turn) left2 ∙ (ap (λ (z : SeatState). z.has_turn) left1 ∙ is_first.at_rest);
    number = ap (λ (z : SeatState). z.number) left2 ∙ (ap (λ (z : SeatState). z.number) left1 ∙ is_first.number);
    places = (let a : s2.places ≡ s1.places - 1 = ap (λ (z : SeatState). z.places) left2 in let b : s1.places ≡ seat.places - 1 = ap (λ (z : SeatState). z.places) left1 in let c = is_first.places in omega arith);
    lines_are = record { are = are; has = ap (λ o. o.lines) opening2 ∙ is_first.lines_are };
  }

  duty_seat : (n : ℕ) (s : SeatState) → s.number ≡ n → s.seen ≡ [] → IsTaskSeat lines n s
  duty_seat n s number none = record {
    number_is = number;
    placed = none_placed lines n s.seen (ap (by_seat n) none);
    done = λ m some. ap (λ (ps : List Passed). effects_of m (entries_of n ps)) none;
  }

  knows_none : (b : Bool) (n : ℕ) → b ≡ false → n ≡ 0 → KnowsLosses false b 0 n
  knows_none b n is none = subst (λ (z : Bool × ℕ). KnowsLosses false z.0 0 z.1) (λ i. (sym is i, sym none i)) (knows_self false 0)

  module _ (crew : Crew) (seat_is : crew.seat ≡ s2) (stations_are : crew.stations.items ≡ stations) (first_is : crew.cleaner.seat ≡ first) (second_is : crew.handler.seat ≡ second)
      (cleaner : MayClean lock notices crew.cleaner) (handler : MayHandle lock notices crew.handler) (none_lost : crew.cleaner.lost ≡ false) (none_lost' : crew.handler.lost ≡ false) where
    seen_none : crew.seat.seen ≡ []
    seen_none = ap (λ (z : SeatState). z.seen) seat_is ∙ seen2

    next3 : crew.seat.next ≡ 3
    next3 = ap (λ (z : SeatState). z.next) seat_is ∙ next2

    station_now : (w : ℕ) (s : Station) → slice_get stations w ≡ Some s → IsStation tells crew.seat.opening lines w 0 crew.seat.seen s
    station_now w s e =
        let f = fresh.each w s e in
        record {
          desk = record {
            room = f.room;
            answers = λ j row is. let h : slice_get [] j ≡ Some row = ap (λ rs. slice_get rs j) (sym f.no_rows) ∙ is in absurd (cc h);
            each = λ i line lt. absurd (omega arith);
          };
          none_lost = λ t. f.not_lost;
        }

    pub sets_out : IsUnderWay tells lock notices lines crew.seat 0 crew
    sets_out = record {
      same = refl;
      below = omega arith;
      numbers = λ n le. ap (by_seat n) seen_none;
      some = let a = next3 in omega arith;
      known = λ n le lt. let a = next3 in absurd (omega arith);
      placed = none_placed lines 0 crew.seat.seen (ap (by_seat 0) seen_none);
      done = λ m some.
          let a : effects_of m (entries_of 0 crew.seat.seen) ≡ 0 = ap (λ (ps : List Passed). effects_of m (entries_of 0 ps)) seen_none in
          let n : crew.seat.next - 3 ≡ 0 = let b = next3 in omega arith in
          let c : effects_from m 3 (crew.seat.next - 3) crew.seat.seen ≡ 0 = ap (λ k. effects_from m 3 k crew.seat.seen) n in
          let d : times_in m (take 0 lines) ≡ 0 = refl in
          omega arith;
      workers_know =
          (let a : any_lost crew.stations.items ≡ false = ap any_lost stations_are ∙ none_lost_yet stations (λ k s e. (fresh.each k s e).not_lost) in
          let b : losses_by 0 crew.seat.seen ≡ 0 = ap (losses_by 0) seen_none in
          let n : crew.seat.next - 3 ≡ 0 = (let d = next3 in omega arith) in
          let c : losses_from 3 (crew.seat.next - 3) crew.seat.seen ≡ 0 = ap (λ k. losses_from 3 k crew.seat.seen) n in
          let all : losses_by 0 crew.seat.seen + losses_from 3 (crew.seat.next - 3) crew.seat.seen ≡ 0 = omega arith in
          knows_none (any_lost crew.stations.items) (losses_by 0 crew.seat.seen + losses_from 3 (crew.seat.next - 3) crew.seat.seen) a all);
      size = ap length stations_are ∙ fresh.size;
      stations_are = λ w s e. station_now w s (ap (λ xs. slice_get xs w) (sym stations_are) ∙ e);
      cleaner = cleaner;
      cleaner_seat = duty_seat 1 crew.cleaner.seat (ap (λ (z : SeatState). z.number) (first_is ∙ new1) ∙ is_first.none_given) (ap (λ (z : SeatState). z.seen) (first_is ∙ new1) ∙ is_first.none_seen);
      cleaner_knows = knows_none crew.cleaner.lost (losses_by 1 crew.cleaner.seat.seen) none_lost (ap (losses_by 1) (ap (λ (z : SeatState). z.seen) (first_is ∙ new1) ∙ is_first.none_seen));
      cleaner_lost = λ t. none_lost;
      handler = handler;
      handler_seat = duty_seat 2 crew.handler.seat
          (ap (λ (z : SeatState). z.number) (second_is ∙ new2) ∙ let a : s1.next ≡ seat.next + 1 = ap (λ (z : SeatState). z.next) left1 in let b = is_first.none_given in omega arith)
          (ap (λ (z : SeatState). z.seen) (second_is ∙ new2) ∙ (ap (λ (z : SeatState). z.seen) left1 ∙ is_first.none_seen));
      handler_knows = knows_none crew.handler.lost (losses_by 2 crew.handler.seat.seen) none_lost'
          (ap (losses_by 2) (ap (λ (z : SeatState). z.seen) (second_is ∙ new2) ∙ (ap (λ (z : SeatState). z.seen) left1 ∙ is_first.none_seen)));
      handler_lost = λ t. none_lost';
    }

    -- ---- the last

    module _ (end : Crew) (after : SeatState) (w : IsUnderWay tells lock notices lines crew.seat (length lines) end) (home : TookSeatsBack end.seat end.cleaner.seat end.handler.seat after) where
      next_is : after.next ≡ end.seat.next
      next_is = ap (λ (z : SeatState). z.next) home.same

      first_number : end.cleaner.seat.number ≡ 1
      first_number = w.cleaner_seat.number_is

      second_number : end.handler.seat.number ≡ 2
      second_number = w.handler_seat.number_is

      first_same : by_seat 1 after.seen ≡ by_seat 1 end.cleaner.seat.seen
      first_same = subst (λ n. by_seat n after.seen ≡ by_seat n end.cleaner.seat.seen) first_number home.first_is

      second_same : by_seat 2 after.seen ≡ by_seat 2 end.handler.seat.seen
      second_same = subst (λ n. by_seat n after.seen ≡ by_seat n end.handler.seat.seen) second_number home.second_is

      each_placed : (n : ℕ) → n < after.next → EachPlaced lines n after.seen
      each_placed zero lt = placed_grows lines 0 end.seat.seen after.seen home.grows home.own w.placed
      each_placed (suc zero) lt = placed_grows lines 1 end.cleaner.seat.seen after.seen home.grows_first first_same w.cleaner_seat.placed
      each_placed (suc (suc zero)) lt = placed_grows lines 2 end.handler.seat.seen after.seen home.grows_second second_same w.handler_seat.placed
      each_placed (suc (suc (suc n))) lt =
          let e = next_is in
          let k = w.known (suc (suc (suc n))) (omega arith) (omega arith) in
          placed_grows lines (suc (suc (suc n))) end.seat.seen after.seen home.grows (home.joined (suc (suc (suc n))) k.0) k.1

      all_placed : AllPlaced lines after.seen
      all_placed before p rest is = go (below_or p.seat after.next)
        where
          go : (p.seat < after.next) ⊎ (after.next ≤ p.seat) → EntryIsPlaced lines p.seat before p.entry
          go (inl h) = each_placed p.seat h before p.entry rest is
          go (inr h) = absurd (has_own p.seat before rest p.entry (ap (by_seat p.seat) is ∙ home.numbers p.seat h))

      all_done : (m : ℕ) → 0 < m → effects_of m (entries after.seen) ≡ times_in m lines
      all_done m some =
          let a = all_effects m after.next after.seen home.numbers in
          let t = w.some in
          let e = next_is in
          let split : after.next ≡ 3 + (end.seat.next - 3) = omega arith in
          let b : effects_from m 0 after.next after.seen ≡ effects_from m 0 (3 + (end.seat.next - 3)) after.seen = ap (λ k. effects_from m 0 k after.seen) split in
          let c = from_append m 0 3 (end.seat.next - 3) after.seen in
          let d : effects_from m 0 3 after.seen ≡ effects_of m (entries_of 0 after.seen) + (effects_of m (entries_of 1 after.seen) + (effects_of m (entries_of 2 after.seen) + 0)) = refl in
          let f = effects_same m 0 end.seat.seen after.seen home.own in
          let g : effects_of m (entries_of 1 after.seen) ≡ 0 = effects_same m 1 end.cleaner.seat.seen after.seen first_same ∙ w.cleaner_seat.done m some in
          let h : effects_of m (entries_of 2 after.seen) ≡ 0 = effects_same m 2 end.handler.seat.seen after.seen second_same ∙ w.handler_seat.done m some in
          let k : effects_from m 3 (end.seat.next - 3) after.seen ≡ effects_from m 3 (end.seat.next - 3) end.seat.seen =
          effects_stay m 3 (end.seat.next - 3) end.seat.seen after.seen (λ i lt. home.joined (3 + i) (w.known (3 + i) (omega arith) (omega arith)).0) in
          let l = w.done m some in
          let n : times_in m (take (length lines) lines) ≡ times_in m lines = ap (times_in m) (take_whole lines) in
          omega arith

      -- the entries of all seats are those of the cleaner, of the handler, and of the workers
      all_losses : losses (entries after.seen) ≡ losses_by 1 end.cleaner.seat.seen + (losses_by 2 end.handler.seat.seen + (losses_by 0 end.seat.seen + losses_from 3 (end.seat.next - 3) end.seat.seen))
      all_losses =
          let a = all_counted (λ (e : Entry). e.lost) after.next after.seen home.numbers in
          let t = w.some in
          let e = next_is in
          let split : after.next ≡ 3 + (end.seat.next - 3) = omega arith in
          let b : losses_from 0 after.next after.seen ≡ losses_from 0 (3 + (end.seat.next - 3)) after.seen = ap (λ k. losses_from 0 k after.seen) split in
          let c = counted_append (λ (e : Entry). e.lost) 0 3 (end.seat.next - 3) after.seen in
          let d : losses_from 0 3 after.seen ≡ losses_by 0 after.seen + (losses_by 1 after.seen + (losses_by 2 after.seen + 0)) = refl in
          let f = losses_same 0 end.seat.seen after.seen home.own in
          let g = losses_same 1 end.cleaner.seat.seen after.seen first_same in
          let h = losses_same 2 end.handler.seat.seen after.seen second_same in
          let k : losses_from 3 (end.seat.next - 3) after.seen ≡ losses_from 3 (end.seat.next - 3) end.seat.seen =
          counted_stay (λ (e : Entry). e.lost) 3 (end.seat.next - 3) end.seat.seen after.seen (λ i lt. home.joined (3 + i) (w.known (3 + i) (omega arith) (omega arith)).0) in
          omega arith

      pub finds : (lost : Bool) → lost ≡ (end.cleaner.lost || (end.handler.lost || any_lost end.stations.items)) → lost ≡ has_lost_page (entries after.seen)
      finds lost is =
          let l1 = losses_by 1 end.cleaner.seat.seen in
          let l2 = losses_by 2 end.handler.seat.seen in
          let l3 = losses_by 0 end.seat.seen + losses_from 3 (end.seat.next - 3) end.seat.seen in
          let k = both_know end.cleaner.lost (end.handler.lost || any_lost end.stations.items) l1 (l2 + l3) w.cleaner_knows
          (both_know end.handler.lost (any_lost end.stations.items) l2 l3 w.handler_knows w.workers_know) in
          is ∙ (k.after_is ∙ ap (λ n. nat_lt 0 n) (sym all_losses))

      same_now : after ≡ record seat { seen = after.seen; next = after.next; joined = after.joined }
      same_now =
          let a : after.lock ≡ seat.lock = ap (λ (z : SeatState). z.lock) home.same ∙ (ap (λ (z : SeatState). z.lock) w.same ∙ (ap (λ (z : SeatState). z.lock) seat_is ∙ (ap (λ (z : SeatState). z.lock) left2 ∙ ap (λ (z : SeatState). z.lock) left1))) in
          let b : after.number ≡ seat.number = ap (λ (z : SeatState). z.number) home.same ∙ (ap (λ (z : SeatState). z.number) w.same ∙ (ap (λ (z : SeatState). z.number) seat_is ∙ (ap (λ (z : SeatState). z.number) left2 ∙ ap (λ (z : SeatState). z.number) left1))) in
          let c : after.opening ≡ seat.opening = ap (λ (z : SeatState). z.opening) home.same ∙ (ap (λ (z : SeatState). z.opening) w.same ∙ (ap (λ (z : SeatState). z.opening) seat_is ∙ opening2)) in
          let d : after.has_turn ≡ seat.has_turn = ap (λ (z : SeatState). z.has_turn) home.same ∙ (ap (λ (z : SeatState). z.has_turn) w.same ∙ (ap (λ (z : SeatState). z.has_turn) seat_is ∙ (ap (λ (z : SeatState). z.has_turn) left2 ∙ ap (λ (z : SeatState). z.has_turn) left1))) in
          let e : after.places ≡ end.seat.places + 2 = ap (λ (z : SeatState). z.places) home.same in
          let f : end.seat.places ≡ s2.places = ap (λ (z : SeatState). z.places) w.same ∙ ap (λ (z : SeatState). z.places) seat_is in
          let g : s2.places ≡ s1.places - 1 = ap (λ (z : SeatState). z.places) left2 in
          let h : s1.places ≡ seat.places - 1 = ap (λ (z : SeatState). z.places) left1 in
          let k = is_first.places in
          let p : after.places ≡ seat.places = omega arith in
          λ i. record { lock = a i; number = b i; opening = c i; seen = after.seen; has_turn = d i; places = p i; next = after.next; joined = after.joined }

      pub arrives : (worked : List Station) → worked ≡ end.stations.items → HasRunAll tells lines seat after worked
      arrives worked worked_is = record {
        same = same_now;
        placed = all_placed;
        done = all_done;
        size = ap length worked_is ∙ w.size;
        stations_are = λ k s e. station_grows tells seat.opening lines k (length lines) end.seat.seen after.seen s home.grows
            (subst (λ o. IsStation tells o lines k (length lines) end.seat.seen s) (ap (λ (z : SeatState). z.opening) seat_is ∙ opening2) (w.stations_are k s (ap (λ xs. slice_get xs k) (sym worked_is) ∙ e)));
      }
