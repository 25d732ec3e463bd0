-- One worker more in an epoch.
use Rattle.std.proofs.Common.{◌≡◌, ◌⊎◌, inl, inr, ◌==◌, ◌&&◌, ◌||◌, ℕ, zero, suc, ◌+◌, ◌-◌, ◌<◌, Bool, true, false, cond, nat_lt, List, [], ◌∷◌, ◌++◌, length, Some, refl, sym, ap, ◌∙◌, subst, arith, length-append}
use Rattle.std.proofs.lemmas.Bool.Decides.{nat_tests}
use Rattle.std.proofs.lemmas.List.{append-nil}
use Rattle.std.proofs.lemmas.List.Sums.{sum_by-cons}
use Rattle.std.specs.Prelude.{slice_get, Contains, count_by}
use mathlib.Core.List.{IsPrefix}
use Rattle.nl_tree.specs.declared.call.Line.{Line}
use Rattle.nl_turns.specs.History.{losses}
use Rattle.nl_turns.specs.Seat.{Passed, SeatState, by_seat, entries, longer, NoNumberBeyond}
use Rattle.nl_turns.proofs.Histories.{prefix_trans}
use Rattle.nl_workers.specs.Placed.{EachPlaced, KnowsLosses, entries_of, effects_of, losses_by}
use Rattle.nl_workers.specs.Worked.{AreLinesOf, IsStation, MayWork, HasWorked, AreDone, lines_between, lines_of}
use Rattle.nl_workers.specs.Crew.{MayStart, CrewHasRun, any_lost, counted_from, effects_from, losses_from, lines_below}
use Rattle.nl_turns.specs.declared.entry.Entry.{Entry}
use Rattle.nl_workers.specs.declared.station.Station.{Station}
use Rattle.nl_workers.proofs.Losing.{knows_self, knows_trans, knows_beside, first_knows, second_knows, stations_know, any_push}
use Rattle.nl_workers.proofs.Splits.{has_own}
use Rattle.nl_workers.proofs.Turned.{placed_grows, effect_grows}
use Rattle.nl_workers.proofs.Working.{station_grows}

-- ---- lists

contains_cons : (n m : ℕ) (ms : List ℕ) → Contains ms n → Contains (m ∷ ms) n
contains_cons n m ms h = (suc h.0, let below = h.1 in omega arith, h.2)

contains_here : (n m : ℕ) (ms : List ℕ) → m ≡ n → Contains (m ∷ ms) n
contains_here n m ms e = (0, omega arith, e)

pub get_last : (xs : List Station) (x : Station) → slice_get (xs ++ x ∷ []) (length xs) ≡ Some x
get_last [] x = refl
get_last (y ∷ xs) x = get_last xs x

pub get_front : (xs : List Station) (x y : Station) (i : ℕ) → slice_get xs i ≡ Some y → slice_get (xs ++ x ∷ []) i ≡ Some y
get_front [] x y i e = absurd (cc e)
get_front (z ∷ xs) x y zero e = e
get_front (z ∷ xs) x y (suc i) e = get_front xs x y i e

get_either : (xs : List Station) (x y : Station) (i : ℕ) → slice_get (xs ++ x ∷ []) i ≡ Some y → (slice_get xs i ≡ Some y) ⊎ ((i ≡ length xs) × (x ≡ y))
get_either [] x y zero e = inr (refl, cc e)
get_either [] x y (suc i) e = absurd (cc e)
get_either (z ∷ xs) x y zero e = inl e
get_either (z ∷ xs) x y (suc i) e = go (get_either xs x y i e)
  where
    go : (slice_get xs i ≡ Some y) ⊎ ((i ≡ length xs) × (x ≡ y)) → (slice_get xs i ≡ Some y) ⊎ ((suc i ≡ suc (length xs)) × (x ≡ y))
    go (inl h) = inl h
    go (inr h) = inr (ap suc h.0, h.1)

-- ---- counts

one_more : (w k : ℕ) (is : Bool) → cond {A = ℕ} (nat_lt w (k + 1) && is) 1 0 ≡ cond {A = ℕ} (nat_lt w k && is) 1 0 + cond {A = ℕ} (w == k && is) 1 0
one_more w k true = grind (arith, nat_tests)
one_more w k false = grind (arith, nat_tests)

below_more : (m k : ℕ) (xs : List Line) → lines_below m (k + 1) xs ≡ lines_below m k xs + lines_of m k xs
below_more m k [] = refl
below_more m k (x ∷ xs) =
    let a : lines_below m (k + 1) (x ∷ xs) ≡ cond {A = ℕ} (nat_lt x.worker (k + 1) && x.line == m) 1 0 + lines_below m (k + 1) xs = sum_by-cons (λ (l : Line). cond (nat_lt l.worker (k + 1) && l.line == m) 1 0) x xs in
    let b : lines_below m k (x ∷ xs) ≡ cond {A = ℕ} (nat_lt x.worker k && x.line == m) 1 0 + lines_below m k xs = sum_by-cons (λ (l : Line). cond (nat_lt l.worker k && l.line == m) 1 0) x xs in
    let c : lines_of m k (x ∷ xs) ≡ cond {A = ℕ} (x.worker == k && x.line == m) 1 0 + lines_of m k xs = sum_by-cons (λ (l : Line). cond (l.worker == k && l.line == m) 1 0) x xs in
    let d = below_more m k xs in
    let e = one_more x.worker k (x.line == m) in
    omega arith

below_zero : (m : ℕ) (xs : List Line) → lines_below m 0 xs ≡ 0
below_zero m [] = refl
below_zero m (x ∷ xs) =
    let b : lines_below m 0 (x ∷ xs) ≡ cond {A = ℕ} (nat_lt x.worker 0 && x.line == m) 1 0 + lines_below m 0 xs = sum_by-cons (λ (l : Line). cond (nat_lt l.worker 0 && l.line == m) 1 0) x xs in
    let none : nat_lt x.worker 0 ≡ false = grind (arith, nat_tests) in
    let c : cond {A = ℕ} (nat_lt x.worker 0 && x.line == m) 1 0 ≡ 0 = ap (λ (t : Bool). cond {A = ℕ} (t && x.line == m) 1 0) none in
    let d = below_zero m xs in
    omega arith

pub effects_same : (m n : ℕ) (old all : List Passed) → by_seat n all ≡ by_seat n old → effects_of m (entries_of n all) ≡ effects_of m (entries_of n old)
effects_same m n old all same = ap (λ (ps : List Passed). effects_of m (entries ps)) same

pub losses_same : (n : ℕ) (old all : List Passed) → by_seat n all ≡ by_seat n old → losses_by n all ≡ losses_by n old
losses_same n old all same = ap (λ (ps : List Passed). losses (entries ps)) same

pub counted_stay : (f : Entry → Bool) (first count : ℕ) (old all : List Passed) → ((i : ℕ) → i < count → by_seat (first + i) all ≡ by_seat (first + i) old) → counted_from f first count all ≡ counted_from f first count old
counted_stay f first zero old all same = refl
counted_stay f first (suc count) old all same =
    let n : first + 0 ≡ first = omega arith in
    let here : by_seat first all ≡ by_seat first old = subst (λ k. by_seat k all ≡ by_seat k old) n (same 0 (omega arith)) in
    let a : count_by f (entries_of first all) ≡ count_by f (entries_of first old) = ap (λ (ps : List Passed). count_by f (entries ps)) here in
    let b = counted_stay f (first + 1) count old all (λ i lt. let k : first + suc i ≡ first + 1 + i = omega arith in subst (λ j. by_seat j all ≡ by_seat j old) k (same (suc i) (omega arith))) in
    omega arith

pub effects_stay : (m first count : ℕ) (old all : List Passed) → ((i : ℕ) → i < count → by_seat (first + i) all ≡ by_seat (first + i) old) → effects_from m first count all ≡ effects_from m first count old
effects_stay m first count old all same = counted_stay (λ (e : Entry). e.line == m) first count old all same

-- ---- no worker

pub none_ran : (tells : Type 0) (lines : List Line) (from to : ℕ) (seat : SeatState) (stations : List Station) → stations ≡ [] → MayStart tells lines from to seat stations
    → CrewHasRun tells lines from to seat stations seat stations
none_ran tells lines from to seat stations none may = record {
  count = 0;
  same = let e : seat.next ≡ seat.next + 0 = omega arith in λ i. record seat { next = e i };
  grows = ([], append-nil seat.seen);
  numbers = λ h. h;
  joined = λ n h. (h, refl);
  each = λ i h. absurd (omega arith);
  placed = may.placed;
  done = λ m some. let a : lines_below m (length stations) (lines_between from to lines) ≡ 0 = ap (λ (s : List Station). lines_below m (length s) (lines_between from to lines)) none ∙ below_zero m (lines_between from to lines) in omega arith;
  knows = knows_beside (any_lost stations) (any_lost stations) (losses_by 0 seat.seen) (losses_by 0 seat.seen) 0 (losses_by 0 seat.seen) (losses_by 0 seat.seen + 0) (omega arith) refl (knows_self (any_lost stations) (losses_by 0 seat.seen));
  size = refl;
  stations_are = λ w s e. let h : slice_get [] w ≡ Some s = subst (λ (xs : List Station). slice_get xs w ≡ Some s) none e in absurd (cc h);
}

done_grows : (lines : List Line) (count : ℕ) (old all : List Passed) → IsPrefix old all → AreDone lines count old → AreDone lines count all
done_grows lines count old all p d = λ i line lt e. effect_grows line.line old all p (d i line lt e)

-- ---- a worker with the first seat

module _ (tells : Type 0) (lines : List Line) (from to worker : ℕ) (seat : SeatState) (station : Station) (more : List Station) (may : MayStart tells lines from to seat (more ++ station ∷ [])) (worker_is : worker ≡ length more) where
  count_is : length (more ++ station ∷ []) ≡ length more + 1
  count_is = length-append more (station ∷ [])

  station_now : IsStation tells seat.opening lines worker from seat.seen station
  station_now = may.stations_are worker station (ap (slice_get (more ++ station ∷ [])) worker_is ∙ get_last more station)

  pub may_work : MayWork tells lines worker from to seat station
  may_work = record {
    at_rest = may.at_rest;
    lines_are = may.lines_are;
    rises = may.rises;
    epoch = may.epoch;
    before = may.before;
    placed = subst (λ n. EachPlaced lines n seat.seen) (sym may.first) may.placed;
    station_is = station_now;
  }

  module _ (seat1 : SeatState) (station' : Station) (worked : HasWorked tells lines worker from to seat station seat1 station') where
    next1 : seat1.next ≡ seat.next
    next1 = ap (λ (z : SeatState). z.next) worked.goes.same

    opening1 : seat1.opening ≡ seat.opening
    opening1 = ap (λ (z : SeatState). z.opening) worked.goes.same

    places1 : seat1.places ≡ seat.places
    places1 = ap (λ (z : SeatState). z.places) worked.goes.same

    pub may_go_on : MayStart tells lines from to seat1 more
    may_go_on =
        let n = count_is in
        let p = places1 in
        let f = may.few in
        let q = may.places in
        record {
          at_rest = ap (λ (z : SeatState). z.has_turn) worked.goes.same ∙ may.at_rest;
          first = ap (λ (z : SeatState). z.number) worked.goes.same ∙ may.first;
          few = omega arith;
          places = omega arith;
          lines_are = subst (λ o. AreLinesOf o lines) (sym opening1) may.lines_are;
          rises = may.rises;
          epoch = may.epoch;
          before = done_grows lines from seat.seen seat1.seen worked.goes.grows may.before;
          placed = subst (λ n. EachPlaced lines n seat1.seen) may.first worked.placed;
          stations_are = λ w s e. station_grows tells seat1.opening lines w from seat.seen seat1.seen s worked.goes.grows
              (subst (λ o. IsStation tells o lines w from seat.seen s) (sym opening1) (may.stations_are w s (get_front more station s w e)));
        }

    module _ (seat2 : SeatState) (more' : List Station) (ran : CrewHasRun tells lines from to seat1 more seat2 more') where
      stations_now : (w : ℕ) (s : Station) → slice_get (more' ++ station' ∷ []) w ≡ Some s → IsStation tells seat.opening lines w to seat2.seen s
      stations_now w s e = go (get_either more' station' s w e)
        where
          go : (slice_get more' w ≡ Some s) ⊎ ((w ≡ length more') × (station' ≡ s)) → IsStation tells seat.opening lines w to seat2.seen s
          go (inl old) = subst (λ o. IsStation tells o lines w to seat2.seen s) opening1 (ran.stations_are w s old)
          go (inr new) =
              let at : worker ≡ w = worker_is ∙ (sym ran.size ∙ sym new.0) in
              subst (λ (z : ℕ × Station). IsStation tells seat.opening lines z.0 to seat2.seen z.1) (λ i. (at i, new.1 i))
              (station_grows tells seat.opening lines worker to seat1.seen seat2.seen station' ran.grows worked.station_is)

      pub own_ran : CrewHasRun tells lines from to seat (more ++ station ∷ []) seat2 (more' ++ station' ∷ [])
      own_ran = record {
        count = ran.count;
        same = ran.same ∙ (λ i. record (worked.goes.same i) { seen = seat2.seen; next = next1 i + ran.count; joined = seat2.joined });
        grows = prefix_trans seat.seen seat1.seen seat2.seen worked.goes.grows ran.grows;
        numbers = λ h. ran.numbers (subst (λ n. NoNumberBeyond n seat1.seen) (sym next1) (worked.goes.numbers may.first h));
        joined = λ n h.
            let here : Contains seat1.joined n = subst (λ (z : SeatState). Contains z.joined n) (sym worked.goes.same) h in
            let q = ran.joined n here in
            (q.0, q.1 ∙ worked.goes.joined n h);
        each = λ i lt. subst (λ n. Contains seat2.joined (n + i) × EachPlaced lines (n + i) seat2.seen) next1 (ran.each i lt);
        placed = ran.placed;
        done = λ m some.
            let a = ran.done m some in
            let b : effects_of m (entries_of 0 seat1.seen) ≡ effects_of m (entries_of 0 seat.seen) + lines_of m worker (lines_between from to lines) = subst
            (λ n. effects_of m (entries_of n seat1.seen) ≡ effects_of m (entries_of n seat.seen) + lines_of m worker (lines_between from to lines)) may.first (worked.done m some) in
            let c : lines_of m worker (lines_between from to lines) ≡ lines_of m (length more) (lines_between from to lines) = ap (λ w. lines_of m w (lines_between from to lines)) worker_is in
            let d : lines_below m (length (more ++ station ∷ [])) (lines_between from to lines) ≡ lines_below m (length more) (lines_between from to lines) + lines_of m (length more) (lines_between from to lines) =
            ap (λ k. lines_below m k (lines_between from to lines)) count_is ∙ below_more m (length more) (lines_between from to lines) in
            let e : effects_from m seat1.next ran.count seat2.seen ≡ effects_from m seat.next ran.count seat2.seen = ap (λ n. effects_from m n ran.count seat2.seen) next1 in
            omega arith;
        knows = stations_know more more' station station' (losses_by 0 seat.seen) (losses_by 0 seat1.seen) (losses_by 0 seat2.seen + losses_from seat.next ran.count seat2.seen)
            (subst (λ n. KnowsLosses station.lost station'.lost (losses_by n seat.seen) (losses_by n seat1.seen)) may.first worked.knows)
            (subst (λ n. KnowsLosses (any_lost more) (any_lost more') (losses_by 0 seat1.seen) (losses_by 0 seat2.seen + losses_from n ran.count seat2.seen)) next1 ran.knows);
        size = length-append more' (station' ∷ []) ∙ (ap (λ n. n + 1) ran.size ∙ sym count_is);
        stations_are = stations_now;
      }

  -- ---- a worker with a seat of its own

  none_placed : (n : ℕ) (history : List Passed) → by_seat n history ≡ [] → EachPlaced lines n history
  none_placed n history none before entry after is = absurd (has_own n before after entry (ap (by_seat n) is ∙ none))

  module _ (own left : SeatState) (new : own ≡ record seat { number = seat.next; places = 0; next = 0; joined = [] }) (split : left ≡ record seat { places = seat.places - 1; next = seat.next + 1 })
      (unused : NoNumberBeyond own.number own.seen) where
    own_number : own.number ≡ seat.next
    own_number = ap (λ (z : SeatState). z.number) new

    own_seen : own.seen ≡ seat.seen
    own_seen = ap (λ (z : SeatState). z.seen) new

    own_opening : own.opening ≡ seat.opening
    own_opening = ap (λ (z : SeatState). z.opening) new

    pub may_work_own : MayWork tells lines worker from to own station
    may_work_own = record {
      at_rest = ap (λ (z : SeatState). z.has_turn) new ∙ may.at_rest;
      lines_are = subst (λ o. AreLinesOf o lines) (sym own_opening) may.lines_are;
      rises = may.rises;
      epoch = may.epoch;
      before = subst (AreDone lines from) (sym own_seen) may.before;
      placed = none_placed own.number own.seen (unused own.number (omega arith));
      station_is = subst (λ (z : SeatState). IsStation tells z.opening lines worker from z.seen station) (sym new) station_now;
    }

    pub may_start_left : 0 < worker → MayStart tells lines from to left more
    may_start_left some =
        let n = count_is in
        let w = worker_is in
        let p : left.places ≡ seat.places - 1 = ap (λ (z : SeatState). z.places) split in
        let f = may.few in
        let q = may.places in
        record {
          at_rest = ap (λ (z : SeatState). z.has_turn) split ∙ may.at_rest;
          first = ap (λ (z : SeatState). z.number) split ∙ may.first;
          few = omega arith;
          places = omega arith;
          lines_are = subst (λ (z : SeatState). AreLinesOf z.opening lines) (sym split) may.lines_are;
          rises = may.rises;
          epoch = may.epoch;
          before = subst (λ (z : SeatState). AreDone lines from z.seen) (sym split) may.before;
          placed = subst (λ (z : SeatState). EachPlaced lines 0 z.seen) (sym split) may.placed;
          stations_are = λ w s e. subst (λ (z : SeatState). IsStation tells z.opening lines w from z.seen s) (sym split) (may.stations_are w s (get_front more station s w e));
        }

    module _ (own' s2 s3 : SeatState) (station' : Station) (more' : List Station) (places : 0 < seat.places)
        (worked : HasWorked tells lines worker from to own station own' station') (ran : CrewHasRun tells lines from to left more s2 more')
        (joined : s3 ≡ record s2 { seen = longer s2.seen own'.seen; places = s2.places + 1; joined = own'.number ∷ s2.joined })
        (grows : IsPrefix s2.seen s3.seen × IsPrefix own'.seen s3.seen)
        (kept : by_seat 0 s3.seen ≡ by_seat 0 s2.seen)
        (theirs : by_seat own'.number s3.seen ≡ by_seat own'.number own'.seen)
        (before : (n : ℕ) → Contains s2.joined n → by_seat n s3.seen ≡ by_seat n s2.seen)
        (numbers : NoNumberBeyond s3.next s3.seen) where
      joined_is : s3.joined ≡ own'.number ∷ s2.joined
      joined_is = ap (λ (z : SeatState). z.joined) joined

      number_is : own'.number ≡ seat.next
      number_is = ap (λ (z : SeatState). z.number) worked.goes.same ∙ own_number

      left_next : left.next ≡ seat.next + 1
      left_next = ap (λ (z : SeatState). z.next) split

      left_seen : left.seen ≡ seat.seen
      left_seen = ap (λ (z : SeatState). z.seen) split

      left_opening : left.opening ≡ seat.opening
      left_opening = ap (λ (z : SeatState). z.opening) split

      opening3 : own'.opening ≡ seat.opening
      opening3 = ap (λ (z : SeatState). z.opening) worked.goes.same ∙ own_opening

      same_is : s3 ≡ record seat { seen = s3.seen; next = seat.next + (suc ran.count); joined = s3.joined }
      same_is =
          let a : s3.lock ≡ seat.lock = ap (λ (z : SeatState). z.lock) joined ∙ (ap (λ (z : SeatState). z.lock) ran.same ∙ ap (λ (z : SeatState). z.lock) split) in
          let b : s3.number ≡ seat.number = ap (λ (z : SeatState). z.number) joined ∙ (ap (λ (z : SeatState). z.number) ran.same ∙ ap (λ (z : SeatState). z.number) split) in
          let c : s3.opening ≡ seat.opening = ap (λ (z : SeatState). z.opening) joined ∙ (ap (λ (z : SeatState). z.opening) ran.same ∙ ap (λ (z : SeatState). z.opening) split) in
          let d : s3.has_turn ≡ seat.has_turn = ap (λ (z : SeatState). z.has_turn) joined ∙ (ap (λ (z : SeatState). z.has_turn) ran.same ∙ ap (λ (z : SeatState). z.has_turn) split) in
          let x : s3.next ≡ s2.next = ap (λ (z : SeatState). z.next) joined in
          let y : s2.next ≡ left.next + ran.count = ap (λ (z : SeatState). z.next) ran.same in
          let z = left_next in
          let e : s3.next ≡ seat.next + (suc ran.count) = omega arith in
          let f : s3.places ≡ s2.places + 1 = ap (λ (z : SeatState). z.places) joined in
          let g : s2.places ≡ left.places = ap (λ (z : SeatState). z.places) ran.same in
          let h : left.places ≡ seat.places - 1 = ap (λ (z : SeatState). z.places) split in
          let p : s3.places ≡ seat.places = omega arith in
          λ i. record { lock = a i; number = b i; opening = c i; seen = s3.seen; has_turn = d i; places = p i; next = e i; joined = s3.joined }

      own_placed : EachPlaced lines seat.next s3.seen
      own_placed =
          let here : EachPlaced lines own'.number own'.seen = subst (λ n. EachPlaced lines n own'.seen) (sym (ap (λ (z : SeatState). z.number) worked.goes.same)) worked.placed in
          subst (λ n. EachPlaced lines n s3.seen) number_is (placed_grows lines own'.number own'.seen s3.seen grows.1 theirs here)

      each_is : (i : ℕ) → i < suc ran.count → Contains s3.joined (seat.next + i) × EachPlaced lines (seat.next + i) s3.seen
      each_is zero below =
          let n : seat.next + 0 ≡ seat.next = omega arith in (
            subst (λ (js : List ℕ). Contains js (seat.next + 0)) (sym joined_is) (contains_here (seat.next + 0) own'.number s2.joined (number_is ∙ sym n)),
            subst (λ k. EachPlaced lines k s3.seen) (sym n) own_placed,
          )
      each_is (suc i) below =
          let l = left_next in
          let n : left.next + i ≡ seat.next + suc i = omega arith in
          let h = ran.each i (omega arith) in
          let stay : EachPlaced lines (left.next + i) s3.seen = placed_grows lines (left.next + i) s2.seen s3.seen grows.0 (before (left.next + i) h.0) h.1 in (
            subst (λ (z : List ℕ × ℕ). Contains z.0 z.1) (λ k. (sym joined_is k, n k)) (contains_cons (left.next + i) own'.number s2.joined h.0),
            subst (λ k. EachPlaced lines k s3.seen) n stay,
          )

      own_effects : (m : ℕ) → 0 < m → effects_of m (entries_of seat.next s3.seen) ≡ lines_of m worker (lines_between from to lines)
      own_effects m some =
          let a : effects_of m (entries_of seat.next s3.seen) ≡ effects_of m (entries_of seat.next own'.seen) = effects_same m seat.next own'.seen s3.seen (subst (λ n. by_seat n s3.seen ≡ by_seat n own'.seen) number_is theirs) in
          let b : effects_of m (entries_of seat.next own'.seen) ≡ effects_of m (entries_of seat.next own.seen) + lines_of m worker (lines_between from to lines) = subst
          (λ n. effects_of m (entries_of n own'.seen) ≡ effects_of m (entries_of n own.seen) + lines_of m worker (lines_between from to lines)) own_number (worked.done m some) in
          let c : effects_of m (entries_of seat.next own.seen) ≡ 0 = ap (λ (ps : List Passed). effects_of m (entries ps)) (unused seat.next (let e = own_number in omega arith)) in
          omega arith

      -- those of the other workers, and then those of the new seat
      knows_is : KnowsLosses (any_lost (more ++ station ∷ [])) (any_lost (more' ++ station' ∷ [])) (losses_by 0 seat.seen)
          (losses_by 0 s3.seen + losses_from seat.next (suc ran.count) s3.seen)
      knows_is =
          let mine = losses_by seat.next s3.seen in
          let others = losses_by 0 s3.seen + losses_from (seat.next + 1) ran.count s3.seen in
          let none : losses_by seat.next own.seen ≡ 0 = ap (λ (ps : List Passed). losses (entries ps)) (unused seat.next (let e = own_number in omega arith)) in
          let same : losses_by seat.next s3.seen ≡ losses_by seat.next own'.seen = losses_same seat.next own'.seen s3.seen (subst (λ n. by_seat n s3.seen ≡ by_seat n own'.seen) number_is theirs) in
          let a : KnowsLosses station.lost station'.lost 0 mine = subst (λ (z : ℕ × ℕ). KnowsLosses station.lost station'.lost z.0 z.1) (λ i. (none i, sym same i))
          (subst (λ n. KnowsLosses station.lost station'.lost (losses_by n own.seen) (losses_by n own'.seen)) own_number worked.knows) in
          let b : losses_by 0 left.seen ≡ losses_by 0 seat.seen = ap (λ (ps : List Passed). losses_by 0 ps) left_seen in
          let c : losses_by 0 s3.seen ≡ losses_by 0 s2.seen = losses_same 0 s2.seen s3.seen kept in
          let d : losses_from (seat.next + 1) ran.count s3.seen ≡ losses_from left.next ran.count s2.seen =
          ap (λ n. losses_from n ran.count s3.seen) (sym left_next) ∙ counted_stay (λ (e : Entry). e.lost) left.next ran.count s2.seen s3.seen (λ i lt. before (left.next + i) (ran.each i lt).0) in
          let e : losses_by 0 s2.seen + losses_from left.next ran.count s2.seen ≡ others = omega arith in
          let r : KnowsLosses (any_lost more) (any_lost more') (losses_by 0 seat.seen) others = subst (λ (z : ℕ × ℕ). KnowsLosses (any_lost more) (any_lost more') z.0 z.1) (λ i. (b i, e i)) ran.knows in
          let all : losses_by 0 s3.seen + losses_from seat.next (suc ran.count) s3.seen ≡ mine + others = omega arith in
          subst (λ (z : Bool × Bool). KnowsLosses z.0 z.1 (losses_by 0 seat.seen) (losses_by 0 s3.seen + losses_from seat.next (suc ran.count) s3.seen)) (λ n. (sym (any_push more station) n, sym (any_push more' station') n))
          (knows_trans (any_lost more || station.lost) (any_lost more' || station.lost) (any_lost more' || station'.lost) (losses_by 0 seat.seen) others (losses_by 0 s3.seen + losses_from seat.next (suc ran.count) s3.seen)
          (first_knows station.lost (any_lost more) (any_lost more') (losses_by 0 seat.seen) others r)
          (knows_beside (any_lost more' || station.lost) (any_lost more' || station'.lost) 0 mine others others (losses_by 0 s3.seen + losses_from seat.next (suc ran.count) s3.seen) (omega arith) all
          (second_knows (any_lost more') station.lost station'.lost 0 mine a)))

      stations_after : (w : ℕ) (s : Station) → slice_get (more' ++ station' ∷ []) w ≡ Some s → IsStation tells seat.opening lines w to s3.seen s
      stations_after w s e = go (get_either more' station' s w e)
        where
          go : (slice_get more' w ≡ Some s) ⊎ ((w ≡ length more') × (station' ≡ s)) → IsStation tells seat.opening lines w to s3.seen s
          go (inl old) = station_grows tells seat.opening lines w to s2.seen s3.seen s grows.0 (subst (λ o. IsStation tells o lines w to s2.seen s) left_opening (ran.stations_are w s old))
          go (inr new) =
              let at : worker ≡ w = worker_is ∙ (sym ran.size ∙ sym new.0) in
              subst (λ (z : ℕ × Station). IsStation tells seat.opening lines z.0 to s3.seen z.1) (λ i. (at i, new.1 i))
              (station_grows tells seat.opening lines worker to own'.seen s3.seen station' grows.1 (subst (λ o. IsStation tells o lines worker to own'.seen station') own_opening worked.station_is))

      pub thread_ran : CrewHasRun tells lines from to seat (more ++ station ∷ []) s3 (more' ++ station' ∷ [])
      thread_ran = record {
        count = suc ran.count;
        same = same_is;
        grows = prefix_trans seat.seen s2.seen s3.seen (subst (λ xs. IsPrefix xs s2.seen) left_seen ran.grows) grows.0;
        numbers = λ _. numbers;
        joined = λ n h.
            let was : Contains left.joined n = subst (λ (z : SeatState). Contains z.joined n) (sym split) h in
            let q = ran.joined n was in
            (subst (λ (js : List ℕ). Contains js n) (sym joined_is) (contains_cons n own'.number s2.joined q.0), before n q.0 ∙ (q.1 ∙ ap (by_seat n) left_seen));
        each = each_is;
        placed = placed_grows lines 0 s2.seen s3.seen grows.0 kept ran.placed;
        done = λ m some.
            let a = ran.done m some in
            let b = own_effects m some in
            let c : lines_of m worker (lines_between from to lines) ≡ lines_of m (length more) (lines_between from to lines) = ap (λ w. lines_of m w (lines_between from to lines)) worker_is in
            let d : lines_below m (length (more ++ station ∷ [])) (lines_between from to lines) ≡ lines_below m (length more) (lines_between from to lines) + lines_of m (length more) (lines_between from to lines) =
            ap (λ k. lines_below m k (lines_between from to lines)) count_is ∙ below_more m (length more) (lines_between from to lines) in
            let e : effects_from m (seat.next + 1) ran.count s3.seen ≡ effects_from m left.next ran.count s2.seen =
            ap (λ n. effects_from m n ran.count s3.seen) (sym left_next) ∙ effects_stay m left.next ran.count s2.seen s3.seen (λ i lt. before (left.next + i) (ran.each i lt).0) in
            let f : effects_of m (entries_of 0 s3.seen) ≡ effects_of m (entries_of 0 s2.seen) = effects_same m 0 s2.seen s3.seen kept in
            let g : effects_of m (entries_of 0 left.seen) ≡ effects_of m (entries_of 0 seat.seen) = ap (λ (ps : List Passed). effects_of m (entries_of 0 ps)) left_seen in
            omega arith;
        knows = knows_is;
        size = length-append more' (station' ∷ []) ∙ (ap (λ n. n + 1) ran.size ∙ sym count_is);
        stations_are = stations_after;
      }
