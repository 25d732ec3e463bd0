-- What a gate heard, line by line, worker by worker and epoch by epoch.
use Rattle.std.proofs.Common.{◌≡◌, ◌≢◌, ◌⊎◌, inl, inr, ◌==◌, ◌&&◌, ℕ, zero, suc, ◌+◌, ◌-◌, ◌<◌, ◌≤◌, Bool, true, false, List, [], length, Some, refl, sym, ap, ◌∙◌, subst, arith}
use Rattle.std.proofs.lemmas.Bool.{lt-ltb}
use Rattle.std.specs.Prelude.{if◌then◌else◌, None, slice_get, Contains, count_by}
use Rattle.atomic_table.specs.Seated.{TableId}
use Rattle.nl_callbacks.specs.declared.notices.Notices.{Notices}
use Rattle.nl_tree.specs.Calls.{AreLines}
use Rattle.nl_tree.specs.declared.call.Line.{Line}
use Rattle.nl_tree.specs.declared.reply.Reply.{Reply}
use Rattle.nl_tree.specs.declared.turn.Stage.{Stage}
use Rattle.nl_turns.proofs.Lines.{get_at}
use Rattle.nl_turns.specs.History.{line_at}
use Rattle.nl_turns.specs.Seat.{Passed, SeatState, by_seat, entries, passed_by}
use Rattle.nl_turns.specs.Served.{stage_entry, effect_entry, is_staged}
use Rattle.nl_turns.specs.declared.entry.Entry.{Entry}
use Rattle.nl_workers.specs.Placed.{HasPassed, LineTookEffect, entries_of}
use Rattle.nl_workers.specs.Gates.{stagings_of, told_of, GateWasTold, StagesSome}
use Rattle.nl_workers.specs.Heard.{HeardAround, StagingsHeard, HeardOfLines, HeardOfLine, HeardOfWorker, HeardOfCrew, HeardSoFar}
use Rattle.nl_workers.specs.Crew.{CrewHasRun, counted_from}
use Rattle.nl_workers.specs.Duties.{HasServed, HasCleaned, HasHandled}
use Rattle.nl_workers.specs.Going.{IsUnderWay, MayGo, TookSeatsBack}
use Rattle.nl_workers.specs.declared.crew.Crew.{Crew}
use Rattle.nl_workers.specs.declared.gate.GatePlace.{GatePlace}
use Rattle.nl_workers.specs.declared.gate.GatePlace.TheVariants.{Before, Staged, After}
use Rattle.nl_workers.specs.declared.station.Station.{Station}
use Rattle.nl_workers.specs.declared.turn.LineTold.{LineTold}
use Rattle.nl_workers.proofs.Epochs.{below_or, found_at, line_is}
use Rattle.nl_workers.proofs.GoingOn.{passed_seen}
use Rattle.nl_workers.proofs.Telling.{stays_some}
use Rattle.nl_workers.proofs.Totals.{all_counted}
use Rattle.nl_workers.proofs.Working.{lt_split}

same_of : {A : Type 0} (a b : A) → Some a ≡ Some b → a ≡ b
same_of a b e = cc e

same_or : (m n : ℕ) → (m ≡ n) ⊎ (m ≢ n)
same_or m n = go (below_or m n) (below_or n m)
  where
    go : (m < n) ⊎ (n ≤ m) → (n < m) ⊎ (m ≤ n) → (m ≡ n) ⊎ (m ≢ n)
    go (inl h) o = inr (λ e. omega arith)
    go (inr h) (inl g) = inr (λ e. omega arith)
    go (inr h) (inr g) = inl (omega arith)

-- an effect stands in the history behind its turn
pub took_effect : (line : ℕ) (s s' : SeatState) (reply : Reply) → HasPassed s (effect_entry line reply) s' → LineTookEffect line s'.seen
took_effect line s s' reply p =
    record { before = p.mid; entry = passed_by s.number (effect_entry line reply); after = []; split = sym (passed_seen s s' (effect_entry line reply) p); line_is = refl }

-- ---- one line

pub line_told : (line : Line) (seat after : SeatState) (some : Bool) (told : LineTold) → told.before ≡ told_of line Before → told.staged ≡ (if some then Some (told_of line Staged) else None) → told.after ≡ told_of line After
    → StagesSome line.line seat after some → GateWasTold line seat after told
line_told line seat after some told before staged end i = record { before = before; staged = staged ∙ ap (λ (b : Bool). if b then Some (told_of line Staged) else None) i.some_is; after_effect = end }

pub line_staged : (line : ℕ) (seat s s1 s2 : SeatState) (answer : Stage) (reply : Reply) (some : Bool) → s.number ≡ seat.number → s1.number ≡ seat.number
    → HasPassed s (stage_entry line answer) s1 → HasPassed s1 (effect_entry line reply) s2 → is_staged answer ≡ false → StagesSome line seat s some → StagesSome line seat s2 some
line_staged line seat s s1 s2 answer reply some number number1 p q whole i =
    stays_some line seat s1 s2 (effect_entry line reply) number1 q some refl (stays_some line seat s s1 (stage_entry line answer) number p some whole i)

pub line_heard : (heard : ℕ → ℕ → GatePlace → Type 0) (line : Line) (seat s2 : SeatState) (some : Bool) → StagesSome line.line seat s2 some
    → HeardAround heard line → (some ≡ true → heard line.worker line.line Staged) → HeardOfLine heard line seat s2
line_heard heard line seat s2 some end around told = record { around = around; staged = λ m rose. go m rose (same_or m line.line) }
  where
    go : (m : ℕ) → stagings_of m (entries_of seat.number seat.seen) < stagings_of m (entries_of seat.number s2.seen) → (m ≡ line.line) ⊎ (m ≢ line.line) → (m ≡ line.line) × heard line.worker line.line Staged
    go m rose (inl here) =
        let own : stagings_of line.line (entries_of seat.number seat.seen) < stagings_of line.line (entries_of seat.number s2.seen) = subst
        (λ k. stagings_of k (entries_of seat.number seat.seen) < stagings_of k (entries_of seat.number s2.seen)) here rose in
        (here, told (end.some_is ∙ lt-ltb (stagings_of line.line (entries_of seat.number seat.seen)) (stagings_of line.line (entries_of seat.number s2.seen)) own))
    go m rose (inr other) = let same = end.others m other in absurd (omega arith)

-- ---- the entries of a seat

pub stagings_same : (heard : ℕ → ℕ → GatePlace → Type 0) (lines : List Line) (n : ℕ) (old all : List Passed) → by_seat n all ≡ by_seat n old → StagingsHeard heard lines (entries_of n old) → StagingsHeard heard lines (entries_of n all)
stagings_same heard lines n old all same h = subst (λ (ps : List Passed). StagingsHeard heard lines (entries ps)) (sym same) h

pub stagings_none : (heard : ℕ → ℕ → GatePlace → Type 0) (lines : List Line) (n : ℕ) (history : List Passed) → by_seat n history ≡ [] → StagingsHeard heard lines (entries_of n history)
stagings_none heard lines n history none i line e some =
    let z : stagings_of line.line (entries_of n history) ≡ 0 = ap (λ (ps : List Passed). stagings_of line.line (entries ps)) none in
    absurd (omega arith)

-- ---- one worker

module _ (heard : ℕ → ℕ → GatePlace → Type 0) (lines : List Line) (worker at : ℕ) (line : Line) (is : slice_get lines at ≡ Some line) (seat after : SeatState) where
  here_only : (i : ℕ) (l : Line) → at ≤ i → i < at + 1 → slice_get lines i ≡ Some l → l ≡ line
  here_only i l low high e =
      let here : i ≡ at = omega arith in
      same_of l line (sym e ∙ (ap (slice_get lines) here ∙ is))

  -- the line is another worker's
  pub skips_heard : line.worker ≢ worker → HeardOfWorker heard lines worker at (at + 1) seat seat
  skips_heard other = record {
    each = λ i l low high e own. absurd (other (sym (ap (λ (z : Line). z.worker) (here_only i l low high e)) ∙ own));
    staged = λ h. h;
  }

  -- the worker ran the line
  pub runs_heard : AreLines lines → HeardOfLine heard line seat after → HeardOfWorker heard lines worker at (at + 1) seat after
  runs_heard are h = record {
    each = λ i l low high e own. subst (HeardAround heard) (sym (here_only i l low high e)) h.around;
    staged = λ old i l e some. go old i l e some (below_or (stagings_of l.line (entries_of seat.number seat.seen)) (stagings_of l.line (entries_of seat.number after.seen)));
  }
    where
      go : StagingsHeard heard lines (entries_of seat.number seat.seen) → (i : ℕ) (l : Line) → slice_get lines i ≡ Some l → 0 < stagings_of l.line (entries_of seat.number after.seen)
          → (stagings_of l.line (entries_of seat.number seat.seen) < stagings_of l.line (entries_of seat.number after.seen)) ⊎ (stagings_of l.line (entries_of seat.number after.seen) ≤ stagings_of l.line (entries_of seat.number seat.seen))
          → heard l.worker l.line Staged
      go old i l e some (inl rose) =
          let s = h.staged l.line rose in
          let same : l ≡ line = same_of l line (sym (found_at lines i l are e) ∙ (ap (line_at lines) s.0 ∙ found_at lines at line are is)) in
          subst (λ (z : Line). heard z.worker z.line Staged) (sym same) s.1
      go old i l e some (inr few) = old i l e (omega arith)

pub heard_none : (heard : ℕ → ℕ → GatePlace → Type 0) (lines : List Line) (worker from : ℕ) (seat : SeatState) → HeardOfWorker heard lines worker from from seat seat
heard_none heard lines worker from seat = record { each = λ i l low high e own. absurd (omega arith); staged = λ h. h }

pub heard_on : (heard : ℕ → ℕ → GatePlace → Type 0) (lines : List Line) (worker from at : ℕ) (seat s s' : SeatState) → s.number ≡ seat.number → HeardOfWorker heard lines worker from at seat s
    → HeardOfWorker heard lines worker at (at + 1) s s' → HeardOfWorker heard lines worker from (at + 1) seat s'
heard_on heard lines worker from at seat s s' number h k = record {
  each = λ i l low high e own. go i l low high e own (below_or i at);
  staged = λ old. subst (λ n. StagingsHeard heard lines (entries_of n s'.seen)) number (k.staged (subst (λ n. StagingsHeard heard lines (entries_of n s.seen)) (sym number) (h.staged old)));
}
  where
    go : (i : ℕ) (l : Line) → from ≤ i → i < at + 1 → slice_get lines i ≡ Some l → l.worker ≡ worker → (i < at) ⊎ (at ≤ i) → HeardAround heard l
    go i l low high e own (inl below) = h.each i l low below e own
    go i l low high e own (inr here) = k.each i l here high e own

-- ---- the workers of an epoch

pub nobody_heard : (heard : ℕ → ℕ → GatePlace → Type 0) (lines : List Line) (from to count : ℕ) (seat : SeatState) → count ≡ 0 → HeardOfCrew heard lines from to count seat seat
nobody_heard heard lines from to count seat none = record { each = λ i l low high e few. absurd (omega arith); first = λ h. h; others = λ n low high. absurd (omega arith) }

module _ (heard : ℕ → ℕ → GatePlace → Type 0) (lines : List Line) (from to worker rest count : ℕ) (worker_is : worker ≡ rest) (count_is : count ≡ rest + 1) (seat : SeatState) where
  one_more : (s s' t t' : SeatState) → HeardOfWorker heard lines worker from to s s' → HeardOfCrew heard lines from to rest t t' → (i : ℕ) (l : Line) → from ≤ i → i < to → slice_get lines i ≡ Some l → l.worker < count → HeardAround heard l
  one_more s s' t t' h k i l low high e few = go (lt_split l.worker rest (let c = count_is in omega arith))
    where
      go : (l.worker ≡ rest) ⊎ (l.worker < rest) → HeardAround heard l
      go (inl own) = h.each i l low high e (own ∙ sym worker_is)
      go (inr below) = k.each i l low high e below

  -- a worker with the first seat
  pub own_heard : (s1 s2 : SeatState) → seat.number ≡ 0 → s1.next ≡ seat.next → HeardOfWorker heard lines worker from to seat s1 → HeardOfCrew heard lines from to rest s1 s2 → HeardOfCrew heard lines from to count seat s2
  own_heard s1 s2 first_is next h k = record {
    each = one_more seat s1 s1 s2 h k;
    first = λ old. k.first (subst (λ n. StagingsHeard heard lines (entries_of n s1.seen)) first_is (h.staged (subst (λ n. StagingsHeard heard lines (entries_of n seat.seen)) (sym first_is) old)));
    others = λ n low high. k.others n (omega arith) high;
  }

  -- a worker with a seat of its own
  module _ (own own' left s2 s3 : SeatState) (number : own.number ≡ seat.next) (unused : by_seat own.number own.seen ≡ []) (number' : own'.number ≡ own.number) (left_next : left.next ≡ seat.next + 1) (left_seen : left.seen ≡ seat.seen)
      (next : s3.next ≡ s2.next) (kept : by_seat 0 s3.seen ≡ by_seat 0 s2.seen) (theirs : by_seat own'.number s3.seen ≡ by_seat own'.number own'.seen)
      (stay : (n : ℕ) → left.next ≤ n → n < s2.next → by_seat n s3.seen ≡ by_seat n s2.seen)
      (h : HeardOfWorker heard lines worker from to own own') (k : HeardOfCrew heard lines from to rest left s2) where
    own_now : StagingsHeard heard lines (entries_of own'.number s3.seen)
    own_now = stagings_same heard lines own'.number own'.seen s3.seen theirs
        (subst (λ n. StagingsHeard heard lines (entries_of n own'.seen)) (sym number') (h.staged (stagings_none heard lines own.number own.seen unused)))

    others_now : (n : ℕ) → seat.next ≤ n → n < s3.next → (n ≡ seat.next) ⊎ (n ≢ seat.next) → StagingsHeard heard lines (entries_of n s3.seen)
    others_now n low high (inl here) = subst (λ m. StagingsHeard heard lines (entries_of m s3.seen)) (number' ∙ (number ∙ sym here)) own_now
    others_now n low high (inr other) =
        let l = left_next in
        let x = next in
        let above : left.next ≤ n = omega arith in
        let below : n < s2.next = omega arith in
        stagings_same heard lines n s2.seen s3.seen (stay n above below) (k.others n above below)

    pub thread_heard : HeardOfCrew heard lines from to count seat s3
    thread_heard = record {
      each = one_more own own' left s2 h k;
      first = λ old. stagings_same heard lines 0 s2.seen s3.seen kept (k.first (subst (λ (ps : List Passed). StagingsHeard heard lines (entries_of 0 ps)) (sym left_seen) old));
      others = λ n low high. others_now n low high (same_or n seat.next);
    }

-- what the other seats of an epoch passed stays, where the first one takes one more back
pub stays_put : (tells : Type 0) (lines : List Line) (from to : ℕ) (left : SeatState) (more : List Station) (s2 : SeatState) (more' : List Station) (s3 : SeatState) → CrewHasRun tells lines from to left more s2 more'
    → ((n : ℕ) → Contains s2.joined n → by_seat n s3.seen ≡ by_seat n s2.seen) → (n : ℕ) → left.next ≤ n → n < s2.next → by_seat n s3.seen ≡ by_seat n s2.seen
stays_put tells lines from to left more s2 more' s3 ran before n low high =
    let x : s2.next ≡ left.next + ran.count = ap (λ (z : SeatState). z.next) ran.same in
    let at : left.next + (n - left.next) ≡ n = omega arith in
    let below : n - left.next < ran.count = omega arith in
    before n (subst (λ m. Contains s2.joined m) at (ran.each (n - left.next) below).0)

-- ---- one epoch more

duty_heard : (heard : ℕ → ℕ → GatePlace → Type 0) (lines : List Line) (n : ℕ) (s s' : SeatState) → s.number ≡ n → HasServed s s' → StagingsHeard heard lines (entries_of n s.seen) → StagingsHeard heard lines (entries_of n s'.seen)
duty_heard heard lines n s s' number h old i line e some =
    let same : stagings_of line.line (entries_of n s'.seen) ≡ stagings_of line.line (entries_of n s.seen) = subst (λ k. stagings_of line.line (entries_of k s'.seen) ≡ stagings_of line.line (entries_of k s.seen)) number (h.staged line.line) in
    old i line e (omega arith)

pub heard_at_first : (heard : ℕ → ℕ → GatePlace → Type 0) (lines : List Line) (crew : Crew) → crew.seat.seen ≡ [] → crew.seat.next ≡ 3 → crew.cleaner.seat.seen ≡ [] → crew.handler.seat.seen ≡ [] → HeardSoFar heard lines 0 crew
heard_at_first heard lines crew seen next cleaner handler = record {
  each = λ i l lt e. absurd (omega arith);
  first = stagings_none heard lines 0 crew.seat.seen (ap (by_seat 0) seen);
  others = λ n some below. absurd (omega arith);
  cleaner = stagings_none heard lines 1 crew.cleaner.seat.seen (ap (by_seat 1) cleaner);
  handler = stagings_none heard lines 2 crew.handler.seat.seen (ap (by_seat 2) handler);
}

module _ (tells : Type 0) (lock : TableId) (notices : Notices) (heard : ℕ → ℕ → GatePlace → Type 0) (lines : List Line) (first : SeatState) (from to : ℕ) (crew crew' : Crew)
    (may : MayGo lock lines first) (w : IsUnderWay tells lock notices lines first from crew) (cleaned : HasCleaned tells notices crew.cleaner crew'.cleaner) (handled : HasHandled tells notices crew.handler crew'.handler)
    (ran : CrewHasRun tells lines from to crew.seat crew.stations.items crew'.seat crew'.stations.items)
    (h : HeardSoFar heard lines from crew) (k : HeardOfCrew heard lines from to (length crew.stations.items) crew.seat crew'.seat) where
  each_now : (i : ℕ) (l : Line) → i < to → slice_get lines i ≡ Some l → (i < from) ⊎ (from ≤ i) → HeardAround heard l
  each_now i l lt e (inl below) = h.each i l below e
  each_now i l lt e (inr low) =
      let n = w.size in
      let few = (line_is lines i l may.lines_are.are e).worker in
      k.each i l low lt e (omega arith)

  others_after : (n : ℕ) → 3 ≤ n → n < crew'.seat.next → (n < crew.seat.next) ⊎ (crew.seat.next ≤ n) → StagingsHeard heard lines (entries_of n crew'.seat.seen)
  others_after n some below (inl old) = stagings_same heard lines n crew.seat.seen crew'.seat.seen (ran.joined n (w.known n some old).0).1 (h.others n some old)
  others_after n some below (inr high) = k.others n high below

  pub heard_goes_on : HeardSoFar heard lines to crew'
  heard_goes_on = record {
    each = λ i l lt e. each_now i l lt e (below_or i from);
    first = k.first h.first;
    others = λ n some below. others_after n some below (below_or n crew.seat.next);
    cleaner = duty_heard heard lines 1 crew.cleaner.seat crew'.cleaner.seat w.cleaner_seat.number_is cleaned.served h.cleaner;
    handler = duty_heard heard lines 2 crew.handler.seat crew'.handler.seat w.handler_seat.number_is handled.served h.handler;
  }

-- ---- all lines

some_counted : (f : Entry → Bool) (a c : ℕ) (xs : List Passed) → 0 < counted_from f a c xs → (n : ℕ) × (n < a + c) × (0 < count_by f (entries_of n xs))
some_counted f a zero xs some = absurd (omega arith)
some_counted f a (suc c) xs some = go (below_or 0 (count_by f (entries_of a xs))) (λ later. some_counted f (a + 1) c xs later)
  where
    go : (0 < count_by f (entries_of a xs)) ⊎ (count_by f (entries_of a xs) ≤ 0) → (0 < counted_from f (a + 1) c xs → (n : ℕ) × (n < a + 1 + c) × (0 < count_by f (entries_of n xs)))
        → (n : ℕ) × (n < a + suc c) × (0 < count_by f (entries_of n xs))
    go (inl here) next = (a, omega arith, here)
    go (inr none) next =
        let both : 0 < count_by f (entries_of a xs) + counted_from f (a + 1) c xs = some in
        let later : 0 < counted_from f (a + 1) c xs = omega arith in
        let r = next later in
        let b = r.1 in
        (r.0, omega arith, r.2)

module _ (tells : Type 0) (lock : TableId) (notices : Notices) (heard : ℕ → ℕ → GatePlace → Type 0) (lines : List Line) (first : SeatState) (end : Crew) (after : SeatState)
    (w : IsUnderWay tells lock notices lines first (length lines) end) (home : TookSeatsBack end.seat end.cleaner.seat end.handler.seat after) (h : HeardSoFar heard lines (length lines) end) where
  next_is : after.next ≡ end.seat.next
  next_is = ap (λ (z : SeatState). z.next) home.same

  first_same : by_seat 1 after.seen ≡ by_seat 1 end.cleaner.seat.seen
  first_same = subst (λ n. by_seat n after.seen ≡ by_seat n end.cleaner.seat.seen) w.cleaner_seat.number_is home.first_is

  second_same : by_seat 2 after.seen ≡ by_seat 2 end.handler.seat.seen
  second_same = subst (λ n. by_seat n after.seen ≡ by_seat n end.handler.seat.seen) w.handler_seat.number_is home.second_is

  at_seat : (n : ℕ) → n < after.next → StagingsHeard heard lines (entries_of n after.seen)
  at_seat zero lt = stagings_same heard lines 0 end.seat.seen after.seen home.own h.first
  at_seat (suc zero) lt = stagings_same heard lines 1 end.cleaner.seat.seen after.seen first_same h.cleaner
  at_seat (suc (suc zero)) lt = stagings_same heard lines 2 end.handler.seat.seen after.seen second_same h.handler
  at_seat (suc (suc (suc n))) lt =
      let e = next_is in
      let some : 3 ≤ suc (suc (suc n)) = omega arith in
      let below : suc (suc (suc n)) < end.seat.next = omega arith in
      let k = w.known (suc (suc (suc n))) some below in
      stagings_same heard lines (suc (suc (suc n))) end.seat.seen after.seen (home.joined (suc (suc (suc n))) k.0) (h.others (suc (suc (suc n))) some below)

  staged_now : (i : ℕ) (line : Line) → slice_get lines i ≡ Some line → 0 < stagings_of line.line (entries after.seen) → heard line.worker line.line Staged
  staged_now i line e some =
      let all : stagings_of line.line (entries after.seen) ≡ counted_from (λ (x : Entry). x.staged == line.line && x.more) 0 after.next after.seen = all_counted (λ (x : Entry). x.staged == line.line && x.more) after.next after.seen home.numbers in
      let counted : 0 < counted_from (λ (x : Entry). x.staged == line.line && x.more) 0 after.next after.seen = omega arith in
      let found = some_counted (λ (x : Entry). x.staged == line.line && x.more) 0 after.next after.seen counted in
      let b = found.1 in
      let below : found.0 < after.next = omega arith in
      at_seat found.0 below i line e found.2

  pub all_heard : HeardOfLines heard lines (entries after.seen)
  all_heard = record { around = λ i line e. h.each i line (get_at lines i line line e).0 e; staged = staged_now }
