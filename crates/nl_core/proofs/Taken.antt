-- A core stands on once a unit of its frozen transaction was done, or was not.
use Rattle.std.proofs.Common.{◌≡◌, ◌≢◌, ◌⊎◌, inl, inr, ⊎_elim, ℕ, ◌+◌, ◌-◌, ◌*◌, ◌<◌, ◌≤◌, ◌^◌, Bool, true, false, List, length, take, drop, Option, Some, None, refl, sym, ap, subst, ◌∙◌, arith}
use Rattle.std.proofs.lemmas.Bool.{cases_lt, true≢false}
use Rattle.nl_field.specs.CrashStates.{Earlier, Rose, top}
use Rattle.nl_field.specs.Graph.{Graph}
use Rattle.nl_field.specs.declared.answers.VirtualWrite.{VirtualWrite}
use Rattle.nl_field.specs.declared.answers.VirtualWrite.TheVariants as write
use Rattle.nl_field.specs.declared.shape.Shape.{Shape}
use Rattle.nl_core_callbacks.specs.Handled.{nameless_body}
use Rattle.nl_flight.specs.Flight.{carried}
use Rattle.nl_spec_holders.specs.Holding.{HandledUpTo}
use Rattle.nl_iface.specs.Answers.{LosesStamp}
use Rattle.nl_iface.specs.Calls.{CallCounted, CrashStatesHave, NoWriteFailed, StoresPages, Ticks}
use Rattle.nl_iface.specs.Device.{IsVolumeShape}
use Rattle.nl_iface.specs.Names.{Has, Names}
use Rattle.nl_iface.specs.Space.{CanLand}
use Rattle.nl_iface.specs.declared.Callback.{Callback}
use Rattle.nl_iface.specs.declared.counts.Counts.{Ghosts}
use Rattle.nl_journal.specs.Left.{UnitWrites}
use Rattle.nl_journal.specs.Passes.{ChangesAddressesOnly}
use Rattle.nl_journal.specs.Progress.{HasNumber, IsPhase, Progress, next_number_in, raised, units_left}
use Rattle.nl_journal.specs.Units.{frozen_after}
use Rattle.nl_journal.specs.declared.answers.Phase.{Phase}
use Rattle.nl_journal.specs.declared.answers.Phase.TheVariants.{Header, Image, Commit, Home}
use Rattle.nl_journal.proofs.Finishing.{after_either, phase_of_none}
use Rattle.nl_journal.proofs.FinishSteps.{units_step}
use Rattle.nl_meta.proofs.Lists.{none_some}
use Rattle.nl_meta.specs.Consistent.{PageOfStamp}
use Rattle.nl_meta.specs.Pages.{Frozen, Pages, none_frozen}
use Rattle.nl_journal_commit.specs.Completing.{NumberPaid}
use Rattle.nl_journal_commit.specs.Standing.{PreservesGraph}
use Rattle.nl_journal_commit.specs.Stepping.{GoesOneUnit, TakesUnit}
use Rattle.nl_spec_commits.specs.Held.{IsHeldVolume}
use Rattle.nl_spec_commits.specs.SettlingLaws.{JournalIsObservable}
use Rattle.nl_spec_commits.specs.Standing.{IsFirm}
use Rattle.nl_spec_commits.specs.TreeLaws.{OpensFrom, UnitTrees}
use Rattle.nl_spec_commits.specs.Trees.{Prefix, Trees}
use Rattle.nl_spec_commits.proofs.Completing.{shut_by, unit_moves, unit_opens}
use Rattle.nl_spec_commits.proofs.Firm.{unit_keeps_firm}
use Rattle.nl_spec_commits.proofs.Holding.{shut_keeps_held, unit_keeps_held}
use Rattle.nl_spec_commits.proofs.UnitTrees.{unit_goes, unit_leaves}
use Rattle.nl_tree.specs.Tree.{Tree}
use Rattle.nl_core.specs.Core.{CanWrite, CountsInOrder, HasSpace, IsCore, IsPhysical, begun_of, names_of, running_of}
use Rattle.nl_core.specs.Goes.{CommitsOnward, PreservesTrees, PreservesVolume, TurnsReadOnly}
use Rattle.nl_core.specs.Trees.{CoreIsObservable, CoreRepresents, CoreRepresentsTree}
use Rattle.nl_core.specs.Units.{units_for}
use Rattle.nl_core.specs.Writing.{stopped_on}
use Rattle.nl_core.specs.declared.state.Core.{Core}
use Rattle.nl_core.proofs.Counts.{Froze, counts_then, idle_left, left_and_more, left_of, left_to_commit, none_left, onward_by, pages_of}
use Rattle.nl_core.proofs.Running.{runs_on, with_none}
use Rattle.nl_core.proofs.Written.{below_end, has_free_on, none_failed_on, same_running, stops_on}

-- What a unit does to a core, up to the failure that it notes.
pub record WritesUnit {D : Type 0} (g : Ghosts D) (v w : Core D) (answer : VirtualWrite) : Type 0 where
  pub others : w ≡ record v { device = w.device; journal = w.journal; meta = w.meta; stopped = w.stopped }
  pub stopped : w.stopped ≡ stopped_on g (g.write_faults v.device) v w
  pub stands : PreservesGraph g v.device v.meta w.device w.journal w.meta
  pub goes : GoesOneUnit (answer ≡ write.Done) v.journal w.journal v.meta w.meta
  pub writes : g.tells → HasNumber v.journal (length v.meta.frozen.addresses) → UnitWrites g (answer ≡ write.Done) v.journal w.journal v.meta w.meta v.device w.device
  pub passes : ChangesAddressesOnly g (answer ≡ write.Done) 1 v.device w.device
  pub lost : LosesStamp g.tells (g.stamps w.device) answer
  pub clock : Ticks g (answer ≡ write.Done) v.device w.device
  pub faults : CallCounted g (answer ≡ write.Fault) v.device w.device

module _ {D : Type 0} (g : Ghosts D) (v w : Core D) (answer : VirtualWrite) (b : WritesUnit g v w answer) (core : IsCore g v) (volume : IsVolumeShape (g.shape v.device)) (stores : g.tells → StoresPages g w.device) (runs : v.stopped ≡ 0)
    (some : 1 ≤ length v.meta.frozen.addresses) (formed : g.formed w.device) where
  abbrev pub Done : Type 0
  Done = answer ≡ write.Done

  -- the commit page was written
  abbrev pub Decides : Type 0
  Decides = Done × (v.journal.phase ≡ Commit)

  takes : TakesUnit g Done v.device v.journal v.meta w.device w.journal w.meta
  takes = record { same_shape = b.passes.named.same_shape; tables = b.passes.named.tables; stands = b.stands; goes = b.goes; writes = b.writes }

  -- with what a commit page changes, or not
  abbrev pub unit_done : Core D
  unit_done = record v { device = w.device; journal = w.journal; meta = w.meta; stopped = w.stopped }

  abbrev pub unit_decided : Core D
  unit_decided = record v { device = w.device; journal = w.journal; meta = w.meta; stopped = w.stopped; committed = v.frozen; moment = g.clock w.device; leaving = 0 }

  same_shape : g.shape w.device ≡ g.shape v.device
  same_shape = b.passes.named.same_shape

  begun_stays : begun_of w ≡ begun_of v
  begun_stays = (unit_moves g answer v.device w.device v.journal w.journal v.meta w.meta core.journaled some takes).begun_stays

  -- ---- the counts of calls, and the units that are left

  unit_less : Done → left_of w + 1 ≡ left_of v
  unit_less done = let k = b.goes.taken done in units_step v.journal w.journal v.meta w.meta core.journaled.order.phase some k.0 k.1

  unit_same : (Done → ⊥) → left_of w ≡ left_of v
  unit_same off =
      let k = b.goes.waits off in
      ap (λ (q : Progress). units_left q.phase (length w.meta.frozen.addresses)) k.0 ∙ ap (λ (n : Pages). units_left v.journal.phase (length n.frozen.addresses)) k.1

  done_or : (a : VirtualWrite) → (a ≡ write.Done) ⊎ (a ≡ write.Done → ⊥)
  done_or write.Done = inl refl
  done_or (write.Lost x y) = inr (λ e. cc e)
  done_or write.Fault = inr (λ e. cc e)

  unit_fewer : left_of w ≤ left_of v
  unit_fewer = ⊎_elim (λ done. let less = unit_less done in omega (arith, less)) (λ off. let same = unit_same off in omega (arith, same)) (done_or answer)

  -- all are home, or the pages stay
  unit_pages : (pages_of w ≡ pages_of v) ⊎ (left_of w ≡ 0)
  unit_pages = ⊎_elim
      (λ done.
      let k = b.goes.taken done in
      let after : w.meta.frozen ≡ frozen_after v.journal.phase v.meta.frozen = ap (λ (n : Pages). n.frozen) k.1 in
      ⊎_elim
      (λ stays. inl (ap (λ (f : Frozen). length f.addresses) (after ∙ stays)))
      (λ gone.
      let none : w.meta.frozen ≡ none_frozen = after ∙ gone in
      let idle : w.journal.phase ≡ Header = phase_of_none w.journal.phase (subst (λ n. IsPhase w.journal.phase n) (ap (λ (x : Frozen). length x.addresses) none) b.stands.journaled.order.phase) in
      inr (idle_left w.journal w.meta.frozen idle none))
      (after_either v.journal.phase v.meta.frozen))
      (λ off. inl (ap (λ (n : Pages). length n.frozen.addresses) (b.goes.waits off).1))
      (done_or answer)

  done_froze : (Decides → ⊥) → Froze v unit_done false None None
  done_froze off = record {
    stays = λ f e more. unit_opens g answer v.device w.device v.journal w.journal v.meta w.meta core.journaled some takes off more;
    never = λ f. refl;
    opens = λ on. absurd (true≢false (sym on));
    fewer = λ f. unit_fewer;
    pages = λ f. unit_pages;
    was_shut = λ on. absurd (true≢false (sym on));
    few = λ on. absurd (true≢false (sym on));
  }

  decided_froze : Froze v unit_decided false (Some 0) None
  decided_froze = record {
    stays = λ f e more. absurd (none_some 0 (sym e));
    never = λ f. refl;
    opens = λ on. absurd (true≢false (sym on));
    fewer = λ f. unit_fewer;
    pages = λ f. unit_pages;
    was_shut = λ on. absurd (true≢false (sym on));
    few = λ on. absurd (true≢false (sym on));
  }

  -- ---- what stays of a core

  marked : HandledUpTo (names_of g w) (begun_of w + 1)
  marked c n has at =
      let t = b.passes.named.tables in
      let old = core.marked c n (subst (λ (cs : List Callback). Has cs c) t.pending has) (sym (t.handled c.number) ∙ at) in
      let same = begun_stays in
      omega (arith, old, same)

  not_failed : w.stopped ≡ 0 → NoWriteFailed g v.device w.device
  not_failed = none_failed_on g v w b.stopped b.faults.reads_never_fall b.faults.writes_never_fall

  old_numbers : HasNumber w.journal (length w.meta.frozen.addresses) → HasNumber v.journal (length v.meta.frozen.addresses)
  old_numbers numbers = subst (λ n. n < 9223372036854775808) begun_stays numbers

  firm : w.stopped ≡ 0 → JournalIsObservable g w.journal w.meta → IsFirm g w.device
  firm none told = unit_keeps_firm g answer 1 v.device w.device v.journal w.journal v.meta w.meta told.0 ((core.writes runs).firm (told.0, old_numbers told.1)) (b.writes told.0 (old_numbers told.1)) b.passes (inr (not_failed none)) (stores told.0)

  can_write : w.stopped ≡ 0 → CanWrite g w
  can_write none = record {
    spare = b.passes.spare.sound (not_failed none);
    lands = subst (λ (n : Names). CanLand n.space) (sym (b.passes.named.names (not_failed none))) (core.writes runs).lands;
    firm = firm none;
    counts = below_end (g.write_faults v.device) (g.write_faults w.device) (not_failed none);
  }

  space : HasSpace g unit_done
  space =
      let s = core.space in
      let blocks = b.passes.named.space in
      let kept = blocks.same.kept in
      let block = blocks.same.block in
      let all = blocks.same.all in
      let live = blocks.pages.1 in
      let running = ap length (same_running g v unit_done same_shape volume b.stands.needed) in
      let cap = ap (λ (h : Shape). h.cap) same_shape in
      let counted = s.counted in
      let few_files = s.few in
      let products : ((names_of g v).space.keep + (names_of g v).space.bad + 3) * (names_of g v).space.block ≡ ((names_of g w).space.keep + (names_of g w).space.bad + 3) * (names_of g w).space.block =
      ap (λ k. (k + 3) * (names_of g v).space.block) (sym kept) ∙ ap (λ n. ((names_of g w).space.keep + (names_of g w).space.bad + 3) * n) (sym block) in
      record {
        counted = omega (arith, live, counted, running);
        few = omega (arith, running, few_files, cap);
        all = let before = s.all in omega (arith, all, before, products, cap);
        room = subst (λ (h : Shape). h.pblocks * h.pages ≤ length v.freeing.items + v.freeing.room) (sym same_shape) s.room;
      }

  pub done_core : (Done → v.journal.phase ≢ Commit) → IsCore g unit_done
  done_core off = record {
    formed = formed;
    shape = core.shape ∙ sym same_shape;
    journaled = b.stands.journaled;
    free = has_free_on g v unit_done same_shape volume b.stands.needed refl core.free;
    held = unit_keeps_held g answer v.device w.device v.journal w.journal v.meta w.meta (carried v.flight) v.freeing.items _ volume core.journaled core.held some takes off;
    counts = counts_then v unit_done core.counts refl false None None refl refl refl (done_froze (λ d. off d.0 d.1));
    flight = core.flight;
    named = λ x has. subst (λ (h : Shape). IsPhysical h x.1.name) (sym same_shape) (core.named x has);
    stamped = core.stamped;
    space = space;
    marked = marked;
    moment = let a = core.moment in let c = b.clock.clock in omega (arith, a, c);
    writes = λ none. let c = can_write none in record { spare = c.spare; lands = c.lands; firm = c.firm; counts = c.counts };
  }

  pub decided_core : Done → v.journal.phase ≡ Commit → IsCore g unit_decided
  decided_core done is = record {
    formed = formed;
    shape = core.shape ∙ sym same_shape;
    journaled = b.stands.journaled;
    free = let f = has_free_on g v unit_done same_shape volume b.stands.needed refl core.free in record { count_nodes = f.count_nodes; count_pool = f.count_pool; nodes = f.nodes; pool = f.pool };
    held = shut_keeps_held g answer v.device w.device v.journal w.journal v.meta w.meta (carried v.flight) v.freeing.items _ volume core.journaled core.held some takes done is;
    counts = counts_then v unit_decided core.counts refl false (Some 0) None refl refl refl decided_froze;
    flight = core.flight;
    named = λ x has. subst (λ (h : Shape). IsPhysical h x.1.name) (sym same_shape) (core.named x has);
    stamped = core.stamped;
    space = let s = space in record { counted = s.counted; few = s.few; all = s.all; room = s.room };
    marked = marked;
    moment = omega arith;
    writes = λ none. let c = can_write none in record { spare = c.spare; lands = c.lands; firm = c.firm; counts = c.counts };
  }

  -- ---- how it went on

  paid_off : w.journal.number ≡ v.journal.number → NumberPaid (g.clock v.device) v.journal.number (g.clock w.device) w.journal.number
  paid_off same low = let c = b.clock.clock in omega (arith, same, c)

  number_other : (phase : Phase) (n : ℕ) → (phase ≡ Commit → ⊥) → next_number_in phase n ≡ n
  number_other Header n off = refl
  number_other (Image i) n off = refl
  number_other Commit n off = absurd (off refl)
  number_other (Home i) n off = refl

  number_off : (Done → v.journal.phase ≢ Commit) → w.journal.number ≡ v.journal.number
  number_off off = ⊎_elim
      (λ done. ap (λ (q : Progress). q.number) (b.goes.taken done).0 ∙ number_other v.journal.phase v.journal.number (off done))
      (λ undone. ap (λ (q : Progress). q.number) (b.goes.waits undone).0)
      (done_or answer)

  pub number_raised : Done → v.journal.phase ≡ Commit → w.journal.number ≡ raised v.journal.number
  number_raised done is = ap (λ (q : Progress). q.number) (b.goes.taken done).0 ∙ ap (λ (x : Phase). next_number_in x v.journal.number) is

  paid_on : Done → v.journal.phase ≡ Commit → NumberPaid (g.clock v.device) v.journal.number (g.clock w.device) w.journal.number
  paid_on done is low =
      let number = number_raised done is in
      let clock = b.clock.clock in
      let later = b.clock.later done (omega (arith, clock, low)) in
      omega (arith, number, later)

  runs_to : g.tells → (page_of_stamp : ℕ → Option PageOfStamp) (tree : Tree) → CoreRepresentsTree g v page_of_stamp tree → CoreRepresentsTree g unit_done page_of_stamp tree
  runs_to tells page_of_stamp tree at =
      let named = b.passes.named in
      runs_on g v unit_done page_of_stamp tree at named.same_shape b.stands.needed
      (record { live = λ q page is. (q, sym (named.tables.live q) ∙ is, named.bytes tells q); stamps = b.passes.stamps.never_falls })

  stops : TurnsReadOnly g v w
  stops = stops_on g v w b.stopped b.faults.reads_never_fall b.faults.writes_never_fall

  trees_of : (page_of_stamp : ℕ → Option PageOfStamp) (t : Trees) → g.tells → HasNumber w.journal (length w.meta.frozen.addresses) → CoreRepresents g v page_of_stamp t → UnitTrees g Decides w.device w.journal w.meta v.count page_of_stamp t
  trees_of page_of_stamp t tells numbers at = unit_goes g answer v.device w.device v.journal w.journal v.meta w.meta v.count page_of_stamp t volume tells (old_numbers numbers) core.journaled some takes at.stands

  opens_to : (y : Prefix) (moment : ℕ) (z : Prefix) (t : Trees) → z.0 ≡ y.0
      → CrashStatesHave g (OpensFrom (g.shape v.device) v.count moment t z) v.device w.device → CrashStatesHave g (OpensFrom (g.shape v.device) v.count moment t y) v.device w.device
  opens_to y moment z t same l = record {
    later = l.later;
    each = λ m c left. ⊎_elim inl (λ k. inr (k.0, k.1, (k.2.0, k.2.1, k.2.2, λ after. let low = k.2.3 after in omega (arith, low, same)))) (l.each m c left);
  }

  pub done_goes : (Done → v.journal.phase ≢ Commit) → PreservesVolume g 1 v unit_done
  done_goes off = record {
    same_shape = same_shape;
    count = refl;
    nodes = record { generation = λ n. ap (λ (x : Graph). (x n).generation) b.stands.graph; body = λ n. ap (λ (x : Graph). nameless_body (x n).body) b.stands.graph };
    numbers = let same = begun_stays in omega (arith, same);
    paid = paid_off (number_off off);
    reads = b.faults.reads_never_fall;
    writes = b.faults.writes_never_fall;
    clock = b.clock.clock;
    moment = inl (refl, refl);
    onward = onward_by v unit_done core.counts refl false None None refl refl (done_froze (λ d. off d.0 d.1));
    stops = record { stands = stops.stands; none = stops.none; some = stops.some };
    stamps = b.passes.stamps;
    posted = let same = b.passes.named.tables.posted in omega (arith, same);
    runs = λ tells page_of_stamp tree at. with_none g unit_done page_of_stamp tree (runs_to tells page_of_stamp tree at);
    trees = λ told page_of_stamp t at. record {
      pages = page_of_stamp;
      trees = t;
      stands = record {
        stands = (trees_of page_of_stamp t told.tells told.numbers at).same (λ d. off d.0 d.1);
        runs = runs_to told.tells page_of_stamp t.running at.runs;
        committed = at.committed;
        frozen = at.frozen;
      };
      extends = λ stamp page is. is;
      running = refl;
      committed = inl refl;
      frozen = inr (inl refl);
      later = omega arith;
    };
    left = λ told page_of_stamp t y is at. opens_to y v.moment t.committed t (at.committed ∙ sym is)
        ((unit_leaves g answer v.device w.device v.journal w.journal v.meta w.meta v.count v.moment page_of_stamp t (carried v.flight) v.freeing.items _ volume told.tells (old_numbers told.numbers) told.moments core.journaled core.held
        ((core.writes runs).firm (told.tells, old_numbers told.numbers)) at.runs.shows (b.writes told.tells (old_numbers told.numbers)) at.stands).1 (λ d. off d.0 d.1));
  }

  pub decided_goes : Done → v.journal.phase ≡ Commit → PreservesVolume g 1 v unit_decided
  decided_goes done is = record {
    same_shape = same_shape;
    count = refl;
    nodes = record { generation = λ n. ap (λ (x : Graph). (x n).generation) b.stands.graph; body = λ n. ap (λ (x : Graph). nameless_body (x n).body) b.stands.graph };
    numbers = let same = begun_stays in omega (arith, same);
    paid = paid_on done is;
    reads = b.faults.reads_never_fall;
    writes = b.faults.writes_never_fall;
    clock = b.clock.clock;
    moment = inr (b.clock.later done, b.clock.clock);
    onward = onward_by v unit_decided core.counts refl false (Some 0) None refl refl decided_froze;
    stops = record { stands = stops.stands; none = stops.none; some = stops.some };
    stamps = b.passes.stamps;
    posted = let same = b.passes.named.tables.posted in omega (arith, same);
    runs = λ tells page_of_stamp tree at. let k = runs_to tells page_of_stamp tree at in with_none g unit_decided page_of_stamp tree (record { runs = k.runs; shows = k.shows; given = k.given });
    trees = λ told page_of_stamp t at. record {
      pages = page_of_stamp;
      trees = record t { committed = t.frozen };
      stands = record {
        stands = (trees_of page_of_stamp t told.tells told.numbers at).decided (done, is);
        runs = let k = runs_to told.tells page_of_stamp t.running at.runs in record { runs = k.runs; shows = k.shows; given = k.given };
        committed = at.frozen;
        frozen = at.frozen;
      };
      extends = λ stamp page is. is;
      running = refl;
      committed = inr (inl refl);
      frozen = inr (inl refl);
      later = at.stands.later;
    };
    left = λ told page_of_stamp t y same at. opens_to y (g.clock w.device) t.frozen t (at.frozen ∙ sym same)
        ((unit_leaves g answer v.device w.device v.journal w.journal v.meta w.meta v.count v.moment page_of_stamp t (carried v.flight) v.freeing.items _ volume told.tells (old_numbers told.numbers) told.moments core.journaled core.held
        ((core.writes runs).firm (told.tells, old_numbers told.numbers)) at.runs.shows (b.writes told.tells (old_numbers told.numbers)) at.stands).0 (done, is));
  }

  -- ---- less is left

  -- where a commit page reaches a goal that is not reached, it is still to be written
  awaited : (goal : ℕ) → v.committed < goal → goal ≤ v.frozen → pages_of v < left_of v
  awaited goal more reach = ⊎_elim (λ is. is)
      (λ few.
      let both = core.counts.shut (λ is. let no : ⊥ = omega (arith, is, few) in no) in
      let same = both.0 in
      absurd (let no : ⊥ = omega (arith, more, reach, same) in no))
      (cases_lt (pages_of v) (left_of v))

  less_by : (a c x y : ℕ) → a ≡ x → c ≡ y → x < y → a < c
  less_by a c x y one two less = omega (arith, one, two, less)

  pub done_less : Done → v.journal.phase ≢ Commit → (goal : ℕ) → v.committed < goal → units_for unit_done goal < units_for v goal
  done_less done off goal more = ⊎_elim
      (λ past.
      let less = unit_less done in
      less_by (units_for unit_done goal) (units_for v goal) (left_of w + 66) (left_of v + 66)
      (left_and_more goal v.committed v.frozen (left_of w) (pages_of w) more past) (left_and_more goal v.committed v.frozen (left_of v) (pages_of v) more past) (omega (arith, less)))
      (λ reach.
      let less = unit_less done in
      let wait = awaited goal more reach in
      less_by (units_for unit_done goal) (units_for v goal) (left_of w - pages_of w) (left_of v - pages_of v)
      (left_to_commit goal v.committed v.frozen (left_of w) (pages_of w) more reach) (left_to_commit goal v.committed v.frozen (left_of v) (pages_of v) more reach)
      (⊎_elim (λ same. omega (arith, less, same, wait)) (λ none. omega (arith, none, wait)) unit_pages))
      (cases_lt v.frozen goal)

  pub decided_less : Done → (goal : ℕ) → v.committed < goal → units_for unit_decided goal < units_for v goal
  decided_less done goal more = ⊎_elim
      (λ past.
      let less = unit_less done in
      less_by (units_for unit_decided goal) (units_for v goal) (left_of w + 66) (left_of v + 66)
      (left_and_more goal v.frozen v.frozen (left_of w) (pages_of w) past past) (left_and_more goal v.committed v.frozen (left_of v) (pages_of v) more past) (omega (arith, less)))
      (λ reach.
      let wait = awaited goal more reach in
      less_by (units_for unit_decided goal) (units_for v goal) 0 (left_of v - pages_of v)
      (none_left goal v.frozen v.frozen (left_of w) (pages_of w) reach) (left_to_commit goal v.committed v.frozen (left_of v) (pages_of v) more reach) (omega (arith, wait)))
      (cases_lt v.frozen goal)
