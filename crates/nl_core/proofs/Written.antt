-- A core stands on once its transactions are written, or a write or a read ended that.
use Rattle.std.proofs.Common.{◌≡◌, ◌⊎◌, inl, inr, ⊎_elim, ℕ, ◌+◌, ◌*◌, ◌<◌, ◌≤◌, ◌^◌, ◌==◌, ◌&&◌, nat_le, true, false, List, length, Option, Some, None, sym, ap, subst, ◌∙◌, arith}
use Rattle.std.specs.Prelude.{IfSome}
use Rattle.std.proofs.lemmas.Bool.{and_parts, cases_Bool, cases_lt, cond-false, cond-true, eqb-true, le-leb, leb-true, true≢false}
use Rattle.nl_field.specs.CrashStates.{Rose, saturated, top}
use Rattle.nl_field.specs.declared.answers.VirtualWrite.{VirtualWrite}
use Rattle.nl_field.specs.declared.answers.VirtualWrite.TheVariants as write
use Rattle.nl_field.specs.SuperPage.{super_bytes}
use Rattle.nl_field.specs.PointerItems.{PointerItems}
use Rattle.nl_field.specs.declared.shape.Shape.{Shape}
use Rattle.nl_flight.specs.Flight.{InFlight, IsFlight, carried}
use Rattle.nl_spec_holders.specs.Holding.{HandledUpTo}
use Rattle.nl_iface.specs.Calls.{NoWriteFailed, StoresPages}
use Rattle.nl_iface.specs.Device.{IsVolumeShape}
use Rattle.nl_iface.specs.Names.{Has, Names}
use Rattle.nl_iface.specs.Space.{CanLand}
use Rattle.nl_iface.specs.declared.Callback.{Callback}
use Rattle.nl_iface.specs.declared.counts.Counts.{Ghosts}
use Rattle.nl_inode.specs.FreeLaws.{NodesAreFree, PoolIsFree, UsesAddress}
use Rattle.nl_inode.specs.Nodes.{Spaces}
use Rattle.nl_journal.specs.Progress.{HasNumber, Progress, begun, raised, units_left}
use Rattle.nl_journal.specs.declared.answers.Phase.{Phase}
use Rattle.nl_journal.proofs.Finishing.{header_units}
use Rattle.nl_meta.specs.Committed.{VirtualMap}
use Rattle.nl_journal.proofs.CommitSteps.{begun_header, begun_none}
use Rattle.nl_meta.specs.Pages.{Frozen, Pages, dirty_pages}
use Rattle.nl_meta.specs.PointerLists.{tagged_in}
use Rattle.nl_meta_running.specs.Running.{IsNeeded}
use Rattle.nl_meta_running.proofs.Holds.{bounds-of}
use Rattle.nl_meta_running.proofs.SameNeeded.{node-from, node-to}
use Rattle.nl_journal_commit.specs.Committing.{ChangesAt, EarlierAt}
use Rattle.nl_journal_commit.specs.Completing.{AwaitsCommitPage, Completes, IsDecided}
use Rattle.nl_journal_commit.specs.Counting.{record_of, with_frozen}
use Rattle.nl_journal_commit.specs.Holding.{running_holders}
use Rattle.nl_journal_commit.specs.Standing.{CanFreeze, IsJournaled}
use Rattle.nl_journal_commit.proofs.Standing.{super_page_stands}
use Rattle.nl_spec_commits.specs.Held.{IsHeldVolume, leaving_after}
use Rattle.nl_spec_commits.specs.SettlingLaws.{JournalIsObservable}
use Rattle.nl_spec_commits.specs.Standing.{IsFirm}
use Rattle.nl_spec_commits.proofs.Freezing.{freeze_opens, super_pages_hold}
use Rattle.nl_spec_commits.proofs.Holding.{commit_keeps_held}
use Rattle.nl_spec_commits.proofs.Kept.{tagged_same}
use Rattle.nl_spec_commits.specs.TreeLaws.{last_commit_moment}
use Rattle.nl_core.specs.Core.{CanWrite, FreeAreUnused, HasSpace, IsCore, IsPhysical, begun_of, names_of, running_of}
use Rattle.nl_core.specs.Goes.{CommitsOnward, TurnsReadOnly}
use Rattle.nl_core.specs.Writing.{WritesAll, counted_pages, stopped_by, stopped_on, stored_count}
use Rattle.nl_core.specs.declared.state.Core.{Core}
use Rattle.nl_core.proofs.Counts.{Awaits, Froze, counts_then, idle_left, idle_shut, left_of, onward_by}

-- ---- the first write that failed

one_at_least : (reads before writes : ℕ) → Rose before writes → saturated (reads + writes) ≡ 0 → ⊥
one_at_least reads before writes rose none = omega (arith, rose, none)

by_rose : (stopped reads before writes : ℕ) → Rose before writes → stopped ≡ 0 → stopped_by stopped reads before writes ≡ saturated (reads + writes)
by_rose stopped reads before writes rose zero_ =
    cond-true (stopped == 0 && nat_le (saturated (before + 1)) writes) (saturated (reads + writes)) stopped
    (ap (λ n. n == 0 && nat_le (saturated (before + 1)) writes) zero_ ∙ le-leb (saturated (before + 1)) writes rose)

pub stopped_cases : (stopped reads before writes : ℕ) → ((stopped ≡ 0) × Rose before writes) ⊎ (stopped_by stopped reads before writes ≡ stopped)
stopped_cases stopped reads before writes = by (cases_Bool (stopped == 0 && nat_le (saturated (before + 1)) writes))
  where
    by : (stopped == 0 && nat_le (saturated (before + 1)) writes ≡ true) ⊎ (stopped == 0 && nat_le (saturated (before + 1)) writes ≡ false) → ((stopped ≡ 0) × Rose before writes) ⊎ (stopped_by stopped reads before writes ≡ stopped)
    by (inl is) = let both = and_parts (stopped == 0) (nat_le (saturated (before + 1)) writes) is in inl (eqb-true stopped 0 both.0, leb-true (saturated (before + 1)) writes both.1)
    by (inr off) = inr (cond-false _ (saturated (reads + writes)) stopped off)

pub not_rose : (stopped reads before writes : ℕ) → stopped_by stopped reads before writes ≡ 0 → Rose before writes → ⊥
not_rose stopped reads before writes none rose = ⊎_elim
    (λ both. one_at_least reads before writes rose (sym (by_rose stopped reads before writes rose both.0) ∙ none))
    (λ same. one_at_least reads before writes rose (sym (by_rose stopped reads before writes rose (sym same ∙ none)) ∙ none))
    (stopped_cases stopped reads before writes)

-- where a count did not rise, it is below its end
pub below_end : (before now : ℕ) → (Rose before now → ⊥) → now < top
below_end before now none = ⊎_elim (λ low. omega (arith, low)) (λ high. absurd (none high)) (cases_lt now (saturated (before + 1)))

-- where a count is the same below its end, it did not rise
pub same_below_end : (before now : ℕ) → before < top → now ≡ before → Rose before now → ⊥
same_below_end before now low same rose = omega (arith, low, same, rose)

module _ {D : Type 0} (g : Ghosts D) (v w : Core D) (is : w.stopped ≡ stopped_on g (g.write_faults v.device) v w) (reads : g.read_faults v.device ≤ g.read_faults w.device)
    (writes : g.write_faults v.device ≤ g.write_faults w.device) where
  pub none_failed_on : w.stopped ≡ 0 → NoWriteFailed g v.device w.device
  none_failed_on none = not_rose v.stopped (g.read_faults w.device) (g.write_faults v.device) (g.write_faults w.device) (sym is ∙ none)

  pub stops_on : TurnsReadOnly g v w
  stops_on = record {
    stands = λ off. ⊎_elim (λ both. absurd (off both.0)) (λ same. is ∙ same) (stopped_cases v.stopped (g.read_faults w.device) (g.write_faults v.device) (g.write_faults w.device));
    none = none_failed_on;
    some = λ first later. ⊎_elim
        (λ both.
        let rose = both.1 in
        let sum : w.stopped ≡ saturated (g.read_faults w.device + g.write_faults w.device) =
        is ∙ by_rose v.stopped (g.read_faults w.device) (g.write_faults v.device) (g.write_faults w.device) rose first in
        (rose, let a = reads in let b = writes in (omega (arith, sum, rose, a, b), omega (arith, sum))))
        (λ same. absurd (later (is ∙ same ∙ first))) (stopped_cases v.stopped (g.read_faults w.device) (g.write_faults v.device) (g.write_faults w.device));
  }

-- ---- free numbers and addresses

module _ (shape : Shape) (old new : VirtualMap) (volume : IsVolumeShape shape) (same : (v : ℕ) → IsNeeded shape old v → new v ≡ old v) where
  pub nodes_free : (s : Spaces) → NodesAreFree shape old s → NodesAreFree shape new s
  nodes_free s f = record {
    each = λ n below. let k = f.each n below in
        (λ is rec node. k.0 is rec (node-from shape (bounds-of shape volume) old new same n rec node), λ none. k.1 (λ rec node. none rec (node-to shape (bounds-of shape volume) old new same n rec node)));
  }

  pub pool_free : (s : Spaces) → PoolIsFree shape old s → PoolIsFree shape new s
  pool_free s f = record {
    first = f.first;
    each = λ a low high. let k = f.each a low high in
        (λ is uses. k.0 is (uses_from a uses), λ none. k.1 (λ uses. none (uses_to a uses)));
  }
    where
      uses_from : (a : ℕ) → UsesAddress shape new a → UsesAddress shape old a
      uses_from a u = (u.0, u.1, record { rec = u.2.rec; is_node = node-from shape (bounds-of shape volume) old new same u.0 u.2.rec u.2.is_node; in_slot = u.2.in_slot; not_zero = u.2.not_zero })

      uses_to : (a : ℕ) → UsesAddress shape old a → UsesAddress shape new a
      uses_to a u = (u.0, u.1, record { rec = u.2.rec; is_node = node-to shape (bounds-of shape volume) old new same u.0 u.2.rec u.2.is_node; in_slot = u.2.in_slot; not_zero = u.2.not_zero })

module _ {D : Type 0} (g : Ghosts D) (v w : Core D) (same_shape : g.shape w.device ≡ g.shape v.device) (volume : IsVolumeShape (g.shape v.device))
    (same : (u : ℕ) → IsNeeded (g.shape v.device) (running_of g v) u → running_of g w u ≡ running_of g v u) where
  pub has_free_on : w.nodes ≡ v.nodes → FreeAreUnused g v → FreeAreUnused g w
  has_free_on nodes f = record {
    count_nodes = ap (λ (s : Spaces). length s.nodes) nodes ∙ f.count_nodes ∙ ap (λ (h : Shape). h.nodes) (sym same_shape);
    count_pool = ap (λ (s : Spaces). length s.pool) nodes ∙ f.count_pool ∙ ap (λ (h : Shape). h.meta) (sym same_shape);
    nodes = subst (λ (h : Shape). NodesAreFree h (running_of g w) w.nodes) (sym same_shape)
        (subst (λ (s : Spaces). NodesAreFree (g.shape v.device) (running_of g w) s) (sym nodes) (nodes_free (g.shape v.device) (running_of g v) (running_of g w) volume same v.nodes f.nodes));
    pool = subst (λ (h : Shape). PoolIsFree h (running_of g w) w.nodes) (sym same_shape)
        (subst (λ (s : Spaces). PoolIsFree (g.shape v.device) (running_of g w) s) (sym nodes) (pool_free (g.shape v.device) (running_of g v) (running_of g w) volume same v.nodes f.pool));
  }

  pub same_running : running_holders g w.device w.meta ≡ running_holders g v.device v.meta
  same_running =
      ap (λ (h : Shape). tagged_in h (running_of g w)) same_shape
      ∙ tagged_same (g.shape v.device) (bounds-of (g.shape v.device) volume) (running_of g v) (running_of g w) same

-- ---- the transactions are written

module _ {D : Type 0} (g : Ghosts D) (v w : Core D) (answer : VirtualWrite) (b : WritesAll g v w answer) (core : IsCore g v) (volume : IsVolumeShape (g.shape v.device)) (few : begun_of v ≤ 2 ^ 63)
    (stores : g.tells → StoresPages g w.device) (writes : v.stopped ≡ 0) where
  abbrev pub pages_counted : Pages
  pages_counted = counted_pages v

  super_bytes_of : List ℕ
  super_bytes_of = super_bytes (record_of v.shape (stored_count v))

  pub journaled_counted : IsJournaled g v.device v.journal pages_counted
  journaled_counted = (super_page_stands g v.device v.journal v.meta (super_bytes (record_of v.shape (stored_count v))) volume core.journaled).journaled

  pub held_counted : IsHeldVolume g v.device v.journal pages_counted (carried v.flight) v.freeing.items v.leaving
  held_counted =
      let h = core.held in
      record {
        holding = h.holding;
        is_of = super_pages_hold g v.device v.journal v.meta (super_bytes (record_of v.shape (stored_count v))) h.holding volume core.journaled h.is_of;
        in_flight = h.in_flight;
        awaits = h.awaits;
        none_due = h.none_due;
        gives_up = h.gives_up;
        holds = h.holds;
        committed = h.committed;
      }

  same_shape : g.shape w.device ≡ g.shape v.device
  same_shape = b.passes.named.same_shape

  pub written_held : IsHeldVolume g w.device w.journal w.meta (carried w.flight) w.freeing.items w.leaving
  written_held =
      subst (λ n. IsHeldVolume g w.device w.journal w.meta (carried w.flight) w.freeing.items n) (sym b.leaving)
      (subst (λ (f : List InFlight). IsHeldVolume g w.device w.journal w.meta (carried f) w.freeing.items (leaving_after b.froze b.earlier b.decided (length v.freeing.items) v.leaving)) (sym b.rest.flight)
      (subst (λ (f : PointerItems). IsHeldVolume g w.device w.journal w.meta (carried v.flight) f.items (leaving_after b.froze b.earlier b.decided (length v.freeing.items) v.leaving)) (sym b.rest.freeing)
      (commit_keeps_held g answer b.froze b.earlier b.decided v.device w.device v.journal w.journal pages_counted w.meta (carried v.flight) v.freeing.items _ volume journaled_counted held_counted b.commits.parts)))

  -- numbers of transactions do not fall
  pub later_number : begun_of v ≤ begun_of w
  later_number = ⊎_elim
      (λ y.
      let first = b.commits.parts.first.finishes.begun_stays in
      let same : begun_of w ≡ begun b.commits.parts.halfway (length b.commits.parts.rest.frozen.addresses) =
      ap (λ (q : Progress). begun q (length w.meta.frozen.addresses)) y.3 ∙ ap (λ (m : Pages). begun b.commits.parts.halfway (length m.frozen.addresses)) y.4 in
      omega (arith, first, same))
      (λ y.
      let first = b.commits.parts.first.finishes.begun_stays in
      let second = y.3.finishes.begun_stays in
      let q = b.commits.parts.halfway in
      let can = y.2 in
      let starts : begun q (length b.commits.parts.rest.dirty) ≡ raised q.number = begun_header q.phase q.number (length b.commits.parts.rest.dirty) can.header can.dirty.pages.some in
      let before : begun q (length b.commits.parts.rest.frozen.addresses) ≡ q.number = begun_none q.phase q.number (length b.commits.parts.rest.frozen.addresses) can.header (ap (λ (f : Frozen). length f.addresses) can.none) in
      let most = few in
      omega (arith, first, second, starts, before, most))
      b.commits.parts.second

  -- ---- the counts of calls

  mid_shut : CanFreeze (g.shape b.commits.parts.between).vaddrs b.commits.parts.halfway b.commits.parts.rest → AwaitsCommitPage b.commits.parts.halfway b.commits.parts.rest.frozen → ⊥
  mid_shut can more = idle_shut b.commits.parts.halfway b.commits.parts.rest.frozen can.header can.none more

  still_open : (o : Option ℕ) → o ≡ None → IsDecided o v.journal b.commits.parts.halfway v.meta.frozen b.commits.parts.rest.frozen → Awaits v → AwaitsCommitPage b.commits.parts.halfway b.commits.parts.rest.frozen
  still_open o is d more = subst (λ (x : Option ℕ). IsDecided x v.journal b.commits.parts.halfway v.meta.frozen b.commits.parts.rest.frozen) is d more

  -- the dirty pages were not frozen
  froze_off : b.froze ≡ false → b.decided ≡ None → w.journal ≡ b.commits.parts.halfway → w.meta ≡ b.commits.parts.rest → Froze v w b.froze b.earlier b.decided
  froze_off off none journal meta = record {
    stays = λ f e more. subst (λ (q : Progress). AwaitsCommitPage q w.meta.frozen) (sym journal) (subst (λ (m : Pages). AwaitsCommitPage b.commits.parts.halfway m.frozen) (sym meta) (still_open b.earlier e b.commits.parts.first_decided more));
    never = λ f. none;
    opens = λ on. absurd (true≢false (sym on ∙ off));
    fewer = λ f. let low = b.commits.parts.first.finishes.fewer in let same = left_is in omega (arith, low, same);
    pages = λ f. ⊎_elim
        (λ stays. inl (ap (λ (m : Pages). length m.frozen.addresses) meta ∙ ap (λ (x : Frozen). length x.addresses) stays))
        (λ gone. inr (left_is ∙ idle_left b.commits.parts.halfway b.commits.parts.rest.frozen gone.0 gone.1)) b.commits.parts.first.finishes.frozen;
    was_shut = λ on. absurd (true≢false (sym on ∙ off));
    few = λ on. absurd (true≢false (sym on ∙ off));
  }
    where
      left_is : left_of w ≡ units_left b.commits.parts.halfway.phase (length b.commits.parts.rest.frozen.addresses)
      left_is = ap (λ (q : Progress). units_left q.phase (length w.meta.frozen.addresses)) journal ∙ ap (λ (m : Pages). units_left b.commits.parts.halfway.phase (length m.frozen.addresses)) meta

  -- they were
  froze_on : b.froze ≡ true → CanFreeze (g.shape b.commits.parts.between).vaddrs b.commits.parts.halfway b.commits.parts.rest
      → Completes g (answer ≡ write.Done) b.commits.parts.between b.commits.parts.halfway (with_frozen b.commits.parts.rest) w.device w.journal w.meta
      → IsDecided b.decided b.commits.parts.halfway w.journal (dirty_pages b.commits.parts.rest) w.meta.frozen → Froze v w b.froze b.earlier b.decided
  froze_on on can second decided = record {
    stays = λ off. absurd (true≢false (sym on ∙ off));
    never = λ off. absurd (true≢false (sym on ∙ off));
    opens = λ f none. subst (λ (o : Option ℕ). IsDecided o b.commits.parts.halfway w.journal (dirty_pages b.commits.parts.rest) w.meta.frozen) none decided
        (freeze_opens (g.shape b.commits.parts.between).vaddrs b.commits.parts.halfway b.commits.parts.rest can);
    fewer = λ off. absurd (true≢false (sym on ∙ off));
    pages = λ off. absurd (true≢false (sym on ∙ off));
    was_shut = λ f e more. mid_shut can (still_open b.earlier e b.commits.parts.first_decided more);
    few = λ f. let low = second.finishes.fewer in
        let all = first_units in
        let n = can.dirty.pages.few in ⊎_elim
        (λ stays. let size = ap (λ (x : Frozen). length x.addresses) stays in omega (arith, low, all, n, size))
        (λ gone. let none = idle_left w.journal w.meta.frozen gone.0 gone.1 in omega (arith, none))
        second.finishes.frozen;
  }
    where
      first_units : units_left b.commits.parts.halfway.phase (length b.commits.parts.rest.dirty) ≡ 2 * length b.commits.parts.rest.dirty + 2
      first_units = ap (λ (x : Phase). units_left x (length b.commits.parts.rest.dirty)) can.header ∙ header_units (length b.commits.parts.rest.dirty) can.dirty.pages.some

  froze_is : Froze v w b.froze b.earlier b.decided
  froze_is = ⊎_elim (λ y. froze_off y.0 y.5 y.3 y.4) (λ y. froze_on y.0 y.2 y.3 y.4) b.commits.parts.second

  pub written_onward : CommitsOnward v w
  written_onward = onward_by v w core.counts b.rest.count b.froze b.earlier b.decided b.committed b.frozen froze_is

  still_marked : HandledUpTo (names_of g w) (begun_of w + 1)
  still_marked c n has at =
      let t = b.passes.named.tables in
      let old = core.marked c n (subst (λ (cs : List Callback). Has cs c) t.pending has) (sym (t.handled c.number) ∙ at) in
      let later = later_number in
      omega (arith, old, later)

  pub not_failed : w.stopped ≡ 0 → NoWriteFailed g v.device w.device
  not_failed = none_failed_on g v w b.stopped b.faults.reads_never_fall b.faults.writes_never_fall

  still_firm : w.stopped ≡ 0 → JournalIsObservable g w.journal w.meta → IsFirm g w.device
  still_firm none told =
      let old_numbers : HasNumber v.journal (length v.meta.frozen.addresses) = let later = later_number in let small = told.1 in omega (arith, later, small) in
      let f = (core.writes writes).firm (told.0, old_numbers) in
      let all = b.writes told.0 told.1 in
      let rest = ⊎_elim (λ x. x.1.1) (λ x. x.1) all.left.now in
      record {
        firm = rest.firm f.firm f.none_failed;
        none_failed = λ u x below failed. ⊎_elim
            (λ old. f.none_failed u x (subst (λ (h : Shape). u < h.vaddrs) same_shape below) old)
            (λ new. not_failed none new.1) (b.passes.failed told.0 u x failed);
        pages = stores told.0;
        agree = λ p q x y at_p at_q e. f.agree p q x y (sym (rest.named p) ∙ at_p) (sym (rest.named q) ∙ at_q) e;
      }

  still_writes : w.stopped ≡ 0 → CanWrite g w
  still_writes none =
      let old = core.writes writes in
      record {
        spare = b.passes.spare.sound (not_failed none);
        lands = subst (λ (n : Names). CanLand n.space) (sym (b.passes.named.names (not_failed none))) old.lands;
        firm = still_firm none;
        counts = below_end (g.write_faults v.device) (g.write_faults w.device) (not_failed none);
      }

  still_space : HasSpace g w
  still_space =
      let s = core.space in
      let blocks = b.passes.named.space in
      let kept = blocks.same.kept in
      let block = blocks.same.block in
      let all = blocks.same.all in
      let live = blocks.pages.1 in
      let running = ap length (same_running g v w same_shape volume b.stands.needed) in
      let flight = ap (λ (f : List InFlight). length (carried f)) b.rest.flight in
      let freeing = ap (λ (f : PointerItems). length f.items) b.rest.freeing in
      let rooms = ap (λ (f : PointerItems). f.room) b.rest.freeing in
      let cap = ap (λ (h : Shape). h.cap) same_shape in
      let counted = s.counted in
      let few_files = s.few in
      let products : ((names_of g v).space.keep + (names_of g v).space.bad + 3) * (names_of g v).space.block ≡ ((names_of g w).space.keep + (names_of g w).space.bad + 3) * (names_of g w).space.block =
      ap (λ k. (k + 3) * (names_of g v).space.block) (sym kept) ∙ ap (λ n. ((names_of g w).space.keep + (names_of g w).space.bad + 3) * n) (sym block) in
      record {
        counted = omega (arith, live, counted, running, flight, freeing);
        few = omega (arith, running, few_files, cap);
        all = let before = s.all in omega (arith, all, before, products, cap);
        room = subst (λ (h : Shape). h.pblocks * h.pages ≤ length w.freeing.items + w.freeing.room) (sym same_shape) (let r = s.room in omega (arith, r, freeing, rooms));
      }

  pub written_core : g.formed w.device → IsCore g w
  written_core formed = record {
    formed = formed;
    shape = b.rest.shape ∙ core.shape ∙ sym same_shape;
    journaled = b.stands.journaled;
    free = has_free_on g v w same_shape volume b.stands.needed b.rest.nodes core.free;
    held = written_held;
    counts = counts_then v w core.counts b.rest.count b.froze b.earlier b.decided b.committed b.frozen b.leaving froze_is;
    flight = subst IsFlight (sym b.rest.flight) core.flight;
    named = λ x has. subst (λ (h : Shape). IsPhysical h x.1.name) (sym same_shape) (core.named x (subst (λ (f : List InFlight). Has (carried f) x) b.rest.flight has));
    stamped = λ x has. core.stamped x (subst (λ (f : List InFlight). Has (carried f) x) b.rest.flight has);
    space = still_space;
    marked = still_marked;
    moment = subst (λ n. n ≤ g.clock w.device) (sym b.moment) (moment_in v.moment b.earlier b.decided (let a = core.moment in let c = b.clock in omega (arith, a, c)) b.earlier_at b.decided_at);
    writes = still_writes;
  }
    where
      moment_in : (before : ℕ) (earlier decided : Option ℕ) → before ≤ g.clock w.device → IfSome earlier (EarlierAt g v.device w.device v.journal w.journal pages_counted w.meta)
          → IfSome decided (ChangesAt g v.device w.device v.journal w.journal pages_counted w.meta) → last_commit_moment before earlier decided ≤ g.clock w.device
      moment_in before earlier (Some m) low e d = d.to
      moment_in before (Some m) None low e d = e.to
      moment_in before None None low e d = low
