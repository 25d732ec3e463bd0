-- A core stands on while a victim of its device is cleaned.
use Rattle.std.proofs.Common.{◌≡◌, inl, inr, ⊎_elim, ℕ, ◌+◌, ◌*◌, ◌≤◌, length, Option, Some, refl, sym, ap, subst, ◌∙◌, arith}
use Rattle.nl_field.specs.Graph.{Graph}
use Rattle.nl_field.specs.declared.shape.Shape.{Shape}
use Rattle.nl_core_clean.specs.Carried.{KeepsHeld, KeepsStored, LeavesHeld}
use Rattle.nl_core_clean.specs.Spaces.{CleansVictim, HasMoved}
use Rattle.nl_core_clean.specs.declared.cleaning.Cleaned.{Cleaned}
use Rattle.nl_core_clean.specs.declared.cleaning.Cleaned.TheVariants.{Done, Nothing, Lost, Fault}
use Rattle.nl_core_callbacks.specs.Handled.{nameless_body}
use Rattle.nl_flight.specs.Flight.{carried}
use Rattle.nl_spec_holders.specs.Holding.{HandledUpTo}
use Rattle.nl_spec_holders.specs.Laws.{PreservesHolding}
use Rattle.nl_iface.specs.Calls.{CrashStatesHave, NoWriteFailed, StoresMap, StoresPages, stored}
use Rattle.nl_iface.specs.Device.{IsVolumeShape}
use Rattle.nl_iface.specs.Names.{Names}
use Rattle.nl_iface.specs.Space.{CanLand, SameSegment, Space}
use Rattle.nl_iface.specs.Stored.{Stored}
use Rattle.nl_iface.specs.declared.counts.Counts.{Ghosts}
use Rattle.nl_journal.specs.Progress.{HasNumber}
use Rattle.nl_meta.specs.Consistent.{PageOfStamp}
use Rattle.nl_meta.specs.Nodes.{graph_of}
use Rattle.nl_meta.proofs.Lists.{none_some}
use Rattle.nl_meta_running.specs.Running.{running_on}
use Rattle.nl_journal_commit.specs.Standing.{PreservesGraph}
use Rattle.nl_journal_commit.proofs.Paid.{paid_same}
use Rattle.nl_journal_commit.proofs.Standing.{addresses_stand}
use Rattle.nl_spec_commits.specs.DeviceLaws.{LeavesHolding}
use Rattle.nl_spec_commits.specs.SettlingLaws.{JournalIsObservable as IsHeldTold}
use Rattle.nl_spec_commits.specs.TreeLaws.{OpensFrom}
use Rattle.nl_spec_commits.specs.Trees.{Prefix, Trees}
use Rattle.nl_tree.specs.Tree.{Tree}
use Rattle.nl_spec_commits.proofs.DeviceTrees.{addresses_go, holding_opens}
use Rattle.nl_spec_commits.proofs.Firm.{stored_keeps_firm}
use Rattle.nl_spec_commits.proofs.Steps.{cleaning_keeps_held}
use Rattle.nl_core.specs.Core.{HasSpace, IsCore, IsPhysical, begun_of, names_of, running_of}
use Rattle.nl_core.specs.Goes.{CommitsOnward, PreservesVolume, PreservesTrees, PreservesTree}
use Rattle.nl_core.specs.Trees.{CoreRepresentsTree, CoreRepresents, CoreIsObservable}
use Rattle.nl_core.specs.Writing.{stopped_on}
use Rattle.nl_core.specs.declared.state.Core.{Core}
use Rattle.nl_core.proofs.Counts.{counts_as, onward_as}
use Rattle.nl_core.proofs.Running.{goes_as, runs_on, with_none}
use Rattle.nl_core.proofs.Written.{below_end, has_free_on, none_failed_on, same_running, stops_on}

-- ---- the numbers of space

segment_then : {r s t : Space} → SameSegment r s → SameSegment s t → SameSegment r t
segment_then a b = record {
  block = b.block ∙ a.block;
  all = b.all ∙ a.all;
  bad = let x = a.bad in let y = b.bad in omega (arith, x, y);
  kept = b.kept ∙ a.kept;
}

segment_same : (s : Space) → SameSegment s s
segment_same s = record { block = refl; all = refl; bad = omega arith; kept = refl }

moved_segment : (s m : Space) → HasMoved s m → SameSegment s m × (m.live ≡ s.live)
moved_segment s m (inl same) = (subst (λ (x : Space). SameSegment s x) (sym same) (segment_same s), ap (λ (x : Space). x.live) same)
moved_segment s m (inr moves) = (moves.same, moves.live)

pub cleans_segment : (answer : Cleaned) (s t : Space) → CleansVictim answer s t → SameSegment s t × (t.live ≡ s.live)
cleans_segment Done s t c = let m = moved_segment s c.0 c.1 in (segment_then m.0 c.2.same, c.2.live ∙ m.1)
cleans_segment Nothing s t c = (subst (λ (x : Space). SameSegment s x) (sym c.2) (segment_same s), ap (λ (x : Space). x.live) c.2)
cleans_segment (Lost w f) s t c = (c.same, c.live)
cleans_segment Fault s t c = (c.same, c.live)

-- ---- pages that are carried

module _ {D : Type 0} (g : Ghosts D) (v w : Core D) (others : w ≡ record v { device = w.device; stopped = w.stopped }) (core : IsCore g v) (volume : IsVolumeShape (g.shape v.device)) (writes : v.stopped ≡ 0)
    (stopped : w.stopped ≡ stopped_on g (g.write_faults v.device) v w) (reads : g.read_faults v.device ≤ g.read_faults w.device) (fails : g.write_faults v.device ≤ g.write_faults w.device)
    (k : KeepsHeld g v.device w.device) (segment : SameSegment (names_of g v).space (names_of g w).space) (live : (names_of g w).space.live ≡ (names_of g v).space.live)
    (map : g.tells → StoresMap g v.device) (stores : g.tells → StoresPages g w.device)
    (lands : NoWriteFailed g v.device w.device → CanLand (names_of g w).space) (agrees : g.tells → NoWriteFailed g v.device w.device → KeepsStored (stored g v.device) (stored g w.device)) where
  abbrev pub now : Core D
  now = record v { device = w.device; stopped = w.stopped }

  stands : PreservesGraph g v.device v.meta w.device v.journal v.meta
  stands = addresses_stand g v.device w.device v.journal v.meta volume core.journaled k.virtual

  not_failed : w.stopped ≡ 0 → NoWriteFailed g v.device w.device
  not_failed = none_failed_on g v w stopped reads fails

  marked : HandledUpTo (names_of g w) (begun_of v + 1)
  marked c n has at = ⊎_elim
      (λ old. core.marked c n old (sym (k.pages.pending c old).1 ∙ at))
      (λ new. absurd (none_some n (sym new.0 ∙ at))) (k.pages.posted c has)

  space_now : HasSpace g now
  space_now =
      let s = core.space in
      let counted = s.counted in
      let few = s.few in
      let before = s.all in
      let kept = segment.kept in
      let block = segment.block in
      let all = segment.all in
      let l = live in
      let running = ap length (same_running g v now k.virtual.same_shape volume stands.needed) in
      let cap = ap (λ (h : Shape). h.cap) k.virtual.same_shape in
      let products : ((names_of g v).space.keep + (names_of g v).space.bad + 3) * (names_of g v).space.block ≡ ((names_of g w).space.keep + (names_of g w).space.bad + 3) * (names_of g w).space.block =
      ap (λ n. (n + 3) * (names_of g v).space.block) (sym kept) ∙ ap (λ n. ((names_of g w).space.keep + (names_of g w).space.bad + 3) * n) (sym block) in
      record {
        counted = omega (arith, counted, l, running);
        few = omega (arith, running, few, cap);
        all = omega (arith, all, before, products, cap);
        room = subst (λ (h : Shape). h.pblocks * h.pages ≤ length v.freeing.items + v.freeing.room) (sym k.virtual.same_shape) s.room;
      }

  pub carried_core : g.formed w.device → IsCore g w
  carried_core formed = subst (λ (x : Core D). IsCore g x) (sym others) (record {
    formed = formed;
    shape = core.shape ∙ sym k.virtual.same_shape;
    journaled = stands.journaled;
    free = has_free_on g v now k.virtual.same_shape volume stands.needed refl core.free;
    held = cleaning_keeps_held g v.device w.device v.journal v.meta (carried v.flight) v.freeing.items _ volume core.journaled core.held k.virtual k.pages.holders;
    counts = counts_as v now core.counts refl refl refl refl refl refl;
    flight = core.flight;
    named = λ x has. subst (λ (h : Shape). IsPhysical h x.1.name) (sym k.virtual.same_shape) (core.named x has);
    stamped = core.stamped;
    space = space_now;
    marked = marked;
    moment = let a = core.moment in let b = k.clock in omega (arith, a, b);
    writes = λ none. let c = core.writes writes in record {
      spare = k.virtual.spare c.spare;
      lands = lands (not_failed none);
      firm = λ told. stored_keeps_firm g v.device w.device told.0 (c.firm told) k.virtual (agrees told.0 (not_failed none)).same_virtual (agrees told.0 (not_failed none)).agree (stores told.0);
      counts = below_end (g.write_faults v.device) (g.write_faults w.device) (not_failed none);
    };
  })

  -- what a stop leaves
  leaves_holding : (page_of_stamp : ℕ → Option PageOfStamp) (t : Trees) → CoreRepresents g v page_of_stamp t → CoreIsObservable g w → (c : Stored) → LeavesHeld (g.shape v.device) (names_of g v) (g.bytes v.device) (stored g v.device) c
      → LeavesHolding g v.device page_of_stamp c
  leaves_holding page_of_stamp t at told c left =
      let told_v = told_before told in
      record {
        same_virtual = left.stored.same_virtual;
        agree = left.stored.agree ((core.writes writes).firm told_v).agree;
        moved = left.moved;
        contents = left.contents;
        keeps = λ x is. subst (λ (n : Names). PreservesHolding (record x { names = n }) (record x { names = left.moved })) (sym is) (left.carries.holders x);
        shows = λ q page is.
            let old = left.carries.was_live q page is in
            at.runs.shows old.0 page old.1 ∙ ap (λ bytes. Some (record { tag = page.tag; bytes = bytes })) (sym old.2);
        pages = left.pages;
      }
    where
      told_before : CoreIsObservable g w → IsHeldTold g v.journal v.meta
      told_before told = (told.tells, subst (λ (x : Core D). HasNumber x.journal (length x.meta.frozen.addresses)) others told.numbers)

  told_held : CoreIsObservable g w → HasNumber v.journal (length v.meta.frozen.addresses)
  told_held told = subst (λ (x : Core D). HasNumber x.journal (length x.meta.frozen.addresses)) others told.numbers

  runs_now : g.tells → (page_of_stamp : ℕ → Option PageOfStamp) (tree : Tree) → CoreRepresentsTree g v page_of_stamp tree → CoreRepresentsTree g now page_of_stamp tree
  runs_now tells page_of_stamp tree at =
      (runs_on g v now page_of_stamp tree at k.virtual.same_shape stands.needed
      (record { live = λ q page is. let old = k.pages.was_live q page is in (old.0, old.1, old.2 tells); stamps = let same = k.next_stamp in omega (arith, same) }))

  goes_to : CoreIsObservable g w → (page_of_stamp : ℕ → Option PageOfStamp) (t : Trees) → CoreRepresents g v page_of_stamp t → PreservesTrees g v w page_of_stamp t
  goes_to told page_of_stamp t at = subst (λ (x : Core D). PreservesTrees g v x page_of_stamp t) (sym others)
      (goes_as g v now page_of_stamp t (with_none g now page_of_stamp t.running (runs_now told.tells page_of_stamp t.running at.runs))
      (addresses_go g v.device w.device v.journal v.meta v.count page_of_stamp t volume told.tells (told_held told) core.journaled k.virtual at.stands) at.committed at.frozen)

  leaves_to : CoreIsObservable g w → (page_of_stamp : ℕ → Option PageOfStamp) (t : Trees) (y : Prefix) → y.0 ≡ w.committed → CoreRepresents g v page_of_stamp t → CrashStatesHave g (OpensFrom (g.shape v.device) v.count w.moment t y) v.device w.device
  leaves_to told page_of_stamp t y is at =
      let l = k.left told.tells in
      record {
        later = l.later;
        each = λ m c left. ⊎_elim inl
            (λ x. inr (
              x.0,
              x.1,
              (
                t.committed,
                inl refl,
                holding_opens g v.device v.journal v.meta v.count page_of_stamp t (carried v.flight) v.freeing.items (g.stored_of c) _ volume told.tells (told_held told) core.held
                    ((core.writes writes).firm (told.tells, told_held told)) (map told.tells) at.stands (leaves_holding page_of_stamp t at told (g.stored_of c) x.2),
                λ after. let same = at.committed in let kept = ap (λ (z : Core D). z.committed) others in omega (arith, is, kept, same),
              ),
            ))
            (l.each m c left);
      }

  pub carried_goes : PreservesVolume g 0 v w
  carried_goes = record {
    same_shape = k.virtual.same_shape;
    count = ap (λ (z : Core D). z.count) others;
    nodes = record { generation = λ n. ap (λ (x : Graph). (x n).generation) graph; body = λ n. ap (λ (x : Graph). nameless_body (x n).body) graph };
    numbers = subst (λ (x : Core D). begun_of v ≤ begun_of x) (sym others) (omega arith);
    paid = paid_same (g.clock v.device) v.journal.number (g.clock w.device) w.journal.number k.clock (ap (λ (z : Core D). z.journal.number) others);
    reads = reads;
    writes = fails;
    moment = inl (ap (λ (z : Core D). z.moment) others, ap (λ (z : Core D). z.committed) others);
    onward = subst (λ (x : Core D). CommitsOnward v x) (sym others) (onward_as v now refl refl refl refl);
    clock = k.clock;
    stops = stops_on g v w stopped reads fails;
    stamps = record {
      never_falls = let n = k.next_stamp in omega (arith, n);
      at_most = let n = k.next_stamp in omega (arith, n);
      paid = λ low less. let n = k.next_stamp in let c = k.clock in let f = fails in omega (arith, n, c, f);
    };
    posted = k.pages.given;
    runs = λ tells page_of_stamp tree at. subst (λ (x : Core D). PreservesTree g x page_of_stamp tree) (sym others) (with_none g now page_of_stamp tree (runs_now tells page_of_stamp tree at));
    trees = goes_to;
    left = leaves_to;
  }
    where
      graph : graph_of (g.shape w.device) (running_of g w) ≡ graph_of (g.shape v.device) (running_of g v)
      graph = ap (λ (x : Core D). graph_of (g.shape w.device) (running_on g w.device x.meta)) others ∙ stands.graph
