-- A core after a step of a file call is a core.
use Rattle.std.proofs.Common.{◌≡◌, ℕ, ◌+◌, ◌*◌, ◌<◌, ◌≤◌, List, length, Option, Some, None, refl, sym, ap, subst, ◌∙◌, arith}
use Rattle.nl_field.specs.CrashStates.{top}
use Rattle.nl_field.specs.declared.shape.Shape.{Shape}
use Rattle.nl_field.specs.PointerItems.{PointerItems}
use Rattle.nl_flight.specs.Flight.{InFlight, IsFlight, carried}
use Rattle.nl_spec_holders.specs.Holding.{HandledUpTo}
use Rattle.nl_iface.specs.Calls.{KeepsMedium, StoresPages}
use Rattle.nl_iface.specs.Device.{IsVolumeShape}
use Rattle.nl_iface.specs.Names.{Has, Names}
use Rattle.nl_iface.specs.Space.{CanLand}
use Rattle.nl_iface.specs.declared.counts.Counts.{Ghosts}
use Rattle.nl_iface.proofs.Stops.{keeps_leave, reads_then}
use Rattle.nl_journal.specs.Committing.{committed_on, finished}
use Rattle.nl_journal.specs.Progress.{HasNumber, Progress, begun}
use Rattle.nl_meta.specs.Consistent.{PageOfStamp}
use Rattle.nl_meta.specs.Pages.{Frozen, Pages}
use Rattle.nl_meta.proofs.PageProofs.{both, loaded}
use Rattle.nl_meta_running.specs.Reading.{ReadsExplainStop}
use Rattle.nl_meta_running.specs.Running.{PreservesRunning}
use Rattle.nl_meta_running.specs.declared.answer.Stop.{Stop}
use Rattle.nl_meta_running.specs.declared.answer.Stop.TheVariants as stop
use Rattle.nl_meta_running.proofs.Holds.{bounds-of}
use Rattle.nl_meta_running.proofs.Kept.{loads-on, runs-then}
use Rattle.nl_tree.specs.Tree.{Tree}
use Rattle.nl_journal_commit.specs.Completing.{AwaitsCommitPage}
use Rattle.nl_spec_commits.specs.Held.{IsHeldVolume}
use Rattle.nl_spec_commits.specs.TreeLaws.{OpensFrom}
use Rattle.nl_spec_commits.specs.Trees.{RepresentsTree, RepresentsPrefix, RepresentsTrees, Trees}
use Rattle.nl_spec_commits.proofs.Changing.{steps_journaled}
use Rattle.nl_spec_commits.proofs.DeviceTrees.{addresses_go}
use Rattle.nl_spec_commits.proofs.Firm.{medium_keeps_firm}
use Rattle.nl_spec_commits.proofs.Replacing.{reading_keeps_held}
use Rattle.nl_spec_commits.proofs.Trees.{runs_alike}
use Rattle.nl_core.specs.Core.{HasSpace, IsCore, IsPhysical, begun_of, names_of, running_of}
use Rattle.nl_core.specs.Trees.{CoreRepresentsTree, CoreRepresents, CoreIsObservable}
use Rattle.nl_core.specs.declared.state.Core.{Core}
use Rattle.nl_core.proofs.Counts.{counts_as}
use Rattle.nl_core.proofs.Running.{runs_with}
use Rattle.nl_core.proofs.Written.{has_free_on, same_running}
use Rattle.nl_calls_steps.specs.Steps.{IsHeldAfter, ReadAlike, ReadsAreAlike, ReadsOn, Steps, StepsAreCores, StepsGo, StepsLeave, StepsRun, StepsThen}

pub steps_run : {D : Type 0} (g : Ghosts D) → StepsRun g
steps_run g old new page_of_stamp was tree tells step at runs = runs_with g old new page_of_stamp was at
    (record {
      live = λ q page is. (q, sym (ap (λ (m : Names). m.live q) step.reads.names) ∙ is, step.reads.medium.bytes tells q);
      stamps = let same = step.reads.medium.next_stamp in omega (arith, same);
    })
    tree runs

module _ {D : Type 0} (g : Ghosts D) (v w : Core D) (core : IsCore g v) (volume : IsVolumeShape (g.shape v.device)) (step : Steps g v w) where
  kept : KeepsMedium g v.device w.device
  kept = step.reads.medium

  pub same_shape : g.shape w.device ≡ g.shape v.device
  same_shape = kept.virtual.same_shape

  -- the core with what changed
  abbrev stepped : Core D
  stepped = record v { device = w.device; meta = w.meta; nodes = w.nodes; flight = w.flight; freeing = w.freeing }

  begun_stays : begun v.journal (length w.meta.frozen.addresses) ≡ begun_of v
  begun_stays = ap (λ (f : Frozen). begun v.journal (length f.addresses)) step.pages.same_frozen

  marked_on : HandledUpTo (names_of g w) (begun v.journal (length w.meta.frozen.addresses) + 1)
  marked_on c n has at =
      let low = core.marked c n (subst (λ (m : Names). Has m.pending c) step.reads.names has) (ap (λ (m : Names). m.handled c.number) (sym step.reads.names) ∙ at) in
      let is = begun_stays in
      omega (arith, low, is)

  -- ---- it is a core

  module _ (h : IsHeldAfter g v w) (formed : g.formed w.device) (stores : g.tells → StoresPages g w.device) where
    space_on : HasSpace g stepped
    space_on =
        let s = core.space in
        let live = ap (λ (m : Names). m.space.live) step.reads.names in
        let all = ap (λ (m : Names). m.space.all) step.reads.names in
        let block = ap (λ (m : Names). (m.space.keep + m.space.bad + 3) * m.space.block) step.reads.names in
        let cap = ap (λ (k : Shape). k.cap) same_shape in
        let counted = s.counted in
        let same = h.as_many in
        record {
          counted = omega (arith, live, counted, same);
          few = let most = h.few in omega (arith, most, cap);
          all = let before = s.all in omega (arith, all, before, block, cap);
          room = subst (λ (k : Shape). k.pblocks * k.pages ≤ length w.freeing.items + w.freeing.room) (sym same_shape) (let r = s.room in let more = step.room in omega (arith, r, more));
        }

    pub stepped_core : IsCore g w
    stepped_core = subst (λ (x : Core D). IsCore g x) (sym step.others) (record {
      formed = formed;
      shape = core.shape ∙ sym same_shape;
      journaled = steps_journaled g v.device w.device v.journal v.meta w.meta volume core.journaled kept.virtual step.pages h.runs;
      free = record { count_nodes = h.free.count_nodes; count_pool = h.free.count_pool; nodes = h.free.nodes; pool = h.free.pool };
      held = h.held;
      counts = counts_as v stepped core.counts refl refl refl refl refl step.pages.same_frozen;
      flight = h.flight;
      named = λ x has. subst (λ (k : Shape). IsPhysical k x.1.name) (sym same_shape) (core.named x (h.fewer x has));
      stamped = λ x has. core.stamped x (h.fewer x has);
      space = space_on;
      marked = marked_on;
      moment = subst (λ n. v.moment ≤ n) (sym kept.clock) core.moment;
      writes = λ none. let c = core.writes none in record {
        spare = kept.virtual.spare c.spare;
        lands = subst (λ (m : Names). CanLand m.space) (sym step.reads.names) c.lands;
        firm = λ told. medium_keeps_firm g v.device w.device told.0 (c.firm (told.0, subst (λ (f : Frozen). HasNumber v.journal (length f.addresses)) step.pages.same_frozen told.1)) kept (stores told.0);
        counts = subst (λ n. n < top) (sym kept.write_faults) c.counts;
      };
    })

  -- ---- for which trees it stands

  module _ (page_of_stamp : ℕ → Option PageOfStamp) (t : Trees) (tree : Tree) (runs : RepresentsTree (g.shape w.device) (running_of g w) page_of_stamp tree) where
    stands_on : g.tells → HasNumber v.journal (length v.meta.frozen.addresses) → RepresentsTrees g v.device v.journal v.meta v.count page_of_stamp t
        → RepresentsTrees g w.device v.journal w.meta v.count page_of_stamp (record { committed = t.committed; frozen = t.frozen; running = tree })
    stands_on tells numbers at =
        let on = addresses_go g v.device w.device v.journal v.meta v.count page_of_stamp t volume tells numbers core.journaled kept.virtual at in
        let frozen = sym step.pages.same_frozen in
        record {
          running = runs;
          committed = on.committed;
          frozen = subst (λ (f : Frozen). AwaitsCommitPage v.journal f → RepresentsPrefix (g.shape w.device) (finished v.journal.phase f (committed_on g w.device)) page_of_stamp t.frozen) frozen on.frozen;
          thawed = subst (λ (f : Frozen). (AwaitsCommitPage v.journal f → ⊥) → t.frozen ≡ t.committed) frozen on.thawed;
          later = on.later;
          latest = on.latest;
        }

    pub stands_after : CoreIsObservable g w → CoreRepresents g v page_of_stamp t → CoreRepresents g w page_of_stamp (record { committed = t.committed; frozen = t.frozen; running = tree })
    stands_after told at = subst (λ (x : Core D). CoreRepresents g x page_of_stamp (record { committed = t.committed; frozen = t.frozen; running = tree })) (sym step.others) (record {
      stands = stands_on told.tells (numbers_before (ap (λ (x : Core D). x.journal) step.others)) at.stands;
      runs = subst (λ (x : Core D). CoreRepresentsTree g x page_of_stamp tree) step.others (steps_run g v w page_of_stamp t.running tree told.tells step at.runs runs);
      committed = at.committed;
      frozen = at.frozen;
    })
      where
        numbers_before : w.journal ≡ v.journal → HasNumber v.journal (length v.meta.frozen.addresses)
        numbers_before same = subst (λ (f : Frozen). HasNumber v.journal (length f.addresses)) step.pages.same_frozen (subst (λ (q : Progress). HasNumber q (length w.meta.frozen.addresses)) same told.numbers)

pub steps_are_cores : {D : Type 0} (g : Ghosts D) → StepsAreCores g
steps_are_cores g old new volume formed stores core step h = stepped_core g old new core volume step h formed stores

pub steps_go : {D : Type 0} (g : Ghosts D) → StepsGo g
steps_go g old new page_of_stamp t tree volume core step told at runs = stands_after g old new core volume step page_of_stamp t tree runs told at

pub steps_leave : {D : Type 0} (g : Ghosts D) → StepsLeave g
steps_leave g old new t y tells step = keeps_leave g (OpensFrom (g.shape old.device) old.count new.moment t y) old.device new.device tells step.reads.medium

pub steps_then : {D : Type 0} (g : Ghosts D) → StepsThen g
steps_then {D} g a b c k l = record {
  reads = reads_then g a.device b.device c.device k.reads l.reads;
  read_faults = let m = k.read_faults in let n = l.read_faults in omega (arith, m, n);
  pages = both a.meta b.meta c.meta k.pages l.pages;
  room = let m = k.room in let n = l.room in omega (arith, m, n);
  others = l.others ∙ ap (λ (x : Core D). record x { device = c.device; meta = c.meta; nodes = c.nodes; flight = c.flight; freeing = c.freeing }) k.others;
}

-- ---- pages are only read

module _ {D : Type 0} (g : Ghosts D) (v w : Core D) (volume : IsVolumeShape (g.shape v.device)) (formed : g.formed w.device) (stores : g.tells → StoresPages g w.device) (r : ReadsOn g v w) where
  read_shape : g.shape w.device ≡ g.shape v.device
  read_shape = r.runs.reads.medium.virtual.same_shape

  read_step : Steps g v w
  read_step = record {
    reads = r.runs.reads;
    read_faults = r.read_faults;
    pages = loaded v.meta w.meta (loads-on g v.device v.meta w.device w.meta r.runs);
    room = let same = ap (λ (x : Core D). length x.freeing.items + x.freeing.room) r.others in omega (arith, same);
    others = r.others ∙ again (ap (λ (x : Core D). x.nodes) r.others) (ap (λ (x : Core D). x.flight) r.others) (ap (λ (x : Core D). x.freeing) r.others);
  }
    where
      again : w.nodes ≡ v.nodes → w.flight ≡ v.flight → w.freeing ≡ v.freeing
          → record v { device = w.device; meta = w.meta } ≡ record v { device = w.device; meta = w.meta; nodes = w.nodes; flight = w.flight; freeing = w.freeing }
      again nodes flight freeing = λ i. record v { device = w.device; meta = w.meta; nodes = sym nodes i; flight = sym flight i; freeing = sym freeing i }

  module _ (core : IsCore g v) where
    read_held : IsHeldAfter g v w
    read_held =
        let flight = ap (λ (x : Core D). x.flight) r.others in
        let freeing = ap (λ (x : Core D). x.freeing) r.others in
        let running = ap length (same_running g v w read_shape volume r.runs.needed) in
        let fly = ap (λ (f : List InFlight). length (carried f)) flight in
        let free_ = ap (λ (f : PointerItems). length f.items) freeing in
        record {
          runs = runs-then g v.device v.meta w.device w.meta (bounds-of (g.shape v.device) volume) r.runs core.journaled.runs;
          free = has_free_on g v w read_shape volume r.runs.needed (ap (λ (x : Core D). x.nodes) r.others) core.free;
          held = subst (λ (f : List InFlight). IsHeldVolume g w.device v.journal w.meta (carried f) w.freeing.items v.leaving) (sym flight)
              (subst (λ (f : PointerItems). IsHeldVolume g w.device v.journal w.meta (carried v.flight) f.items v.leaving) (sym freeing)
              (reading_keeps_held g v.device w.device v.journal v.meta w.meta (carried v.flight) v.freeing.items _ volume core.journaled core.held r.runs));
          as_many = omega (arith, running, fly, free_);
          few = let most = core.space.few in omega (arith, running, most);
          flight = subst IsFlight (sym flight) core.flight;
          fewer = λ x has. subst (λ (f : List InFlight). Has (carried f) x) flight has;
        }

    read_core : IsCore g w
    read_core = stepped_core g v w core volume read_step read_held formed stores

  pub read_alike : ReadAlike g v w
  read_alike = record {
    core = read_core;
    steps = read_step;
    trees = λ page_of_stamp tree runs. subst (λ (h : Shape). RepresentsTree h (running_of g w) page_of_stamp tree) (sym read_shape)
        (runs_alike (g.shape v.device) (running_of g v) (running_of g w) page_of_stamp tree r.runs.needed runs);
  }

pub reads_are_alike : {D : Type 0} (g : Ghosts D) → ReadsAreAlike g
reads_are_alike g old new volume formed stores r = read_alike g old new volume formed stores r

-- reads that failed, or none
pub reads_rise : {D : Type 0} (g : Ghosts D) (s t : D) (o : Option Stop) → ReadsExplainStop g s t o → g.read_faults s ≤ g.read_faults t
reads_rise g s t None r = omega (arith, r)
reads_rise g s t (Some stop.Fault) r = r.never_falls
reads_rise g s t (Some (stop.Lost w f)) r = let same = r.0 in omega (arith, same)

-- a core of which pages were read
pub read_on : {D : Type 0} (g : Ghosts D) (v : Core D) (d : D) (pages : Pages) → PreservesRunning g v.device v.meta d pages → g.read_faults v.device ≤ g.read_faults d → ReadsOn g v (record v { device = d; meta = pages })
read_on g v d pages runs faults = record { runs = runs; read_faults = faults; others = refl }

pub core_read : {D : Type 0} (g : Ghosts D) (v : Core D) (d : D) (pages : Pages) → IsVolumeShape (g.shape v.device) → g.formed d → (g.tells → StoresPages g d) → IsCore g v → PreservesRunning g v.device v.meta d pages
    → g.read_faults v.device ≤ g.read_faults d → IsCore g (record v { device = d; meta = pages })
core_read g v d pages volume formed stores core runs faults = (read_alike g v (record v { device = d; meta = pages }) volume formed stores (read_on g v d pages runs faults)).core core
