-- A core stands on once the callback of a number was tried: names of pages changed at most, and the medium was only read.
use Rattle.std.proofs.Common.{◌≡◌, inl, inr, ⊎_elim, ℕ, zero, suc, ◌+◌, ◌-◌, ◌*◌, ◌<◌, ◌≤◌, List, [], ◌∷◌, ◌++◌, map, length, Option, Some, None, option_and_then, refl, sym, ap, subst, ◌∙◌, arith}
use Rattle.std.specs.List.{fold, sum_by}
use Rattle.std.proofs.lemmas.List.{length-append, length-map, map-append}
use Rattle.std.specs.Prelude.{IsTrue}
use Rattle.nl_field.specs.CrashStates.{top}
use Rattle.nl_field.specs.Spelling.{is_stamp}
use Rattle.nl_field.specs.declared.pointer.Pointer.{Pointer}
use Rattle.nl_field.specs.declared.pointer.Tag.{Tag}
use Rattle.nl_field.specs.declared.shape.Shape.{Shape}
use Rattle.nl_core_callbacks.specs.Blocked.{drained_stop}
use Rattle.nl_core_callbacks.specs.Handled.{SameButNames, nameless, nameless_line}
use Rattle.nl_core_callbacks.specs.Laws.{TreesStay}
use Rattle.nl_core_callbacks.specs.declared.draining.Drained.{Drained}
use Rattle.nl_core_callbacks.specs.declared.draining.Drained.TheVariants as drained
use Rattle.nl_flight.specs.Flight.{InFlight, IsFlight, carried, extra, of_worker}
use Rattle.nl_flight.specs.declared.page.FlightPage.{FlightPage}
use Rattle.nl_spec_holders.specs.Holding.{HandledUpTo}
use Rattle.nl_iface.specs.Calls.{KeepsMedium, StoresPages}
use Rattle.nl_iface.specs.Device.{IsVolumeShape}
use Rattle.nl_iface.specs.Holders.{IsRef, always, wants_tagged}
use Rattle.nl_iface.specs.Names.{Has, IsNames, IsTableOfNames, Names, led, told_page}
use Rattle.nl_iface.specs.Space.{CanLand, Space}
use Rattle.nl_iface.specs.declared.Callback.{Callback}
use Rattle.nl_iface.specs.declared.counts.Counts.{Ghosts}
use Rattle.nl_journal.specs.Committing.{committed_on, finished}
use Rattle.nl_journal.specs.Progress.{HasNumber, begun}
use Rattle.nl_meta.specs.Consistent.{PageOfStamp}
use Rattle.nl_meta.specs.Nodes.{graph_of}
use Rattle.nl_meta.specs.Pages.{Frozen}
use Rattle.nl_meta.specs.PointerLists.{tagged_in}
use Rattle.nl_meta.proofs.Lists.{some_in}
use Rattle.nl_meta_running.specs.Reading.{ReadsExplainStop}
use Rattle.nl_meta_running.specs.declared.answer.Stop.{Stop}
use Rattle.nl_meta_running.specs.declared.answer.Stop.TheVariants as stop
use Rattle.nl_journal_commit.specs.Completing.{AwaitsCommitPage}
use Rattle.nl_journal_commit.specs.Holding.{running_holders}
use Rattle.nl_spec_commits.specs.Held.{IsHeldVolume}
use Rattle.nl_spec_commits.specs.Trees.{RepresentsTree, RepresentsPrefix, RepresentsTrees, Trees}
use Rattle.nl_tree.specs.Tree.{Tree}
use Rattle.nl_spec_commits.proofs.Changing.{steps_journaled}
use Rattle.nl_spec_commits.proofs.DeviceTrees.{addresses_go}
use Rattle.nl_spec_commits.proofs.Firm.{medium_keeps_firm}
use Rattle.nl_spec_commits.proofs.Steps.{handling_keeps_held}
use Rattle.nl_core.specs.Calls.{FailureIsCounted}
use Rattle.nl_core.specs.Core.{FreeAreUnused, HasSpace, IsCore, IsPhysical, begun_of, names_of, running_of}
use Rattle.nl_core.specs.Goes.{PreservesVolume, TurnsReadOnly}
use Rattle.nl_core.specs.Handling.{TriesNumber}
use Rattle.nl_core.specs.Trees.{CoreRepresentsTree, CoreIsObservable}
use Rattle.nl_core.specs.declared.state.Core.{Core}
use Rattle.nl_core.proofs.Renamed.{Leads, as_many, runs_renamed}
use Rattle.nl_core.proofs.Counts.{counts_as, onward_as}
use Rattle.nl_core.proofs.Running.{goes_as, runs_with, with_none}

-- ---- lines in flight that are the same but for names

abbrev placed : FlightPage → Tag × Pointer
placed page = (page.tag, page.at)

abbrev pub bare_page : FlightPage → FlightPage
bare_page page = record page { at = nameless page.at }

carried_bare : (flight : List InFlight) → length (carried (map nameless_line flight)) ≡ length (carried flight)
unfolding carried
carried_bare [] = refl
carried_bare (x ∷ xs) =
    let same : length (map placed (map bare_page x.pages)) ≡ length (map placed x.pages) =
    length-map (map bare_page x.pages) placed ∙ length-map x.pages bare_page ∙ sym (length-map x.pages placed) in
    length-append (map placed (map bare_page x.pages)) (carried (map nameless_line xs))
    ∙ (λ i. same i + carried_bare xs i)
    ∙ sym (length-append (map placed x.pages) (carried xs))

abbrev bare : Tag × Pointer → Tag × Pointer
bare x = (x.0, nameless x.1)

pages_seen : (pages : List FlightPage) → map bare (map placed pages) ≡ map placed (map bare_page pages)
pages_seen [] = refl
pages_seen (x ∷ xs) = ap (λ (ys : List (Tag × Pointer)). bare (placed x) ∷ ys) (pages_seen xs)

carried_seen : (flight : List InFlight) → map bare (carried flight) ≡ carried (map nameless_line flight)
unfolding carried
carried_seen [] = refl
carried_seen (x ∷ xs) = map-append bare (map placed x.pages) (carried xs) ∙ (λ i. pages_seen x.pages i ++ carried_seen xs i)

has_seen : {X Y : Type 0} (f : X → Y) (xs : List X) (x : X) → Has xs x → Has (map f xs) (f x)
has_seen f [] x has = absurd has
has_seen f (y ∷ xs) x (inl e) = inl (ap f e)
has_seen f (y ∷ xs) x (inr has) = inr (has_seen f xs x has)

seen_has : {X Y : Type 0} (f : X → Y) (xs : List X) (y : Y) → Has (map f xs) y → (x : X) × Has xs x × (f x ≡ y)
seen_has f [] y has = absurd has
seen_has f (x ∷ xs) y (inl e) = (x, inl refl, e)
seen_has f (x ∷ xs) y (inr has) = let k = seen_has f xs y has in (k.0, inr k.1, k.2)

extra_from : (flight : List InFlight) (n : ℕ) → fold (λ (a : ℕ) (x : InFlight). a + extra x) n (map nameless_line flight) ≡ fold (λ (a : ℕ) (x : InFlight). a + extra x) n flight
extra_from [] n = refl
extra_from (x ∷ xs) n =
    ap (λ k. fold (λ (a : ℕ) (y : InFlight). a + extra y) (n + (k - 16)) (map nameless_line xs)) (length-map x.pages bare_page)
    ∙ extra_from xs (n + extra x)

pub extra_bare : (flight : List InFlight) → sum_by extra (map nameless_line flight) ≡ sum_by extra flight
extra_bare flight = extra_from flight 0

worker_bare : (flight : List InFlight) (worker : ℕ) → of_worker (map nameless_line flight) worker ≡ nameless_line (of_worker flight worker)
worker_bare [] worker = refl
worker_bare (x ∷ xs) zero = refl
worker_bare (x ∷ xs) (suc worker) = worker_bare xs worker

none_mapped : {X Y : Type 0} (f : X → Y) (xs : List X) → map f xs ≡ [] → xs ≡ []
none_mapped f [] is = refl
none_mapped f (x ∷ xs) is = absurd (let no : ⊥ = cc in no)

module _ (old new : List InFlight) (same : map nameless_line new ≡ map nameless_line old) where
  as_many_carried : length (carried new) ≡ length (carried old)
  as_many_carried = sym (carried_bare new) ∙ ap (λ (f : List InFlight). length (carried f)) same ∙ carried_bare old

  pub same_line : (worker : ℕ) → nameless_line (of_worker new worker) ≡ nameless_line (of_worker old worker)
  same_line worker = sym (worker_bare new worker) ∙ ap (λ (f : List InFlight). of_worker f worker) same ∙ worker_bare old worker

  -- the same write sequence numbers are in flight
  same_stamp : (x : Tag × Pointer) → Has (carried new) x → (y : Tag × Pointer) × Has (carried old) y × (y.1.stamp ≡ x.1.stamp)
  same_stamp x has =
      let there = subst (λ (xs : List (Tag × Pointer)). Has xs (bare x)) (carried_seen new ∙ (ap carried same ∙ sym (carried_seen old))) (has_seen bare (carried new) x has) in
      let k = seen_has bare (carried old) (bare x) there in
      (k.0, k.1, ap (λ (z : Tag × Pointer). z.1.stamp) k.2)

  flight_stays : IsFlight old → IsFlight new
  flight_stays f = record {
    eight = sym (length-map new nameless_line) ∙ ap length same ∙ length-map old nameless_line ∙ f.eight;
    places = subst (λ n. n ≤ 2) (sym (sym (extra_bare new) ∙ ap (λ (xs : List InFlight). sum_by extra xs) same ∙ extra_bare old)) f.places;
    idle = λ worker is.
        let k = f.idle worker (sym (ap (λ (x : InFlight). x.line) (same_line worker)) ∙ is) in (
          none_mapped bare_page (of_worker new worker).pages
              (ap (λ (x : InFlight). x.pages) (same_line worker) ∙ ap (λ (xs : List FlightPage). map bare_page xs) k.0),
          ap (λ (x : InFlight). x.goal) (same_line worker) ∙ k.1,
        );
  }

-- ---- reads

reads_rise : {D : Type 0} (g : Ghosts D) (s t : D) (o : Option Stop) → ReadsExplainStop g s t o → g.read_faults s ≤ g.read_faults t
reads_rise g s t None r = omega (arith, r)
reads_rise g s t (Some stop.Fault) r = r.never_falls
reads_rise g s t (Some (stop.Lost w f)) r = let same = r.0 in omega (arith, same)

-- ---- a core of which one callback was tried

module _ {D : Type 0} (g : Ghosts D) (v w : Core D) (mark number : ℕ) (answer : Option Drained) (b : TriesNumber g mark number v w answer) (core : IsCore g v) (volume : IsVolumeShape (g.shape v.device))
    (is : mark ≡ begun_of v + 1) (stores : g.tells → StoresPages g w.device) (trees_stay : TreesStay) (names : IsNames (g.shape v.device) (g.next_stamp v.device) (names_of g v)) (table : IsTableOfNames (names_of g v)) where
  kept : KeepsMedium g v.device w.device
  kept = b.handles.medium

  same_shape : g.shape w.device ≡ g.shape v.device
  same_shape = kept.virtual.same_shape

  reads_most : g.read_faults v.device ≤ g.read_faults w.device
  reads_most = reads_rise g v.device w.device (option_and_then drained_stop answer) b.reads

  writes_most : g.write_faults v.device ≤ g.write_faults w.device
  writes_most = let same = kept.write_faults in omega (arith, same)

  same_stopped : w.stopped ≡ v.stopped
  same_stopped = ap (λ (x : Core D). x.stopped) b.others

  ran : w.stopped ≡ 0 → v.stopped ≡ 0
  ran none = sym same_stopped ∙ none

  stops : TurnsReadOnly g v w
  stops = record {
    stands = λ off. same_stopped;
    none = λ none rose. let low = (core.writes (ran none)).counts in let same = kept.write_faults in omega (arith, low, same, rose);
    some = λ none later. absurd (later (same_stopped ∙ none));
  }

  held_on : IsHeldVolume g w.device v.journal w.meta (carried w.flight) w.freeing.items v.leaving
  held_on = handling_keeps_held g v.device w.device v.journal v.meta w.meta (carried v.flight) (carried w.flight) v.freeing.items w.freeing.items mark _ volume core.journaled core.held kept.virtual
      b.handles.pages.same_frozen (omega (arith, is)) (λ h later. b.handles.holders h later)

  same_names : SameButNames (graph_of (g.shape w.device) (running_of g v)) (graph_of (g.shape w.device) (running_of g w))
  same_names = subst (λ (h : Shape). SameButNames (graph_of h (running_of g v)) (graph_of (g.shape w.device) (running_of g w))) (sym same_shape) b.handles.nodes

  as_many_running : length (running_holders g w.device w.meta) ≡ length (running_holders g v.device v.meta)
  as_many_running = as_many (g.shape w.device) (running_of g v) (running_of g w) same_names ∙ ap (λ (h : Shape). length (tagged_in h (running_of g v))) same_shape

  begun_stays : begun v.journal (length w.meta.frozen.addresses) ≡ begun_of v
  begun_stays = ap (λ (f : Frozen). begun v.journal (length f.addresses)) b.handles.pages.same_frozen

  marked_on : HandledUpTo (names_of g w) (begun v.journal (length w.meta.frozen.addresses) + 1)
  marked_on c n has at = ⊎_elim
      (λ same.
      let low = core.marked c n (subst (λ (cs : List Callback). Has cs c) b.handles.marks.pending has) (sym same ∙ at) in
      let b_is = begun_stays in
      omega (arith, low, b_is))
      (λ new.
      let e : mark ≡ n = some_in mark n (sym new.1 ∙ at) in
      let b_is = begun_stays in
      omega (arith, e, is, b_is))
      (b.handles.marks.handled c.number)

  -- a page in flight that has another name has that of a live page
  named_on : (x : Tag × Pointer) → Has (carried w.flight) x → IsPhysical (g.shape v.device) x.1.name
  named_on x has = ⊎_elim (core.named x)
      (λ new.
      let c = new.0 in
      let live = table.called c new.1 in
      subst (IsPhysical (g.shape v.device)) (sym new.2) (names.from_first (led (names_of g v) c.before) (told_page c) live, names.to_last (led (names_of g v) c.before) (told_page c) live))
      (b.handles.names x has)

  free_on : FreeAreUnused g (record v { device = w.device; meta = w.meta; flight = w.flight; freeing = w.freeing })
  free_on = record {
    count_nodes = core.free.count_nodes ∙ ap (λ (h : Shape). h.nodes) (sym same_shape);
    count_pool = core.free.count_pool ∙ ap (λ (h : Shape). h.meta) (sym same_shape);
    nodes = b.handles.free.nodes v.nodes core.free.nodes;
    pool = b.handles.free.pool v.nodes core.free.pool;
  }

  space_on : HasSpace g (record v { device = w.device; meta = w.meta; flight = w.flight; freeing = w.freeing })
  space_on =
      let s = core.space in
      let same = b.handles.marks.space in
      let live = ap (λ (x : Space). x.live) same in
      let all = ap (λ (x : Space). x.all) same in
      let block = ap (λ (x : Space). (x.keep + x.bad + 3) * x.block) same in
      let running = as_many_running in
      let flight = as_many_carried v.flight w.flight b.handles.flight in
      let freeing = sym (length-map w.freeing.items nameless) ∙ ap length b.handles.freeing ∙ length-map v.freeing.items nameless in
      let rooms = b.room in
      let cap = ap (λ (h : Shape). h.cap) same_shape in
      let counted = s.counted in
      let few_files = s.few in
      record {
        counted = omega (arith, live, counted, running, flight, freeing);
        few = omega (arith, running, few_files, cap);
        all = let before = s.all in omega (arith, all, before, block, cap);
        room = subst (λ (h : Shape). h.pblocks * h.pages ≤ length w.freeing.items + w.freeing.room) (sym same_shape) (let r = s.room in omega (arith, r, freeing, rooms));
      }

  abbrev now : Core D
  now = record v { device = w.device; meta = w.meta; flight = w.flight; freeing = w.freeing }

  pub tried_core : g.formed w.device → IsCore g w
  tried_core formed = subst (λ (x : Core D). IsCore g x) (sym b.others) (record {
    formed = formed;
    shape = core.shape ∙ sym same_shape;
    journaled = steps_journaled g v.device w.device v.journal v.meta w.meta volume core.journaled kept.virtual b.handles.pages b.runs;
    free = free_on;
    held = held_on;
    counts = counts_as v now core.counts refl refl refl refl refl b.handles.pages.same_frozen;
    flight = flight_stays v.flight w.flight b.handles.flight core.flight;
    named = λ x has. subst (λ (h : Shape). IsPhysical h x.1.name) (sym same_shape) (named_on x has);
    stamped = λ x has. let k = same_stamp v.flight w.flight b.handles.flight x has in subst (λ n. IsTrue (is_stamp n)) k.2 (core.stamped k.0 k.1);
    space = space_on;
    marked = marked_on;
    moment = subst (λ n. v.moment ≤ n) (sym kept.clock) core.moment;
    writes = λ none. let c = core.writes none in record {
      spare = kept.virtual.spare c.spare;
      lands = subst (λ (s : Space). CanLand s) (sym b.handles.marks.space) c.lands;
      firm = λ told. medium_keeps_firm g v.device w.device told.0 (c.firm (told.0, subst (λ (f : Frozen). HasNumber v.journal (length f.addresses)) b.handles.pages.same_frozen told.1)) kept (stores told.0);
      counts = subst (λ n. n < top) (sym kept.write_faults) c.counts;
    };
  })

  -- ---- how it went on

  leads_on : Leads (g.shape w.device) (running_of g v) (running_of g w) same_names (names_of g w)
  leads_on =
      let h = held_on in
      record {
        right = record { nodes = b.runs.nodes; addresses = b.runs.addresses; entries = b.runs.entries };
        leads = λ x has. subst (λ (n : Names). IsRef n always (wants_tagged x) x.1.name) h.is_of.runs.names
            (h.holds.held.running x (subst (λ (xs : List (Tag × Pointer)). Has xs x) (sym h.is_of.runs.running) has));
      }

  renamed_as : (page_of_stamp : ℕ → Option PageOfStamp) (tree : Tree) → RepresentsTree (g.shape v.device) (running_of g v) page_of_stamp tree → RepresentsTree (g.shape w.device) (running_of g w) page_of_stamp tree
  renamed_as page_of_stamp tree at = runs_renamed (g.shape w.device) (running_of g v) (running_of g w) same_names page_of_stamp (names_of g w) leads_on trees_stay tree
      (subst (λ (h : Shape). RepresentsTree h (running_of g v) page_of_stamp tree) (sym same_shape) at)

  runs_now : g.tells → (page_of_stamp : ℕ → Option PageOfStamp) (tree : Tree) → CoreRepresentsTree g v page_of_stamp tree → CoreRepresentsTree g now page_of_stamp tree
  runs_now tells page_of_stamp tree at =
      (runs_with g v now page_of_stamp tree at
      (record { live = λ q page is. (q, sym (b.handles.marks.live q) ∙ is, kept.bytes tells q); stamps = let same = kept.next_stamp in omega (arith, same) })
      tree (renamed_as page_of_stamp tree at.runs))

  stands_on : (page_of_stamp : ℕ → Option PageOfStamp) (t : Trees) → g.tells → HasNumber v.journal (length v.meta.frozen.addresses) → RepresentsTrees g v.device v.journal v.meta v.count page_of_stamp t
      → RepresentsTrees g w.device v.journal w.meta v.count page_of_stamp t
  stands_on page_of_stamp t tells numbers at =
      let on = addresses_go g v.device w.device v.journal v.meta v.count page_of_stamp t volume tells numbers core.journaled kept.virtual at in
      let frozen = sym b.handles.pages.same_frozen in
      record {
        running = renamed_as page_of_stamp t.running at.running;
        committed = on.committed;
        frozen = subst (λ (f : Frozen). AwaitsCommitPage v.journal f → RepresentsPrefix (g.shape w.device) (finished v.journal.phase f (committed_on g w.device)) page_of_stamp t.frozen) frozen on.frozen;
        thawed = subst (λ (f : Frozen). (AwaitsCommitPage v.journal f → ⊥) → t.frozen ≡ t.committed) frozen on.thawed;
        later = on.later;
        latest = on.latest;
      }

  told_before : CoreIsObservable g now → HasNumber v.journal (length v.meta.frozen.addresses)
  told_before told = subst (λ (f : Frozen). HasNumber v.journal (length f.addresses)) b.handles.pages.same_frozen told.numbers

  pub tried_goes : PreservesVolume g 0 v w
  tried_goes = subst (λ (x : Core D). PreservesVolume g 0 v x) (sym b.others) (record {
    same_shape = same_shape;
    count = refl;
    nodes = b.handles.nodes;
    numbers = let same = begun_stays in omega (arith, same);
    paid = λ low. let same = kept.clock in omega (arith, same);
    reads = reads_most;
    writes = writes_most;
    clock = let same = kept.clock in omega (arith, same);
    moment = inl (refl, refl);
    onward = onward_as v now refl refl refl b.handles.pages.same_frozen;
    stops = subst (λ (x : Core D). TurnsReadOnly g v x) b.others stops;
    stamps = record {
      never_falls = let n = kept.next_stamp in omega (arith, n);
      at_most = let n = kept.next_stamp in omega (arith, n);
      paid = λ low less. let n = kept.next_stamp in let k = kept.clock in let f = kept.write_faults in omega (arith, n, k, f);
    };
    posted = let same : (names_of g w).posted ≡ (names_of g v).posted = b.handles.marks.posted in omega (arith, same);
    runs = λ tells page_of_stamp tree at. with_none g now page_of_stamp tree (runs_now tells page_of_stamp tree at);
    trees = λ told page_of_stamp t at. goes_as g v now page_of_stamp t (with_none g now page_of_stamp t.running (runs_now told.tells page_of_stamp t.running at.runs)) (stands_on page_of_stamp t told.tells (told_before told) at.stands) at.committed at.frozen;
    left = λ told page_of_stamp t y same at. record {
      later = let k = kept.clock in omega (arith, k);
      each = λ m c left. inl (kept.left told.tells m c left);
    };
  })

  pub tried_cause : FailureIsCounted g (answer ≡ Some drained.Fault) v w
  tried_cause fault = inl ((subst (λ (o : Option Drained). ReadsExplainStop g v.device w.device (option_and_then drained_stop o)) fault b.reads).cause tt)
