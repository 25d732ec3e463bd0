-- A core stands on once the pages of a worker's line are freed, and it has none.
use Rattle.std.proofs.Common.{◌≡◌, ◌⊎◌, inl, inr, ⊎_elim, ℕ, ◌+◌, ◌*◌, ◌<◌, ◌≤◌, ◌==◌, true, false, List, [], ◌∷◌, ◌++◌, length, map, Option, refl, sym, ap, subst, ◌∙◌, arith}
use Rattle.std.specs.Prelude.{not}
use Rattle.std.proofs.lemmas.Bool.{both_ways, cases_Bool, cond-false, cond-true, eq-eqb}
use Rattle.std.proofs.lemmas.List.{length-append, length-map, set-get_or}
use Rattle.nl_field.specs.Graph.{Graph}
use Rattle.nl_field.specs.declared.pointer.Pointer.{Pointer}
use Rattle.nl_field.specs.declared.pointer.Tag.{Tag}
use Rattle.nl_field.specs.declared.shape.Shape.{Shape}
use Rattle.nl_core_callbacks.specs.Handled.{nameless_body}
use Rattle.nl_flight.specs.Flight.{InFlight, begun, carried, of_worker, with_line}
use Rattle.nl_flight.specs.declared.page.FlightPage.{FlightPage}
use Rattle.nl_spec_holders.proofs.FreeLists.{OldDiffer, frees-from_lists, kept_none, old_differ_from}
use Rattle.nl_spec_holders.proofs.HoldingSteps as steps
use Rattle.nl_spec_holders.proofs.Words.{Frees, Holds, from_words, to_words}
use Rattle.nl_spec_holders.specs.Holding.{Holding, KeepsCommitted}
use Rattle.nl_spec_holders.specs.Laws.{PreservesHolding, OldNamesDiffer}
use Rattle.nl_spec_holders.specs.Lists.{ListLoses}
use Rattle.nl_iface.proofs.Stops.{keeps_leave}
use Rattle.nl_iface.specs.Calls.{StoresPages}
use Rattle.nl_iface.specs.Device.{IsVolumeShape}
use Rattle.nl_iface.specs.Holders.{tagged}
use Rattle.nl_iface.specs.Names.{Names, beside, has_stamp, leads, led, place_of}
use Rattle.nl_iface.specs.Rounds.{Empties}
use Rattle.nl_iface.specs.Space.{CanLand}
use Rattle.nl_iface.specs.declared.counts.Counts.{Ghosts}
use Rattle.nl_meta.specs.Consistent.{PageOfStamp}
use Rattle.nl_meta.specs.Nodes.{graph_of}
use Rattle.nl_meta_running.specs.Running.{IsNeeded, running_on}
use Rattle.nl_journal_commit.proofs.Standing.{addresses_stand}
use Rattle.nl_journal_commit.specs.Freeing.{FreesEach, FreesOne, FreesPage}
use Rattle.nl_journal_commit.specs.Holding.{running_holders}
use Rattle.nl_spec_commits.proofs.DeviceTrees.{addresses_go}
use Rattle.nl_spec_commits.proofs.Firm.{medium_keeps_firm}
use Rattle.nl_spec_commits.proofs.Steps.{step_keeps_held}
use Rattle.nl_spec_commits.specs.Held.{IsHeldVolume}
use Rattle.nl_spec_commits.specs.Steps.{holding_with}
use Rattle.nl_spec_commits.specs.TreeLaws.{OpensFrom}
use Rattle.nl_spec_commits.specs.Trees.{Trees}
use Rattle.nl_tree.specs.Tree.{Tree}
use Rattle.nl_core.specs.Core.{HasSpace, IsCore, IsPhysical, names_of, running_of}
use Rattle.nl_core.specs.Goes.{PreservesVolume, PreservesTrees, TurnsReadOnly}
use Rattle.nl_core.specs.Trees.{CoreRepresentsTree, CoreRepresents, CoreIsObservable}
use Rattle.nl_core.specs.Dropping.{FreesLine, pointers_of}
use Rattle.nl_core.specs.declared.state.Core.{Core}
use Rattle.nl_core.proofs.Counts.{counts_as, onward_as}
use Rattle.nl_core.proofs.Lines.{after, before, carried_alike, carried_own, carried_with, held, in_flight, kept_without, loses_page, none_is_flight}
use Rattle.nl_core.proofs.Running.{goes_as, runs_on, with_none}
use Rattle.nl_core.proofs.Settled.{Fewer, frees_fewer, frees_space}
use Rattle.nl_core.proofs.Written.{has_free_on, same_below_end, same_running}

differ_beside : (xs : List (ℕ × ℕ)) (p : ℕ) → OldDiffer xs → OldDiffer (beside xs p)
differ_beside [] p d = tt
differ_beside (x ∷ xs) p d = by (differ_beside xs p d.1) (cases_Bool (not (x.1 == p)))
  where
    by : OldDiffer (beside xs p) → (not (x.1 == p) ≡ true) ⊎ (not (x.1 == p) ≡ false) → OldDiffer (beside (x ∷ xs) p)
    by rest (inl e) = subst (λ ys. OldDiffer ys) (sym (cond-true (not (x.1 == p)) (x ∷ beside xs p) (beside xs p) e)) (kept_none xs p x.0 d.0, rest)
    by rest (inr e) = subst (λ ys. OldDiffer ys) (sym (cond-false (not (x.1 == p)) (x ∷ beside xs p) (beside xs p) e)) rest

-- ---- the pages of a line are freed one after the other

module _ (flight : List InFlight) (worker : ℕ) (known : worker < length flight) where
  abbrev pub line_with : List FlightPage → InFlight
  line_with pages = record (of_worker flight worker) { pages = pages }

  abbrev pub lines : List FlightPage → List (Tag × Pointer)
  lines pages = carried (with_line flight worker (line_with pages))

  module _ (x : FlightPage) (xs : List FlightPage) (h : Holding) (m : Names) (differ : OldDiffer h.names.pairs) (is : h.flight ≡ lines (x ∷ xs)) (one : FreesOne x.at h.names m) (f : Holds h) where
    loses : ListLoses tagged (held x) h.flight (lines xs)
    loses = subst (λ (ys : List (Tag × Pointer)). ListLoses tagged (held x) ys (lines xs)) (sym is) (loses_page flight worker known (line_with (x ∷ xs)) (line_with xs) x refl)

    freed : FreesPage x.at h.names m
    freed = ⊎_elim (λ k. k)
        (λ dead. let r = f.flight (held x) loses.had in
        absurd (both_ways (leads h.names x.at) dead.0 (ap (λ o. has_stamp o x.at.stamp) r.leads.1 ∙ eq-eqb r.leads.0.stamp x.at.stamp r.leads.2.1))) one

    frees : Frees (led h.names x.at.name) (f.flight (held x) loses.had).leads.0 h.names m
    frees =
        let r = f.flight (held x) loses.had in
        let d = freed.names in
        frees-from_lists (led h.names x.at.name) r.leads.0 h.names m f.table differ r.leads.1 d.live d.pairs d.pending d.handled

    still_differ : OldDiffer m.pairs
    still_differ = let d = freed.names in subst (λ ys. OldDiffer ys) (sym d.pairs) (differ_beside h.names.pairs (place_of h.names x.at) differ)

    next_held : Holds (record h { names = m; flight = lines xs })
    next_held = let r = f.flight (held x) loses.had in steps.drop-held h m (held x) (lines xs) r.leads.0 r.leads.2.1 frees loses f

    next_safe : KeepsCommitted h → KeepsCommitted (record h { names = m; flight = lines xs })
    next_safe k = let r = f.flight (held x) loses.had in steps.drop-safe h m (held x) (lines xs) r.leads.0 r.leads.2.1 frees loses f k

  none_left : (h : Holding) (t : Names) → t ≡ h.names → h.flight ≡ lines [] → record h { names = t; flight = lines [] } ≡ h
  none_left h t same is = ap (λ (n : Names). record h { names = n; flight = lines [] }) same ∙ ap (λ (ys : List (Tag × Pointer)). record h { flight = ys }) (sym is)

  pub all_held : (xs : List FlightPage) (h : Holding) (t : Names) → OldDiffer h.names.pairs → h.flight ≡ lines xs → FreesEach (map (λ (page : FlightPage). page.at) xs) h.names t → Holds h → Holds (record h { names = t; flight = lines [] })
  all_held [] h t differ is same f = subst (λ k. Holds k) (sym (none_left h t same is)) f
  all_held (x ∷ xs) h t differ is all f =
      all_held xs (record h { names = all.0; flight = lines xs }) t (still_differ x xs h all.0 differ is all.1 f) refl all.2 (next_held x xs h all.0 differ is all.1 f)

  pub all_safe : (xs : List FlightPage) (h : Holding) (t : Names) → OldDiffer h.names.pairs → h.flight ≡ lines xs → FreesEach (map (λ (page : FlightPage). page.at) xs) h.names t → Holds h → KeepsCommitted h
      → KeepsCommitted (record h { names = t; flight = lines [] })
  all_safe [] h t differ is same f k = subst (λ k. KeepsCommitted k) (sym (none_left h t same is)) k
  all_safe (x ∷ xs) h t differ is all f k =
      all_safe xs (record h { names = all.0; flight = lines xs }) t (still_differ x xs h all.0 differ is all.1 f) refl all.2 (next_held x xs h all.0 differ is all.1 f)
      (next_safe x xs h all.0 differ is all.1 f k)

  pub all_live : (xs : List FlightPage) (h : Holding) (t : Names) → OldDiffer h.names.pairs → h.flight ≡ lines xs → FreesEach (map (λ (page : FlightPage). page.at) xs) h.names t → Holds h → t.space.live + length xs ≡ h.names.space.live
  all_live [] h t differ is same f = let e = ap (λ (n : Names). n.space.live) same in omega (arith, e)
  all_live (x ∷ xs) h t differ is all f =
      let rest = all_live xs (record h { names = all.0; flight = lines xs }) t (still_differ x xs h all.0 differ is all.1 f) refl all.2 (next_held x xs h all.0 differ is all.1 f) in
      let gone = (freed x xs h all.0 differ is all.1 f).space.live in
      omega (arith, rest, gone)

-- ---- a core

module _ {D : Type 0} (g : Ghosts D) (v : Core D) (d : D) (worker : ℕ) (worker_known : worker < 8) (b : FreesLine g (of_worker v.flight worker) v.device d) (core : IsCore g v)
    (volume : IsVolumeShape (g.shape v.device)) (differ : OldNamesDiffer (names_of g v)) (stores : g.tells → StoresPages g d) where
  abbrev pub later : List InFlight
  later = with_line v.flight worker (begun 0)

  abbrev pub dropped : Core D
  dropped = record v { device = d; flight = later }

  known : worker < length v.flight
  known = in_flight v.flight worker core.flight worker_known

  abbrev pub own : List FlightPage
  own = (of_worker v.flight worker).pages

  before_is : carried v.flight ≡ lines v.flight worker known own
  before_is = ap carried (sym (set-get_or v.flight worker (begun 0)))

  after_is : lines v.flight worker known [] ≡ carried later
  after_is = carried_alike v.flight worker known (line_with v.flight worker known []) (begun 0) refl

  same_shape : g.shape d ≡ g.shape v.device
  same_shape = b.kept.virtual.same_shape

  needed : (a : ℕ) → IsNeeded (g.shape v.device) (running_of g v) a → running_on g d v.meta a ≡ running_of g v a
  needed = (addresses_stand g v.device d v.journal v.meta volume core.journaled b.kept.virtual).needed

  running : running_holders g d v.meta ≡ running_holders g v.device v.meta
  running = same_running g v dropped same_shape volume needed

  keeps : (h : Holding) → h.names ≡ names_of g v → h.flight ≡ carried v.flight → PreservesHolding h (record h { names = g.names d; flight = carried later })
  keeps h names flight =
      let old = old_differ_from h.names.pairs (subst OldNamesDiffer (sym names) differ) in
      let all = subst (λ (n : Names). FreesEach (pointers_of (of_worker v.flight worker)) n (g.names d)) (sym names) b.freed in
      let is = flight ∙ before_is in
      subst (λ (ys : List (Tag × Pointer)). PreservesHolding h (record h { names = g.names d; flight = ys })) after_is
      (record {
        holds = λ f. from_words (all_held v.flight worker known own h (g.names d) old is all (to_words f));
        committed = λ f k. all_safe v.flight worker known own h (g.names d) old is all (to_words f) k;
      })

  dropped_held : IsHeldVolume g d v.journal v.meta (carried later) v.freeing.items v.leaving
  dropped_held = step_keeps_held g v.device d v.journal v.meta v.meta (carried v.flight) (carried later) v.freeing.items v.freeing.items _ volume core.journaled core.held b.kept.virtual refl
      (λ h number. subst (λ (r : List (Tag × Pointer)). PreservesHolding (holding_with g v.device v.meta (carried v.flight) v.freeing.items h) (record h { names = g.names d; running = r; flight = carried later; freeing = v.freeing.items }))
      (sym running) (keeps (holding_with g v.device v.meta (carried v.flight) v.freeing.items h) refl refl))

  fewer_live : (g.names d).space.live + length (carried v.flight) ≡ (names_of g v).space.live + length (carried later)
  fewer_live =
      let h = core.held.holding in
      let names = core.held.is_of.runs.names in
      let live = all_live v.flight worker known own h (g.names d) (old_differ_from h.names.pairs (subst OldNamesDiffer (sym names) differ)) (core.held.in_flight ∙ before_is)
      (subst (λ (n : Names). FreesEach (pointers_of (of_worker v.flight worker)) n (g.names d)) (sym names) b.freed) (to_words core.held.holds) in
      let same = ap (λ (n : Names). n.space.live) names in
      let size = sizes in
      omega (arith, live, same, size)
    where
      parts : (front xs back : List (Tag × Pointer)) → length (front ++ (xs ++ back)) ≡ length front + (length xs + length back)
      parts front xs back = length-append front (xs ++ back) ∙ ap (λ n. length front + n) (length-append xs back)

      sizes : length (carried v.flight) ≡ length (carried later) + length own
      sizes =
          let front = before v.flight worker known in
          let back = after v.flight worker known in
          let whole : length (carried v.flight) ≡ length front + (length (map held own) + length back) = ap length (carried_own v.flight worker known) ∙ parts front (map held own) back in
          let less : length (carried later) ≡ length front + length back = ap length (carried_with v.flight worker known (begun 0)) ∙ length-append front back in
          let own_size : length (map held own) ≡ length own = length-map own held in
          omega (arith, whole, less, own_size)

  fewer : Fewer (names_of g v) (g.names d)
  fewer = frees_fewer (pointers_of (of_worker v.flight worker)) (names_of g v) (g.names d) b.freed

  space : Empties (names_of g v).space (g.names d).space × (CanLand (names_of g v).space → CanLand (g.names d).space)
  space = frees_space (pointers_of (of_worker v.flight worker)) (names_of g v) (g.names d) b.freed

  stops : TurnsReadOnly g v dropped
  stops = record {
    stands = λ off. refl;
    none = λ none. same_below_end (g.write_faults v.device) (g.write_faults d) (core.writes none).counts b.kept.write_faults;
    some = λ none off. absurd (off none);
  }

  space_on : HasSpace g dropped
  space_on =
      let s = core.space in
      let same = space.0.same in
      let kept = same.kept in
      let block = same.block in
      let all = same.all in
      let before = s.all in
      let counted = s.counted in
      let few_files = s.few in
      let live = fewer_live in
      let size = ap length running in
      let cap = ap (λ (h : Shape). h.cap) same_shape in
      let products : ((names_of g v).space.keep + (names_of g v).space.bad + 3) * (names_of g v).space.block ≡ ((g.names d).space.keep + (g.names d).space.bad + 3) * (g.names d).space.block =
      ap (λ k. (k + 3) * (names_of g v).space.block) (sym kept) ∙ ap (λ n. ((g.names d).space.keep + (g.names d).space.bad + 3) * n) (sym block) in
      record {
        counted = omega (arith, live, counted, size);
        few = omega (arith, size, few_files, cap);
        all = omega (arith, all, before, products, cap);
        room = subst (λ (h : Shape). h.pblocks * h.pages ≤ length v.freeing.items + v.freeing.room) (sym same_shape) s.room;
      }

  pub dropped_core : g.formed d → IsCore g dropped
  dropped_core formed = record {
    formed = formed;
    shape = core.shape ∙ sym same_shape;
    journaled = (addresses_stand g v.device d v.journal v.meta volume core.journaled b.kept.virtual).journaled;
    free = has_free_on g v dropped same_shape volume needed refl core.free;
    held = dropped_held;
    counts = counts_as v dropped core.counts refl refl refl refl refl refl;
    flight = none_is_flight v.flight worker core.flight worker_known;
    named = λ x has. subst (λ (h : Shape). IsPhysical h x.1.name) (sym same_shape) (core.named x (kept_without v.flight worker known x has));
    stamped = λ x has. core.stamped x (kept_without v.flight worker known x has);
    space = space_on;
    marked = λ c n has at. let old = fewer.pending c has in core.marked c n old.0 (sym old.1 ∙ at);
    moment = subst (λ n. v.moment ≤ n) (sym b.kept.clock) core.moment;
    writes = λ none. let can = core.writes none in record {
      spare = b.kept.virtual.spare can.spare;
      lands = space.1 can.lands;
      firm = λ told. medium_keeps_firm g v.device d told.0 (can.firm told) b.kept (stores told.0);
      counts = let same = b.kept.write_faults in let low = can.counts in omega (arith, same, low);
    };
  }

  was_told : CoreIsObservable g dropped → CoreIsObservable g v
  was_told told = record {
    tells = told.tells;
    numbers = told.numbers;
    calls = told.calls;
    moments = subst (λ n. n < 9223372036854775808) b.kept.clock told.moments;
  }

  runs_to : g.tells → (page_of_stamp : ℕ → Option PageOfStamp) (tree : Tree) → CoreRepresentsTree g v page_of_stamp tree → CoreRepresentsTree g dropped page_of_stamp tree
  runs_to tells page_of_stamp tree at =
      (runs_on g v dropped page_of_stamp tree at same_shape needed
      (record { live = λ q page is. (q, fewer.live q page is, b.kept.bytes tells q); stamps = let same = b.kept.next_stamp in omega (arith, same) }))

  goes_to : CoreIsObservable g dropped → (page_of_stamp : ℕ → Option PageOfStamp) (t : Trees) → CoreRepresents g v page_of_stamp t → PreservesTrees g v dropped page_of_stamp t
  goes_to told page_of_stamp t at = goes_as g v dropped page_of_stamp t (with_none g dropped page_of_stamp t.running (runs_to told.tells page_of_stamp t.running at.runs))
      (addresses_go g v.device d v.journal v.meta v.count page_of_stamp t volume told.tells told.numbers core.journaled b.kept.virtual at.stands) at.committed at.frozen

  pub dropped_goes : PreservesVolume g 0 v dropped
  dropped_goes = record {
    same_shape = same_shape;
    count = refl;
    nodes = record { generation = λ n. ap (λ (x : Graph). (x n).generation) graph; body = λ n. ap (λ (x : Graph). nameless_body (x n).body) graph };
    numbers = omega arith;
    paid = λ low. let same = b.kept.clock in omega (arith, same);
    reads = let same = b.read_faults in omega (arith, same);
    writes = let same = b.kept.write_faults in omega (arith, same);
    moment = inl (refl, refl);
    onward = onward_as v dropped refl refl refl refl;
    clock = let same = b.kept.clock in omega (arith, same);
    stops = stops;
    stamps = record {
      never_falls = let same = b.kept.next_stamp in omega (arith, same);
      at_most = let same = b.kept.next_stamp in omega (arith, same);
      paid = λ low less. let n = b.kept.next_stamp in let k = b.kept.clock in let f = b.kept.write_faults in omega (arith, n, k, f);
    };
    posted = let same = fewer.posted in omega (arith, same);
    runs = λ tells page_of_stamp tree at. with_none g dropped page_of_stamp tree (runs_to tells page_of_stamp tree at);
    trees = goes_to;
    left = λ told page_of_stamp t y is at. keeps_leave g (OpensFrom (g.shape v.device) v.count v.moment t y) v.device d told.tells b.kept;
  }
    where
      graph : graph_of (g.shape d) (running_on g d v.meta) ≡ graph_of (g.shape v.device) (running_of g v)
      graph = (addresses_stand g v.device d v.journal v.meta volume core.journaled b.kept.virtual).graph
