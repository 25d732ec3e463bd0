-- Pages of a core that were read, and pointers that were gathered.
use Rattle.std.proofs.Common.{◌≡◌, ◌≢◌, ℕ, ◌+◌, ◌≤◌, ◌<◌, ◌^◌, List, [], ◌++◌, map, length, Option, Some, None, Result, Ok, Err, refl, sym, ap, subst, ◌∙◌, arith}
use Rattle.std.proofs.lemmas.List.{append-nil, length-append, length-map}
use Rattle.std.specs.Prelude.{OnErr, OnOk, ⊤}
use Rattle.nl_field.specs.Graph.{GraphNode}
use Rattle.nl_field.specs.PointerItems.{PointerItems}
use Rattle.nl_field.specs.declared.inode.InodeRec.{InodeRec}
use Rattle.nl_field.specs.declared.inode.Kind.{Kind}
use Rattle.nl_field.specs.declared.inode.Kind.TheVariants.{Dir, File, Unused}
use Rattle.nl_field.specs.declared.pointer.Pointer.{Pointer}
use Rattle.nl_field.specs.declared.shape.Shape.{Shape}
use Rattle.nl_iface.specs.Calls.{OnlyReads}
use Rattle.nl_iface.specs.Counting.{FailuresCounted}
use Rattle.nl_iface.specs.Device.{IsVolumeShape}
use Rattle.nl_iface.specs.Holders.{tagged}
use Rattle.nl_iface.specs.Names.{IsNames}
use Rattle.nl_iface.specs.declared.counts.Counts.{Ghosts}
use Rattle.nl_meta.specs.Nodes.{body_of, graph_of, pointers_in}
use Rattle.nl_meta.specs.Pages.{Pages}
use Rattle.nl_meta.specs.PointerLists.{tagged_by}
use Rattle.nl_meta_running.specs.Reading.{ReadsExplainStop}
use Rattle.nl_meta_running.specs.Running.{IsNodeOf, IsUsedNode, RunningIsRight}
use Rattle.nl_meta_running.specs.declared.answer.Stop.{Stop}
use Rattle.nl_meta_running.specs.declared.answer.Stop.TheVariants as stop
use Rattle.nl_meta_running.proofs.GraphStays.{graph-same}
use Rattle.nl_meta_running.proofs.Holds.{bounds-of}
use Rattle.nl_meta_running.proofs.Kept.{kept-then, used-on}
use Rattle.nl_files.specs.Spans.{pointers_from}
use Rattle.nl_files.specs.Standing.{KeepsRunning, LoadsOwn}
use Rattle.nl_files.proofs.LawProofs.{all_are_of_node}
use Rattle.nl_spec_image.proofs.GraphOfPages.{node_is}
use Rattle.nl_journal_commit.specs.Holding.{running_holders}
use Rattle.nl_spec_commits.proofs.FileLists.{node_changes}
use Rattle.nl_core.specs.Core.{IsCore, names_of, running_of}
use Rattle.nl_core.specs.declared.state.Core.{Core}
use Rattle.nl_calls_files.specs.Fits.{IsFileOf}
use Rattle.nl_calls_steps.specs.Steps.{ReadsOn}
use Rattle.nl_calls_steps.proofs.FileInstalled.{few_await, flight_has_room}
use Rattle.nl_calls_files.proofs.Fits.{reads_run, stands}
use Rattle.nl_calls_steps.proofs.Stepping.{read_on}
use Rattle.nl_calls_names.specs.Gathering.{GathersOn, OpensNode, graph_on, pointers_of_node}
use Rattle.nl_calls_names.proofs.Holders.{plain_by}

pub on_ok : {X E : Type 0} {A B : Type 0} (r : Result X E) → (A → B) → OnOk r A → OnOk r B
on_ok (Ok x) f h = f h
on_ok (Err e) f h = tt

pub on_err : {X E : Type 0} {A B : Type 0} (r : Result X E) → (A → B) → OnErr r A → OnErr r B
on_err (Ok x) f h = tt
on_err (Err e) f h = f h

-- ---- one call after another

module _ {D : Type 0} (g : Ghosts D) (v w : Core D) (volume : IsVolumeShape (g.shape v.device)) (r : ReadsOn g v w) where
  pub same_shape : g.shape w.device ≡ g.shape v.device
  same_shape = r.runs.reads.medium.virtual.same_shape

  pub same_graph : graph_on g w ≡ graph_on g v
  same_graph = ap (λ (h : Shape). graph_of h (running_of g w)) same_shape ∙ graph-same (g.shape v.device) (bounds-of (g.shape v.device) volume) (running_of g v) (running_of g w) r.runs.needed

  same_freeing : w.freeing ≡ v.freeing
  same_freeing = ap (λ (x : Core D). x.freeing) r.others

  pub then_on : (u : Core D) → ReadsOn g w u → ReadsOn g v u
  then_on u next = record {
    runs = kept-then g v.device v.meta w.device w.meta (bounds-of (g.shape v.device) volume) r.runs u.device u.meta next.runs;
    read_faults = let m = r.read_faults in let n = next.read_faults in omega (arith, m, n);
    others = next.others ∙ ap (λ (x : Core D). record x { device = u.device; meta = u.meta }) r.others;
  }

  pub then_gathers : (u : Core D) (xs : List Pointer) → GathersOn g w u xs → GathersOn g v u xs
  then_gathers u xs h = record {
    reads = then_on (record u { freeing = v.freeing }) (subst (λ (f : PointerItems). ReadsOn g w (record u { freeing = f })) same_freeing h.reads);
    items = h.items ∙ ap (λ (f : PointerItems). f.items ++ xs) same_freeing;
    room = let same = ap (λ (f : PointerItems). length f.items + f.room) same_freeing in let more = h.room in omega (arith, same, more);
  }

  pub then_opens : (u : Core D) (n : ℕ) → IsUsedNode g v.device v.meta n → OpensNode g w u n → OpensNode g v u n
  then_opens u n used h = record { used = used; there = h.there }

  pub then_used : (n : ℕ) → IsUsedNode g v.device v.meta n → IsUsedNode g w.device w.meta n
  then_used n used = (used.0, used-on g v.device v.meta w.device w.meta (bounds-of (g.shape v.device) volume) r.runs n used.0 used.1)

  pub gathers_none : GathersOn g v w []
  gathers_none = record {
    reads = subst (λ (f : PointerItems). ReadsOn g v (record w { freeing = f })) same_freeing r;
    items = ap (λ (f : PointerItems). f.items) same_freeing ∙ sym (append-nil v.freeing.items);
    room = let same = ap (λ (f : PointerItems). length f.items + f.room) same_freeing in omega (arith, same);
  }

-- no read failed, and then a call ended so
pub then_reads : {D : Type 0} (g : Ghosts D) (s t u : D) (same_stamps : (v : ℕ) → g.stamps t v ≡ g.stamps s v) (o : Option Stop) → g.read_faults t ≡ g.read_faults s → ReadsExplainStop g t u o → ReadsExplainStop g s u o
then_reads g s t u same_stamps None same r = r ∙ same
then_reads g s t u same_stamps (Some stop.Fault) same r = subst (λ (n : ℕ). FailuresCounted ⊤ n (g.read_faults u) ⊤) same r
then_reads g s t u same_stamps (Some (stop.Lost w f)) same r = (r.0 ∙ same, (r.1.0, sym (same_stamps r.1.0) ∙ r.1.1), r.2, r.3)

-- a failure that is counted
pub fault_counted : (failed : Type 0) (before now : ℕ) → failed → FailuresCounted ⊤ before now failed → FailuresCounted ⊤ before now ⊤
fault_counted failed before now is f = record { never_falls = f.never_falls; cause = λ u. f.cause is; once = λ exact u. f.once exact is; stays = λ exact not. absurd (not tt) }

-- ---- the pointers of a node

module _ {D : Type 0} (g : Ghosts D) (v : Core D) (n : ℕ) (rec : InodeRec) (node : IsNodeOf g v.device v.meta n rec) where
  at_node : pointers_of_node (graph_on g v) (Some n) ≡ map (λ (p : ℕ × Pointer). p.1) (pointers_in (body_of (running_of g v) rec rec.kind))
  at_node = ap (λ (x : GraphNode). map (λ (p : ℕ × Pointer). p.1) (pointers_in x.body)) (node_is (g.shape v.device) (running_of g v) n rec node)

  -- the pointers of a file, by page index
  pub of_file : RunningIsRight g v.device v.meta → rec.kind ≡ File → pointers_from (running_of g v) rec 0 ≡ pointers_of_node (graph_on g v) (Some n)
  of_file runs file =
      all_are_of_node (running_of g v) rec (stands g v.device v.meta n rec runs (record { is_node = node; is_file = file })).file
      ∙ sym (at_node ∙ ap (λ (k : Kind). map (λ (p : ℕ × Pointer). p.1) (pointers_in (body_of (running_of g v) rec k))) file)

  -- no other node has any
  pub of_other : (k : Kind) → rec.kind ≡ k → k ≢ File → pointers_of_node (graph_on g v) (Some n) ≡ []
  of_other k e other = at_node ∙ ap (λ (x : Kind). map (λ (p : ℕ × Pointer). p.1) (pointers_in (body_of (running_of g v) rec x))) e ∙ by k other
    where
      by : (k : Kind) → k ≢ File → map (λ (p : ℕ × Pointer). p.1) (pointers_in (body_of (running_of g v) rec k)) ≡ []
      by Unused far = refl
      by Dir far = refl
      by File far = absurd (far refl)

  -- the pointers of a node are no more than those of all files
  pub some_of_all : length (pointers_of_node (graph_on g v) (Some n)) ≤ length (running_holders g v.device v.meta)
  some_of_all =
      let around = node_changes (g.shape v.device) (running_of g v) (running_of g v) n node.below (λ k far. refl) in
      let a = ap length around.before ∙ length-append (around.front ++ tagged_by n (graph_on g v n)) around.back in
      let b = length-append around.front (tagged_by n (graph_on g v n)) in
      let c = ap length (sym (plain_by n (graph_on g v n))) ∙ length-map (tagged_by n (graph_on g v n)) tagged in
      omega (arith, a, b, c)

-- ---- a file

module _ {D : Type 0} (g : Ghosts D) (v : Core D) (n : ℕ) (rec : InodeRec) (core : IsCore g v) (file : IsFileOf g v.device v.meta n rec) where
  pub own : length (pointers_from (running_of g v) rec 0) ≤ length (running_holders g v.device v.meta)
  own =
      let e = ap length (of_file g v n rec file.is_node core.journaled.runs file.is_file) in
      let most = some_of_all g v n rec file.is_node in
      omega (arith, e, most)

  module _ (volume : IsVolumeShape (g.shape v.device)) (names : IsNames (g.shape v.device) (g.next_stamp v.device) (names_of g v)) where
    pub has_room : length (pointers_from (running_of g v) rec 0) ≤ v.freeing.room
    has_room = let most = own in let has = flight_has_room g v core volume names in omega (arith, most, has)

    pub has_numbers : length v.freeing.items + length (pointers_from (running_of g v) rec 0) < 2 ^ 32
    has_numbers = let most = own in let few = few_await g v core volume names in omega (arith, most, few)

  pub file_gathers : (d : D) (m : Pages) (f : PointerItems) (xs : List Pointer) → OnlyReads g v.device d → KeepsRunning g v.device v.meta m → LoadsOwn rec v.meta m → g.read_faults v.device ≤ g.read_faults d
      → f.items ≡ v.freeing.items ++ xs → length v.freeing.items + v.freeing.room ≤ length f.items + f.room → GathersOn g v (record v { device = d; meta = m; freeing = f }) xs
  file_gathers d m f xs kept pages only faults items room = record {
    reads = read_on g v d m (reads_run g v.device d v.meta m n rec core.journaled.runs file kept pages only) faults;
    items = items;
    room = room;
  }
