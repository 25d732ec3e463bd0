-- The trees of a core go on once its transactions are written, and what a stop within that leaves.
use Rattle.std.proofs.Common.{◌≡◌, ◌⊎◌, inl, inr, ⊎_elim, ℕ, ◌<◌, ◌≤◌, ◌^◌, Bool, true, false, length, Option, Some, None, refl, sym, ap, subst, ◌∙◌, arith}
use Rattle.std.specs.Prelude.{IfSome}
use Rattle.nl_field.specs.CrashStates.{Earlier}
use Rattle.nl_field.specs.Graph.{Graph}
use Rattle.nl_field.specs.Members.{Has}
use Rattle.nl_field.specs.declared.answers.VirtualWrite.{VirtualWrite}
use Rattle.nl_field.specs.declared.answers.VirtualWrite.TheVariants as write
use Rattle.nl_field.specs.declared.shape.Shape.{Shape}
use Rattle.nl_flight.specs.Flight.{carried}
use Rattle.nl_core_callbacks.specs.Handled.{nameless_body}
use Rattle.nl_iface.specs.Calls.{CrashStatesHave, StoresPages}
use Rattle.nl_iface.specs.Device.{IsVolumeShape}
use Rattle.nl_iface.specs.declared.counts.Counts.{Ghosts}
use Rattle.nl_journal.specs.Left.{CommitWrites}
use Rattle.nl_journal.specs.Progress.{HasNumber}
use Rattle.nl_meta.specs.Consistent.{PageOfStamp}
use Rattle.nl_meta.specs.Pages.{IsPages, Pages}
use Rattle.nl_journal_commit.specs.Committing.{ChangesAt, CommitsInParts, EarlierAt}
use Rattle.nl_journal_commit.specs.Counting.{with_count}
use Rattle.nl_spec_commits.specs.TreeLaws.{OpensFrom, committed_by as tree_by, frozen_by, last_commit_moment}
use Rattle.nl_spec_commits.specs.Trees.{Prefix, RepresentsTrees, Trees, prefixes}
use Rattle.nl_tree.specs.Tree.{Tree}
use Rattle.nl_spec_commits.proofs.CommitTrees.{commit_goes, commit_leaves}
use Rattle.nl_core.specs.Core.{IsCore, begun_of}
use Rattle.nl_core.specs.Goes.{PreservesVolume, PreservesTrees}
use Rattle.nl_core.specs.Trees.{CoreRepresentsTree, CoreRepresents, CoreIsObservable}
use Rattle.nl_core.specs.Writing.{WritesAll, committed_count, counted_pages, frozen_then, stored_count}
use Rattle.nl_core.specs.declared.state.Core.{Core}
use Rattle.nl_core.proofs.Running.{runs_on, with_none}
use Rattle.nl_core.proofs.Written.{later_number, stops_on, written_onward}

-- ---- the trees

module _ {D : Type 0} (g : Ghosts D) (v w : Core D) (answer : VirtualWrite) (b : WritesAll g v w answer) (core : IsCore g v) (volume : IsVolumeShape (g.shape v.device)) (few : begun_of v ≤ 2 ^ 63)
    (stores : g.tells → StoresPages g w.device) (writes : v.stopped ≡ 0) (held : IsPages v.meta) where
  small : CoreIsObservable g w → v.count < 2 ^ 63
  small told = subst (λ n. n < 9223372036854775808) b.rest.count told.calls

  numbers : CoreIsObservable g w → HasNumber v.journal (length v.meta.frozen.addresses)
  numbers told = let later = later_number g v w answer b core volume few stores writes in let s = told.numbers in omega (arith, later, s)

  counted_is : CoreIsObservable g w → counted_pages v ≡ with_count (g.shape v.device) v.count v.meta
  counted_is told = ap (λ (h : Shape). with_count h (stored_count v) v.meta) core.shape ∙ ap (λ n. with_count (g.shape v.device) n v.meta) (let s = small told in omega (arith, s))

  -- the count of what is committed
  count_is : (page_of_stamp : ℕ → Option PageOfStamp) (t : Trees) → CoreRepresents g v page_of_stamp t → (earlier decided : Option ℕ) → (tree_by v.count earlier decided t).0 ≡ committed_count v earlier decided
  count_is page_of_stamp t at earlier (Some m) = refl
  count_is page_of_stamp t at (Some m) None = at.frozen
  count_is page_of_stamp t at None None = at.committed

  -- the count of what is frozen
  frozen_is : (page_of_stamp : ℕ → Option PageOfStamp) (t : Trees) → CoreRepresents g v page_of_stamp t → (froze : Bool) → (frozen_by v.count froze t).0 ≡ frozen_then v froze
  frozen_is page_of_stamp t at true = refl
  frozen_is page_of_stamp t at false = at.frozen

  has_frozen : (t : Trees) (froze : Bool) → Has (prefixes v.count t) (frozen_by v.count froze t)
  has_frozen t true = inr (inr (inl refl))
  has_frozen t false = inr (inl refl)

  has_tree : (t : Trees) (earlier decided : Option ℕ) → Has (prefixes v.count t) (tree_by v.count earlier decided t)
  has_tree t earlier (Some m) = inr (inr (inl refl))
  has_tree t (Some m) None = inr (inl refl)
  has_tree t None None = inl refl

  later_tree : (t : Trees) → t.committed.0 ≤ t.frozen.0 → t.frozen.0 ≤ v.count → (earlier decided : Option ℕ) → t.committed.0 ≤ (tree_by v.count earlier decided t).0
  later_tree t one two earlier (Some m) = omega (arith, one, two)
  later_tree t one two (Some m) None = one
  later_tree t one two None None = omega arith

  -- no page is programmed under a name
  runs_to : g.tells → (page_of_stamp : ℕ → Option PageOfStamp) (tree : Tree) → CoreRepresentsTree g v page_of_stamp tree → CoreRepresentsTree g w page_of_stamp tree
  runs_to tells page_of_stamp tree at =
      let named = b.passes.named in
      runs_on g v w page_of_stamp tree at named.same_shape b.stands.needed
      (record { live = λ q page is. (q, sym (named.tables.live q) ∙ is, named.bytes tells q); stamps = b.passes.stamps.never_falls })

  goes_to : CoreIsObservable g w → (page_of_stamp : ℕ → Option PageOfStamp) (t : Trees) → CoreRepresents g v page_of_stamp t → PreservesTrees g v w page_of_stamp t
  goes_to told page_of_stamp t at =
      let parts : CommitsInParts g (answer ≡ write.Done) b.froze b.earlier b.decided v.device v.journal (with_count (g.shape v.device) v.count v.meta) w.device w.journal w.meta =
      subst (λ (n : Pages). CommitsInParts g (answer ≡ write.Done) b.froze b.earlier b.decided v.device v.journal n w.device w.journal w.meta) (counted_is told) b.commits.parts in
      let c = commit_goes g answer v.device w.device v.journal w.journal v.meta w.meta v.count page_of_stamp t b.froze b.earlier b.decided volume told.tells told.numbers (small told) core.journaled parts at.stands in
      record {
        pages = page_of_stamp;
        trees = c.trees;
        stands = record {
          stands = subst (λ n. RepresentsTrees g w.device w.journal w.meta n page_of_stamp c.trees) (sym b.rest.count) c.stands;
          runs = subst (λ (tree : Tree). CoreRepresentsTree g w page_of_stamp tree) (sym c.running) (runs_to told.tells page_of_stamp t.running at.runs);
          committed = ap (λ (x : Prefix). x.0) c.committed ∙ count_is page_of_stamp t at b.earlier b.decided ∙ sym b.committed;
          frozen = ap (λ (x : Prefix). x.0) c.frozen ∙ frozen_is page_of_stamp t at b.froze ∙ sym b.frozen;
        };
        extends = λ stamp page is. is;
        running = c.running;
        committed = subst (λ (x : Prefix). Has (prefixes v.count t) x) (sym c.committed) (has_tree t b.earlier b.decided);
        frozen = subst (λ (x : Prefix). Has (prefixes v.count t) x) (sym c.frozen) (has_frozen t b.froze);
        later = subst (λ (x : Prefix). t.committed.0 ≤ x.0) (sym c.committed) (later_tree t at.stands.later at.stands.latest b.earlier b.decided);
      }

  leaves_to : CoreIsObservable g w → (page_of_stamp : ℕ → Option PageOfStamp) (t : Trees) (y : Prefix) → y.0 ≡ w.committed → CoreRepresents g v page_of_stamp t
      → CrashStatesHave g (OpensFrom (g.shape v.device) v.count w.moment t y) v.device w.device
  leaves_to told page_of_stamp t y is at =
      let pages = counted_is told in
      let l = commit_leaves g answer v.device w.device v.journal w.journal v.meta w.meta v.count v.moment page_of_stamp t b.earlier b.decided (carried v.flight) v.freeing.items _ volume told.tells (numbers told) told.numbers
      (small told) told.moments core.journaled held core.held ((core.writes writes).firm (told.tells, numbers told)) at.runs.shows
      (subst (λ (n : Pages). CommitWrites g (answer ≡ write.Done) v.journal w.journal n w.meta v.device w.device) pages (b.writes told.tells told.numbers))
      (subst (λ (n : Pages). IfSome b.earlier (EarlierAt g v.device w.device v.journal w.journal n w.meta)) pages b.earlier_at)
      (subst (λ (n : Pages). IfSome b.decided (ChangesAt g v.device w.device v.journal w.journal n w.meta)) pages b.decided_at) at.stands in
      let same : (tree_by v.count b.earlier b.decided t).0 ≡ y.0 = count_is page_of_stamp t at b.earlier b.decided ∙ sym b.committed ∙ sym is in
      record {
        later = l.later;
        each = λ m c left. ⊎_elim inl
            (λ k. inr (k.0, k.1, (k.2.0, k.2.1, k.2.2, λ after. let low = k.2.3 (subst (λ n. n ≤ m) b.moment after) in omega (arith, low, same))))
            (l.each m c left);
      }

  moment_by : (earlier decided : Option ℕ) → IfSome earlier (EarlierAt g v.device w.device v.journal w.journal (counted_pages v) w.meta) → IfSome decided (ChangesAt g v.device w.device v.journal w.journal (counted_pages v) w.meta)
      → ((last_commit_moment v.moment earlier decided ≡ v.moment) × (committed_count v earlier decided ≡ v.committed)) ⊎ (Earlier (g.clock v.device) (last_commit_moment v.moment earlier decided) × (g.clock v.device ≤ last_commit_moment v.moment earlier decided))
  moment_by earlier (Some m) e d = inr (d.later, d.from)
  moment_by (Some m) None e d = inr (e.later, e.from)
  moment_by None None e d = inl (refl, refl)

  pub written_goes : PreservesVolume g 512 v w
  written_goes = record {
    same_shape = b.passes.named.same_shape;
    count = b.rest.count;
    nodes = record { generation = λ n. ap (λ (x : Graph). (x n).generation) b.stands.graph; body = λ n. ap (λ (x : Graph). nameless_body (x n).body) b.stands.graph };
    numbers = later_number g v w answer b core volume few stores writes;
    paid = b.commits.paid;
    reads = b.faults.reads_never_fall;
    writes = b.faults.writes_never_fall;
    moment = ⊎_elim (λ same. inl (b.moment ∙ same.0, b.committed ∙ same.1))
        (λ later. inr (subst (λ n. Earlier (g.clock v.device) n × (g.clock v.device ≤ n)) (sym b.moment) later))
        (moment_by b.earlier b.decided b.earlier_at b.decided_at);
    onward = written_onward g v w answer b core volume few stores writes;
    clock = b.clock;
    stops = stops_on g v w b.stopped b.faults.reads_never_fall b.faults.writes_never_fall;
    stamps = b.passes.stamps;
    posted = let same = b.passes.named.tables.posted in omega (arith, same);
    runs = λ tells page_of_stamp tree at. with_none g w page_of_stamp tree (runs_to tells page_of_stamp tree at);
    trees = goes_to;
    left = leaves_to;
  }
