-- A core stands on once its dirty pages are frozen, for a unit that begins a transaction.
use Rattle.std.proofs.Common.{◌≡◌, ◌⊎◌, inl, inr, ⊎_elim, ℕ, ◌+◌, ◌-◌, ◌*◌, ◌<◌, ◌≤◌, ◌^◌, ◌==◌, Bool, true, false, if◌then◌else◌, cond, ne_eqb, List, [], ◌∷◌, length, Option, Some, None, refl, sym, ap, subst, ◌∙◌, arith}
use Rattle.std.specs.List.{list_any}
use Rattle.std.proofs.lemmas.Bool.{cases_eq, cond-false, true≢false}
use Rattle.nl_field.specs.Graph.{Graph}
use Rattle.nl_field.specs.SuperPage.{super_bytes}
use Rattle.nl_field.specs.declared.answers.VirtualWrite.{VirtualWrite}
use Rattle.nl_field.specs.declared.shape.Shape.{Shape}
use Rattle.nl_core_callbacks.specs.Handled.{nameless_body}
use Rattle.nl_flight.specs.Flight.{carried}
use Rattle.nl_iface.specs.Device.{IsVolumeShape}
use Rattle.nl_iface.specs.declared.counts.Counts.{Ghosts}
use Rattle.nl_journal.specs.Progress.{HasNumber, IsPhase, raised, units_left}
use Rattle.nl_journal.specs.declared.answers.Phase.{Phase}
use Rattle.nl_journal.specs.declared.answers.Phase.TheVariants.{Commit, Header}
use Rattle.nl_journal.proofs.CommitSteps.{begun_header, begun_none}
use Rattle.nl_journal.proofs.Finishing.{header_units, phase_of_none}
use Rattle.nl_meta.specs.Consistent.{PageOfStamp}
use Rattle.nl_meta.specs.Nodes.{graph_of}
use Rattle.nl_meta.specs.Pages.{Frozen, IsPages, Pages, dirty_pages, none_frozen, page_of}
use Rattle.nl_meta_running.specs.Running.{IsNeeded, running_on}
use Rattle.nl_journal_commit.specs.Counting.{record_of, with_count, with_frozen}
use Rattle.nl_journal_commit.specs.Standing.{CanFreeze, IsJournaled, PreservesGraph}
use Rattle.nl_journal_commit.proofs.CommittingSteps.{first_is_dirty, frozen_none}
use Rattle.nl_journal_commit.proofs.Standing.{changes_can_freeze, freezing_stands, stands_then, super_page_stands}
use Rattle.nl_spec_commits.specs.Held.{IsHeldVolume}
use Rattle.nl_spec_commits.specs.TreeLaws.{frozen_now}
use Rattle.nl_spec_commits.specs.Trees.{RepresentsTrees, Trees}
use Rattle.nl_spec_commits.proofs.CommitTrees.{dirty_there}
use Rattle.nl_spec_commits.proofs.Freezing.{freeze_opens}
use Rattle.nl_spec_commits.proofs.Holding.{freeze_keeps_held}
use Rattle.nl_spec_commits.proofs.Replacing.{super_page_keeps_held}
use Rattle.nl_spec_commits.proofs.Trees.{freezing_goes, super_page_goes}
use Rattle.nl_tree.specs.Tree.{Tree}
use Rattle.nl_core.specs.Core.{HasSpace, IsCore, begun_of, names_of, running_of}
use Rattle.nl_core.specs.Goes.{PreservesTrees, PreservesVolume}
use Rattle.nl_core.specs.Trees.{CoreIsObservable, CoreRepresents, CoreRepresentsTree}
use Rattle.nl_core.specs.Units.{DoesUnit, FinishesCommitPage, begun_unit, units_for}
use Rattle.nl_core.specs.Writing.{counted_pages, stored_count}
use Rattle.nl_core.specs.declared.state.Core.{Core}
use Rattle.nl_core.proofs.Counts.{Awaits, Froze, counts_then, idle_shut, onward_by}
use Rattle.nl_core.proofs.Running.{runs_on, with_none}
use Rattle.nl_core.proofs.Written.{has_free_on, same_running}

none_of : (xs : List ℕ) → length xs ≡ 0 → xs ≡ []
none_of [] is = refl
none_of (x ∷ xs) is = absurd (let no : ⊥ = omega (arith, is) in no)

-- the core with its dirty pages frozen, as it is built
pub frozen_same : {D : Type 0} (v : Core D) (counted frozen : Pages) (leaving : ℕ) → counted ≡ counted_pages v → frozen ≡ with_frozen counted → leaving ≡ length v.freeing.items
    → (record v { meta = frozen; frozen = v.count; leaving = leaving }) ≡ record v { meta = with_frozen (counted_pages v); frozen = v.count; leaving = length v.freeing.items }
frozen_same v counted frozen leaving one two three =
    ap (λ (x : Pages). record v { meta = x; frozen = v.count; leaving = leaving }) (two ∙ ap with_frozen one)
    ∙ ap (λ n. record v { meta = with_frozen (counted_pages v); frozen = v.count; leaving = n }) three

module _ {D : Type 0} (g : Ghosts D) (v : Core D) (core : IsCore g v) (volume : IsVolumeShape (g.shape v.device)) (pages : IsPages (counted_pages v)) (none : length v.meta.frozen.addresses ≡ 0) (few : begun_of v ≤ 2 ^ 63) where
  abbrev pub counted : Pages
  counted = counted_pages v

  abbrev pub bytes : List ℕ
  bytes = super_bytes (record_of v.shape (stored_count v))

  abbrev pub frozen_core : Core D
  frozen_core = record v { meta = with_frozen (counted_pages v); frozen = v.count; leaving = length v.freeing.items }

  stored : PreservesGraph g v.device v.meta v.device v.journal counted
  stored = super_page_stands g v.device v.journal v.meta bytes volume core.journaled

  header : v.journal.phase ≡ Header
  header = phase_of_none v.journal.phase (subst (λ n. IsPhase v.journal.phase n) none core.journaled.order.phase)

  no_pages : v.meta.frozen ≡ none_frozen
  no_pages = frozen_none v.meta.frozen (none_of v.meta.frozen.addresses none) pages.frozen_images

  can : CanFreeze (g.shape v.device).vaddrs v.journal counted
  can = changes_can_freeze g v.device v.journal counted stored.journaled pages (first_is_dirty v.meta.dirty) header no_pages

  stands : PreservesGraph g v.device v.meta v.device v.journal (with_frozen counted)
  stands = stands_then g v.device v.device v.device v.journal v.journal v.meta counted (with_frozen counted) volume refl stored (freezing_stands g v.device v.journal counted volume stored.journaled pages can)

  held : IsHeldVolume g v.device v.journal (with_frozen counted) (carried v.flight) v.freeing.items (length v.freeing.items)
  held = freeze_keeps_held g v.device v.journal counted (carried v.flight) v.freeing.items _ volume stored.journaled pages can
      (super_page_keeps_held g v.device v.journal v.meta bytes (carried v.flight) v.freeing.items _ volume core.journaled core.held)

  opens : Awaits frozen_core
  opens = freeze_opens (g.shape v.device).vaddrs v.journal counted can

  shut : Awaits v → ⊥
  shut more = idle_shut v.journal v.meta.frozen header no_pages more

  later_number : begun_of v ≤ begun_of frozen_core
  later_number =
      let before : begun_of v ≡ v.journal.number = begun_none v.journal.phase v.journal.number (length v.meta.frozen.addresses) header none in
      let now : begun_of frozen_core ≡ raised v.journal.number = begun_header v.journal.phase v.journal.number (length counted.dirty) header can.dirty.pages.some in
      let most = few in
      omega (arith, before, now, most)

  froze : Froze v frozen_core true None None
  froze = record {
    stays = λ off. absurd (true≢false off);
    never = λ off. absurd (true≢false off);
    opens = λ on e. opens;
    fewer = λ off. absurd (true≢false off);
    pages = λ off. absurd (true≢false off);
    was_shut = λ on e. shut;
    few = λ on. let all = first_units in let n = can.dirty.pages.few in omega (arith, all, n);
  }
    where
      first_units : units_left v.journal.phase (length counted.dirty) ≡ 2 * length counted.dirty + 2
      first_units = ap (λ (x : Phase). units_left x (length counted.dirty)) header ∙ header_units (length counted.dirty) can.dirty.pages.some

  needed : (a : ℕ) → IsNeeded (g.shape v.device) (running_of g v) a → running_of g frozen_core a ≡ running_of g v a
  needed = stands.needed

  space : HasSpace g frozen_core
  space =
      let s = core.space in
      let counted_live = s.counted in
      let running = ap length (same_running g v frozen_core refl volume needed) in
      let few_files = s.few in
      record { counted = omega (arith, counted_live, running); few = omega (arith, running, few_files); all = s.all; room = s.room }

  pub frozen_is_core : IsCore g frozen_core
  frozen_is_core = record {
    formed = core.formed;
    shape = core.shape;
    journaled = stands.journaled;
    free = has_free_on g v frozen_core refl volume needed refl core.free;
    held = held;
    counts = counts_then v frozen_core core.counts refl true None None refl refl refl froze;
    flight = core.flight;
    named = core.named;
    stamped = core.stamped;
    space = space;
    marked = λ c n has at. let low = core.marked c n has at in let later = later_number in omega (arith, low, later);
    moment = core.moment;
    writes = λ runs. let w = core.writes runs in record {
      spare = w.spare;
      lands = w.lands;
      firm = λ told. w.firm (told.0, let later = later_number in let small = told.1 in omega (arith, later, small));
      counts = w.counts;
    };
  }

  small : CoreIsObservable g frozen_core → HasNumber v.journal (length v.meta.frozen.addresses)
  small told = let later = later_number in let numbers = told.numbers in omega (arith, later, numbers)

  runs_to : g.tells → (page_of_stamp : ℕ → Option PageOfStamp) (tree : Tree) → CoreRepresentsTree g v page_of_stamp tree → CoreRepresentsTree g frozen_core page_of_stamp tree
  runs_to tells page_of_stamp tree at = runs_on g v frozen_core page_of_stamp tree at refl needed (record { live = λ q page is. (q, is, refl); stamps = omega arith })

  counted_is : CoreIsObservable g frozen_core → counted_pages v ≡ with_count (g.shape v.device) v.count v.meta
  counted_is told = ap (λ (h : Shape). with_count h (stored_count v) v.meta) core.shape ∙ ap (λ n. with_count (g.shape v.device) n v.meta) (let s = told.calls in omega (arith, s))

  super_there : CoreIsObservable g frozen_core → page_of counted 0 ≡ Some (super_bytes (record_of (g.shape v.device) v.count))
  super_there told =
      dirty_there g v.device v.journal v.meta bytes core.journaled
      ∙ ap (λ (h : Shape). Some (super_bytes (record_of h (stored_count v)))) core.shape ∙ ap (λ n. Some (super_bytes (record_of (g.shape v.device) n))) (let s = told.calls in omega (arith, s))

  goes_to : CoreIsObservable g frozen_core → (page_of_stamp : ℕ → Option PageOfStamp) (t : Trees) → CoreRepresents g v page_of_stamp t → PreservesTrees g v frozen_core page_of_stamp t
  goes_to told page_of_stamp t at = record {
    pages = page_of_stamp;
    trees = frozen_now v.count t;
    stands = record {
      stands = freezing_goes g v.device v.journal counted v.count page_of_stamp t volume told.tells (small told) stored.journaled pages can (super_there told) told.calls
          (super_page_goes g v.device v.journal v.meta v.shape (stored_count v) v.count page_of_stamp t volume core.journaled at.stands);
      runs = runs_to told.tells page_of_stamp t.running at.runs;
      committed = at.committed;
      frozen = refl;
    };
    extends = λ stamp page is. is;
    running = refl;
    committed = inl refl;
    frozen = inr (inr (inl refl));
    later = omega arith;
  }

  pub frozen_goes : PreservesVolume g 0 v frozen_core
  frozen_goes = record {
    same_shape = refl;
    count = refl;
    nodes = record { generation = λ n. ap (λ (x : Graph). (x n).generation) stands.graph; body = λ n. ap (λ (x : Graph). nameless_body (x n).body) stands.graph };
    numbers = later_number;
    paid = λ low. omega arith;
    reads = omega arith;
    writes = omega arith;
    clock = omega arith;
    moment = inl (refl, refl);
    onward = onward_by v frozen_core core.counts refl true None None refl refl froze;
    stops = record {
      stands = λ off. refl;
      none = λ runs rose. let low = (core.writes runs).counts in omega (arith, low, rose);
      some = λ runs later. absurd (later runs);
    };
    stamps = record { never_falls = omega arith; at_most = omega arith; paid = λ low less. omega arith };
    posted = omega arith;
    runs = λ tells page_of_stamp tree at. with_none g frozen_core page_of_stamp tree (runs_to tells page_of_stamp tree at);
    trees = goes_to;
    left = λ told page_of_stamp t y is at. record { later = omega arith; each = λ m c left. inl left };
  }

  pub some_pages : 1 ≤ length frozen_core.meta.frozen.addresses
  some_pages = can.dirty.pages.some

-- ---- a unit whose transaction was begun

module _ {D : Type 0} (g : Ghosts D) (v u w : Core D) (answer : VirtualWrite) (core : IsCore g v) (begun : u ≡ begun_unit v) (goes : PreservesVolume g 0 v u) (does : DoesUnit g u w answer) where
  either : {X : Type 0} (f : Core D → X) (b : Bool) (x y : Core D) → f x ≡ f y → f (if b then x else y) ≡ f y
  either f true x y same = same
  either f false x y same = refl

  kept : {X : Type 0} (f : Core D → X) → f (record v { meta = with_frozen (counted_pages v); frozen = v.count; leaving = length v.freeing.items }) ≡ f v → f u ≡ f v
  kept f same = ap f begun ∙ either f (length v.meta.frozen.addresses == 0) (record v { meta = with_frozen (counted_pages v); frozen = v.count; leaving = length v.freeing.items }) v same

  not_begun : v.journal.phase ≡ Commit → u ≡ v
  not_begun is = ⊎_elim
      (λ none.
      let header : v.journal.phase ≡ Header = phase_of_none v.journal.phase (subst (λ n. IsPhase v.journal.phase n) none core.journaled.order.phase) in
      let no : ⊥ = let same : Header ≡ Commit = sym header ∙ is in cc in
      absurd no)
      (λ some. begun ∙ cond-false (length v.meta.frozen.addresses == 0) (record v { meta = with_frozen (counted_pages v); frozen = v.count; leaving = length v.freeing.items }) v (ne_eqb (length v.meta.frozen.addresses) 0 some))
      (cases_eq (length v.meta.frozen.addresses) 0)

  less_on : (a b c : ℕ) → a < b → b ≤ c → a < c
  less_on a b c less low = omega (arith, less, low)

  phase : u.journal.phase ≡ v.journal.phase
  phase = kept (λ (x : Core D). x.journal.phase) refl

  pub unit_does : DoesUnit g v w answer
  unit_does = record {
    less = λ done goal few more.
        let count = goes.count in
        let committed = kept (λ (x : Core D). x.committed) refl in
        less_on (units_for w goal) (units_for u goal) (units_for v goal) (does.less done goal (omega (arith, few, count)) (omega (arith, more, committed))) (goes.onward.units goal few);
    decides = λ done is. subst (λ (x : Core D). FinishesCommitPage g x w) (not_begun is) (does.decides done (phase ∙ is));
    others = λ off.
        let none = does.others (λ done is. off done (sym phase ∙ is)) in
        record {
          committed = none.committed ∙ kept (λ (x : Core D). x.committed) refl;
          moment = none.moment ∙ kept (λ (x : Core D). x.moment) refl;
          freeing = none.freeing ∙ kept (λ (x : Core D). x.freeing) refl;
          pending = none.pending ∙ ap (λ (d : D). (g.names d).pending) (kept (λ (x : Core D). x.device) refl);
        };
    lost = does.lost;
    same_flight = does.same_flight ∙ kept (λ (x : Core D). x.flight) refl;
    same_nodes = does.same_nodes ∙ kept (λ (x : Core D). x.nodes) refl;
  }
