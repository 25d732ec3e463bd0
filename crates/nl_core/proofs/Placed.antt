-- A core stands on once a page was programmed for a line, or was not.
use Rattle.std.proofs.Common.{◌≡◌, ◌⊎◌, inl, inr, ⊎_elim, ℕ, ◌+◌, ◌*◌, ◌<◌, ◌≤◌, ◌==◌, true, false, List, length, Option, Some, refl, sym, ap, subst, ◌∙◌, arith}
use Rattle.std.specs.Prelude.{if◌then◌else◌, nat_le, nat_lt, ◌^◌, IsTrue}
use Rattle.std.proofs.lemmas.Bool.{and_from, cases_Bool, cond-false, cond-true, eq-eqb, eqb-true, le-leb, lt-ltb, ne_eqb}
use Rattle.nl_field.specs.Graph.{Graph}
use Rattle.nl_field.specs.Spelling.{is_stamp}
use Rattle.nl_field.specs.declared.answers.Named.{Named}
use Rattle.nl_field.specs.declared.answers.Named.TheVariants as named
use Rattle.nl_field.specs.declared.pointer.Pointer.{Pointer}
use Rattle.nl_field.specs.declared.pointer.Tag.{Tag}
use Rattle.nl_field.specs.declared.shape.Shape.{Shape}
use Rattle.nl_core_callbacks.specs.Handled.{nameless_body}
use Rattle.nl_flight.specs.Flight.{HasFlightRoom, InFlight, IsFlight, carried}
use Rattle.nl_spec_holders.specs.Laws.{PreservesHolding}
use Rattle.nl_spec_holders.specs.Lists.{ListGains}
use Rattle.nl_iface.specs.Holders.{tagged}
use Rattle.nl_iface.proofs.Stops.{tried_agree}
use Rattle.nl_iface.specs.Answers.{IfPlaced, IfRefused, IsPlaced, IsTriedNamed}
use Rattle.nl_iface.specs.Calls.{CrashStatesHave, OnlyReads, PlacesNewPage, PlacesNone, StoresMap, StoresPages, next_named, next_page, stored}
use Rattle.nl_iface.specs.Device.{IsVolumeShape}
use Rattle.nl_iface.specs.Left.{LeavesTried}
use Rattle.nl_iface.specs.Names.{Has, IsNames, LivePage, Names, SameTables}
use Rattle.nl_iface.specs.Space.{CanLand, NoneRetired, SameSegment}
use Rattle.nl_iface.specs.Stored.{Stored}
use Rattle.nl_iface.specs.declared.Callback.{Callback}
use Rattle.nl_iface.specs.declared.counts.Counts.{Ghosts}
use Rattle.nl_meta.proofs.Lists.{some_in}
use Rattle.nl_meta.specs.Consistent.{PageOfStamp}
use Rattle.nl_meta.specs.Nodes.{graph_of}
use Rattle.nl_meta_running.specs.Running.{IsNeeded, running_on}
use Rattle.nl_journal_commit.proofs.Standing.{addresses_stand}
use Rattle.nl_spec_commits.proofs.DeviceTrees.{addresses_go, holding_opens, pages_go, runs_still}
use Rattle.nl_spec_commits.proofs.Firm.{program_keeps_firm}
use Rattle.nl_spec_commits.proofs.Steps.{program_keeps_held, tables_keep_held}
use Rattle.nl_spec_commits.specs.DeviceLaws.{Extends, LeavesHolding}
use Rattle.nl_spec_commits.specs.Held.{IsHeldVolume}
use Rattle.nl_spec_commits.specs.Standing.{IsFirm, ShowsPages}
use Rattle.nl_spec_commits.specs.TreeLaws.{OpensFrom}
use Rattle.nl_spec_commits.specs.Trees.{Prefix, Trees}
use Rattle.nl_tree.specs.Tree.{Tree}
use Rattle.nl_core.specs.Calls.{FailureIsCounted}
use Rattle.nl_core.specs.Core.{HasSpace, IsCore, IsPhysical, names_of, running_of}
use Rattle.nl_core.specs.Goes.{PreservesVolume, PreservesTrees, PreservesTree}
use Rattle.nl_core.specs.Programming.{ProgramsNewName, PutsNone, PutsPage, with_page}
use Rattle.nl_core.specs.Trees.{CoreRepresentsTree, CoreRepresents, CoreIsObservable}
use Rattle.nl_core.specs.Writing.{stopped_by, stopped_on}
use Rattle.nl_core.specs.declared.state.Core.{Core}
use Rattle.nl_core.proofs.Counts.{counts_as, onward_as}
use Rattle.nl_core.proofs.Lines.{gains_put, page_is_flight}
use Rattle.nl_core.proofs.Running.{goes_as, runs_as, runs_on, with_none}
use Rattle.nl_core.proofs.Written.{below_end, has_free_on, none_failed_on, same_running, stops_on}

-- ---- the numbers of the space, and the callbacks

-- the segment is the same, a victim's pages can land, callbacks are pending that were, and none was posted
record Stays (s t : Names) : Type 0 where
  segment : SameSegment s.space t.space
  lands : NoneRetired s.space t.space → CanLand s.space → CanLand t.space
  pending : (c : Callback) → Has t.pending c → Has s.pending c × (t.handled c.number ≡ s.handled c.number)
  posted : t.posted ≡ s.posted

stays_tables : (s t : Names) → SameTables s t → SameSegment s.space t.space → (NoneRetired s.space t.space → CanLand s.space → CanLand t.space) → Stays s t
stays_tables s t same segment lands = record {
  segment = segment;
  lands = lands;
  pending = λ c has. (subst (λ (cs : List Callback). Has cs c) same.pending has, same.handled c.number);
  posted = same.posted;
}

stays_same : (s t : Names) → t ≡ s → Stays s t
stays_same s t is = subst (λ (n : Names). Stays s n) (sym is) (record {
  segment = record { block = refl; all = refl; bad = omega arith; kept = refl };
  lands = λ none lands. lands;
  pending = λ c has. (has, refl);
  posted = refl;
})

stays : {D : Type 0} (g : Ghosts D) (tag : Tag) (main : List ℕ) (answer : Named) (old new : D) → IfPlaced answer (PlacesNewPage g tag main 0 (g.names old) old new) → ((IsPlaced answer → ⊥) → PlacesNone g answer old new)
    → IfRefused answer (OnlyReads g old new) → Stays (g.names old) (g.names new)
stays g tag main (named.Placed at) old new p none refused = record {
  segment = p.space.same;
  lands = p.space.lessened.lands;
  pending = λ c has. (subst (λ (cs : List Callback). Has cs c) p.names.pending has, p.names.handled c has);
  posted = p.names.posted;
}
stays g tag main named.NotLive old new p none refused = stays_same (g.names old) (g.names new) refused.names
stays g tag main named.NoPage old new p none refused = stays_same (g.names old) (g.names new) refused.names
stays g tag main named.Fault old new p none refused =
    let n = none (λ placed. placed) in stays_tables (g.names old) (g.names new) n.tables n.fault.same n.fault.lessened.lands

-- no more and no fewer are live where none was placed
pub same_live : {D : Type 0} (g : Ghosts D) (answer : Named) (old new : D) → (IsPlaced answer → ⊥) → PlacesNone g answer old new → IfRefused answer (OnlyReads g old new) → (g.names new).space.live ≡ (g.names old).space.live
same_live g (named.Placed at) old new off none refused = absurd (off tt)
same_live g named.NotLive old new off none refused = ap (λ (n : Names). n.space.live) refused.names
same_live g named.NoPage old new off none refused = ap (λ (n : Names). n.space.live) refused.names
same_live g named.Fault old new off none refused = none.fault.live

module _ {D : Type 0} (g : Ghosts D) (v : Core D) (d : D) (flight : List InFlight) (tag : Tag) (main : List ℕ) (answer : Named) (b : ProgramsNewName g tag main answer v.device d) (core : IsCore g v)
    (volume : IsVolumeShape (g.shape v.device)) (writes : v.stopped ≡ 0) where
  abbrev pub programmed : Core D
  programmed = record v { device = d; flight = flight; stopped = stopped_by v.stopped (g.read_faults d) (g.write_faults v.device) (g.write_faults d) }

  both : Stays (names_of g v) (g.names d)
  both = stays g tag main answer v.device d b.placed b.none b.refused

  same_shape : g.shape d ≡ g.shape v.device
  same_shape = b.kept.virtual.same_shape

  needed : (a : ℕ) → IsNeeded (g.shape v.device) (running_of g v) a → running_on g d v.meta a ≡ running_of g v a
  needed = (addresses_stand g v.device d v.journal v.meta volume core.journaled b.kept.virtual).needed

  reads_on : g.read_faults v.device ≤ g.read_faults d
  reads_on = let same = b.kept.read_faults in omega (arith, same)

  -- ---- it is a core

  space_on : (g.names d).space.live + length (carried v.flight) ≡ (names_of g v).space.live + length (carried flight) → HasSpace g programmed
  space_on live =
      let s = core.space in
      let same = both.segment in
      let kept = same.kept in
      let block = same.block in
      let all = same.all in
      let before = s.all in
      let counted = s.counted in
      let few_files = s.few in
      let running = ap length (same_running g v programmed same_shape volume needed) in
      let cap = ap (λ (h : Shape). h.cap) same_shape in
      let products : ((names_of g v).space.keep + (names_of g v).space.bad + 3) * (names_of g v).space.block ≡ ((g.names d).space.keep + (g.names d).space.bad + 3) * (g.names d).space.block =
      ap (λ k. (k + 3) * (names_of g v).space.block) (sym kept) ∙ ap (λ n. ((g.names d).space.keep + (g.names d).space.bad + 3) * n) (sym block) in
      record {
        counted = omega (arith, live, counted, running);
        few = omega (arith, running, few_files, cap);
        all = omega (arith, all, before, products, cap);
        room = subst (λ (h : Shape). h.pblocks * h.pages ≤ length v.freeing.items + v.freeing.room) (sym same_shape) s.room;
      }

  pub programmed_core : (g.tells → StoresPages g d) → IsHeldVolume g d v.journal v.meta (carried flight) v.freeing.items v.leaving → IsFlight flight → ((x : Tag × Pointer) → Has (carried flight) x → IsPhysical (g.shape v.device) x.1.name)
      → ((x : Tag × Pointer) → Has (carried flight) x → IsTrue (is_stamp x.1.stamp))
      → (g.names d).space.live + length (carried v.flight) ≡ (names_of g v).space.live + length (carried flight) → g.formed d → IsCore g programmed
  programmed_core stores held lines named stamped live formed = record {
    formed = formed;
    shape = core.shape ∙ sym same_shape;
    journaled = (addresses_stand g v.device d v.journal v.meta volume core.journaled b.kept.virtual).journaled;
    free = has_free_on g v programmed same_shape volume needed refl core.free;
    held = held;
    counts = counts_as v programmed core.counts refl refl refl refl refl refl;
    flight = lines;
    named = λ x has. subst (λ (h : Shape). IsPhysical h x.1.name) (sym same_shape) (named x has);
    stamped = stamped;
    space = space_on live;
    marked = λ c n has at. let old = both.pending c has in core.marked c n old.0 (sym old.1 ∙ at);
    moment = let low = core.moment in let later = b.counts.ticks.clock in omega (arith, low, later);
    writes = λ none. let can = core.writes writes in record {
      spare = b.kept.virtual.spare can.spare;
      lands = both.lands b.retired can.lands;
      firm = λ told. program_keeps_firm g v.device d tag main answer told.0 (can.firm told) b.kept.virtual (b.left told.0) (stores told.0);
      counts = below_end (g.write_faults v.device) (g.write_faults d) (none_failed_on g v programmed refl reads_on b.counts.faults.never_falls none);
    };
  }

  -- ---- what a stop within leaves

  was_told : CoreIsObservable g programmed → CoreIsObservable g v
  was_told told = record {
    tells = told.tells;
    numbers = told.numbers;
    calls = told.calls;
    moments = let later = b.counts.ticks.clock in let low = told.moments in omega (arith, later, low);
  }

  firm : CoreIsObservable g programmed → IsFirm g v.device
  firm told = (core.writes writes).firm (told.tells, told.numbers)

  leaves_holding : CoreIsObservable g programmed → (page_of_stamp : ℕ → Option PageOfStamp) → ShowsPages (names_of g v) (g.bytes v.device) page_of_stamp → (c : Stored)
      → LeavesTried (g.shape v.device) (names_of g v) (g.bytes v.device) (next_named g tag main v.device) (stored g v.device) c → LeavesHolding g v.device page_of_stamp c
  leaves_holding told page_of_stamp shows c x =
      let f = firm told in
      record {
        same_virtual = x.same_virtual;
        agree = tried_agree (g.shape v.device) (names_of g v) (g.bytes v.device) (next_named g tag main v.device) (stored g v.device) c x f.agree
            (λ p page is same. absurd (let low = f.pages.named_below p page is in let at : page.stamp ≡ g.next_stamp v.device = same in let off : ⊥ = omega (arith, low, at) in off));
        moved = names_of g v;
        contents = g.bytes v.device;
        keeps = λ h is. subst (λ (n : Names). PreservesHolding h (record h { names = n })) is (record { holds = λ holds. holds; committed = λ holds kept. kept });
        shows = shows;
        pages = x.pages;
      }

  pub programmed_left : (g.tells → StoresMap g v.device) → CoreIsObservable g programmed → (page_of_stamp : ℕ → Option PageOfStamp) (t : Trees) (y : Prefix) → y.0 ≡ v.committed → CoreRepresents g v page_of_stamp t
      → CrashStatesHave g (OpensFrom (g.shape v.device) v.count v.moment t y) v.device d
  programmed_left map told page_of_stamp t y is at = record {
    later = (b.left told.tells).stops.later;
    each = λ m c left. ⊎_elim inl (λ k. inr (k.0, k.1, opens m (g.stored_of c) (⊎_elim (λ x. x.1) (λ x. x.0) k.2))) ((b.left told.tells).stops.each m c left);
  }
    where
      opens : (m : ℕ) (c : Stored) → LeavesTried (g.shape v.device) (names_of g v) (g.bytes v.device) (next_named g tag main v.device) (stored g v.device) c
          → OpensFrom (g.shape v.device) v.count v.moment t y m c
      opens m c x = (
        t.committed,
        inl refl,
        holding_opens g v.device v.journal v.meta v.count page_of_stamp t (carried v.flight) v.freeing.items c _ volume told.tells told.numbers core.held (firm told) (map told.tells) at.stands
            (leaves_holding told page_of_stamp at.runs.shows c x),
        λ after. let same = at.committed in omega (arith, is, same),
      )

  -- ---- how it went on

  -- none was placed
  runs_none : (IsPlaced answer → ⊥) → g.tells → (page_of_stamp : ℕ → Option PageOfStamp) (tree : Tree) → CoreRepresentsTree g v page_of_stamp tree → PreservesTree g programmed page_of_stamp tree
  runs_none off tells page_of_stamp tree at = with_none g programmed page_of_stamp tree
      (runs_on g v programmed page_of_stamp tree at same_shape needed
      (record { live = λ q page is. let was = sym ((b.none off).tables.live q) ∙ is in (q, was, b.kept.bytes tells q page was); stamps = b.next_stamp.never_falls }))

  -- one was: its write sequence number has it
  module _ (p : Pointer) (places : PlacesNewPage g tag main 0 (names_of g v) v.device d p) (taken : g.next_stamp d ≡ g.next_stamp v.device + 1) where
    abbrev new_page : PageOfStamp
    new_page = record { tag = tag; bytes = main }

    abbrev with_new : (ℕ → Option PageOfStamp) → ℕ → Option PageOfStamp
    with_new page_of_stamp stamp = if stamp == g.next_stamp v.device then Some new_page else page_of_stamp stamp

    at_new : (page_of_stamp : ℕ → Option PageOfStamp) (stamp : ℕ) → stamp ≡ g.next_stamp v.device → with_new page_of_stamp stamp ≡ Some new_page
    at_new page_of_stamp stamp is = cond-true (stamp == g.next_stamp v.device) (Some new_page) (page_of_stamp stamp) (eq-eqb stamp (g.next_stamp v.device) is)

    beside_new : (page_of_stamp : ℕ → Option PageOfStamp) (stamp : ℕ) → (stamp ≡ g.next_stamp v.device → ⊥) → with_new page_of_stamp stamp ≡ page_of_stamp stamp
    beside_new page_of_stamp stamp off = cond-false (stamp == g.next_stamp v.device) (Some new_page) (page_of_stamp stamp) (ne_eqb stamp (g.next_stamp v.device) off)

    module _ (tells : g.tells) (page_of_stamp : ℕ → Option PageOfStamp) (tree : Tree) (at : CoreRepresentsTree g v page_of_stamp tree) where
      extends_new : Extends page_of_stamp (with_new page_of_stamp)
      extends_new stamp page is = beside_new page_of_stamp stamp (λ same. let low = at.given stamp page is in let off : ⊥ = omega (arith, low, same) in off) ∙ is

      shows_new : ShowsPages (g.names d) (g.bytes d) (with_new page_of_stamp)
      shows_new q page live = by (cases_Bool (q == p.name))
        where
          by : (q == p.name ≡ true) ⊎ (q == p.name ≡ false) → with_new page_of_stamp page.stamp ≡ Some (record { tag = page.tag; bytes = g.bytes d q })
          by (inl here) =
              let same : next_page g tag v.device ≡ page = some_in (next_page g tag v.device) page (sym (cond-true (q == p.name) (Some (next_page g tag v.device)) ((names_of g v).live q) here) ∙ sym (places.names.live q) ∙ live) in
              at_new page_of_stamp page.stamp (ap (λ (l : LivePage). l.stamp) (sym same))
              ∙ ap (λ (x : Tag). Some (record { tag = x; bytes = main })) (ap (λ (l : LivePage). l.tag) same)
              ∙ ap (λ bytes. Some (record { tag = page.tag; bytes = bytes })) (sym (ap (g.bytes d) (eqb-true q p.name here) ∙ places.bytes tells))
          by (inr far) =
              let was : (names_of g v).live q ≡ Some page = sym (cond-false (q == p.name) (Some (next_page g tag v.device)) ((names_of g v).live q) far) ∙ sym (places.names.live q) ∙ live in
              extends_new page.stamp (record { tag = page.tag; bytes = g.bytes v.device q }) (at.shows q page was)
              ∙ ap (λ bytes. Some (record { tag = page.tag; bytes = bytes })) (sym (b.kept.bytes tells q page was))

      given_new : (stamp : ℕ) (page : PageOfStamp) → with_new page_of_stamp stamp ≡ Some page → stamp < g.next_stamp d
      given_new stamp page is = by (cases_Bool (stamp == g.next_stamp v.device))
        where
          by : (stamp == g.next_stamp v.device ≡ true) ⊎ (stamp == g.next_stamp v.device ≡ false) → stamp < g.next_stamp d
          by (inl here) = let same = eqb-true stamp (g.next_stamp v.device) here in omega (arith, same, taken)
          by (inr far) = let low = at.given stamp page (sym (cond-false (stamp == g.next_stamp v.device) (Some new_page) (page_of_stamp stamp) far) ∙ is) in omega (arith, low, taken)

      runs_new : PreservesTree g programmed page_of_stamp tree
      runs_new = record {
        pages = with_new page_of_stamp;
        extends = extends_new;
        runs = record {
          runs = runs_still (g.shape d) (running_on g d v.meta) page_of_stamp (with_new page_of_stamp) extends_new tree (runs_as g v programmed page_of_stamp tree at same_shape needed);
          shows = shows_new;
          given = given_new;
        };
      }

  runs_by : g.tells → (page_of_stamp : ℕ → Option PageOfStamp) (tree : Tree) → CoreRepresentsTree g v page_of_stamp tree → (a : Named) → answer ≡ a → IfPlaced a (PlacesNewPage g tag main 0 (names_of g v) v.device d) → PreservesTree g programmed page_of_stamp tree
  runs_by tells page_of_stamp tree at (named.Placed p) is places = runs_new p places (b.next_stamp.taken (subst IsTriedNamed (sym is) tt)) tells page_of_stamp tree at
  runs_by tells page_of_stamp tree at named.NotLive is places = runs_none (λ placed. subst IsPlaced is placed) tells page_of_stamp tree at
  runs_by tells page_of_stamp tree at named.NoPage is places = runs_none (λ placed. subst IsPlaced is placed) tells page_of_stamp tree at
  runs_by tells page_of_stamp tree at named.Fault is places = runs_none (λ placed. subst IsPlaced is placed) tells page_of_stamp tree at

  runs_to : g.tells → (page_of_stamp : ℕ → Option PageOfStamp) (tree : Tree) → CoreRepresentsTree g v page_of_stamp tree → PreservesTree g programmed page_of_stamp tree
  runs_to tells page_of_stamp tree at = runs_by tells page_of_stamp tree at answer refl b.placed

  goes_to : CoreIsObservable g programmed → (page_of_stamp : ℕ → Option PageOfStamp) (t : Trees) → CoreRepresents g v page_of_stamp t → PreservesTrees g v programmed page_of_stamp t
  goes_to told page_of_stamp t at =
      let k = runs_to told.tells page_of_stamp t.running at.runs in
      goes_as g v programmed page_of_stamp t k
      (pages_go g d v.journal v.meta v.count page_of_stamp k.pages t k.extends
      (addresses_go g v.device d v.journal v.meta v.count page_of_stamp t volume told.tells told.numbers core.journaled b.kept.virtual at.stands)) at.committed at.frozen

  pub programmed_goes : (g.tells → StoresMap g v.device) → PreservesVolume g 1 v programmed
  programmed_goes map = record {
    same_shape = same_shape;
    count = refl;
    nodes = record { generation = λ n. ap (λ (x : Graph). (x n).generation) graph; body = λ n. ap (λ (x : Graph). nameless_body (x n).body) graph };
    numbers = omega arith;
    paid = λ low. let later = b.counts.ticks.clock in omega (arith, later);
    reads = reads_on;
    writes = b.counts.faults.never_falls;
    moment = inl (refl, refl);
    onward = onward_as v programmed refl refl refl refl;
    clock = b.counts.ticks.clock;
    stops = stops_on g v programmed refl reads_on b.counts.faults.never_falls;
    stamps = record { never_falls = b.next_stamp.never_falls; at_most = b.next_stamp.at_most_one; paid = b.next_stamp.paid };
    posted = let same = both.posted in omega (arith, same);
    runs = runs_to;
    trees = goes_to;
    left = λ told page_of_stamp t y is at. programmed_left map told page_of_stamp t y is at;
  }
    where
      graph : graph_of (g.shape d) (running_on g d v.meta) ≡ graph_of (g.shape v.device) (running_of g v)
      graph = (addresses_stand g v.device d v.journal v.meta volume core.journaled b.kept.virtual).graph

  pub programmed_cause : FailureIsCounted g (answer ≡ named.Fault) v programmed
  programmed_cause failed = inr (b.counts.faults.cause failed)

-- ---- both ends of a try

-- a number from 1 on, below 2^63, is spelled
pub is_spelled : (stamp : ℕ) → 1 ≤ stamp → stamp < 2 ^ 63 → IsTrue (is_stamp stamp)
is_spelled stamp some low = and_from (nat_le 1 stamp) (nat_lt stamp (2 ^ 63)) (le-leb 1 stamp some) (lt-ltb stamp (2 ^ 63) low)

not_placed : (a : Named) → ((p : Pointer) → a ≡ named.Placed p → ⊥) → IsPlaced a → ⊥
not_placed (named.Placed p) none placed = none p refl
not_placed named.NotLive none placed = placed
not_placed named.NoPage none placed = placed
not_placed named.Fault none placed = placed

pub if_off : (a : Named) (P : Pointer → Type 0) → ((p : Pointer) → a ≡ named.Placed p → ⊥) → IfPlaced a P
if_off (named.Placed p) P none = absurd (none p refl)
if_off named.NotLive P none = tt
if_off named.NoPage P none = tt
if_off named.Fault P none = tt

module _ {D : Type 0} (g : Ghosts D) (v w : Core D) (tag : Tag) (main : List ℕ) (answer : Named) (b : ProgramsNewName g tag main answer v.device w.device)
    (is : w ≡ record v { device = w.device; stopped = stopped_on g (g.write_faults v.device) v w }) (core : IsCore g v) (volume : IsVolumeShape (g.shape v.device)) (writes : v.stopped ≡ 0)
    (map : g.tells → StoresMap g v.device) (stores : g.tells → StoresPages g w.device) where
  -- none was placed
  module _ (none : (p : Pointer) → answer ≡ named.Placed p → ⊥) where
    off : IsPlaced answer → ⊥
    off = not_placed answer none

    pub none_core : g.formed w.device → IsCore g w
    none_core formed = subst (λ (x : Core D). IsCore g x) (sym is) (programmed_core g v w.device v.flight tag main answer b core volume writes stores
        (tables_keep_held g v.device w.device v.journal v.meta (carried v.flight) v.freeing.items _ volume core.journaled core.held b.kept.virtual (b.none off).tables) core.flight core.named core.stamped
        (let same = same_live g answer v.device w.device off (b.none off) b.refused in omega (arith, same)) formed)

    pub none_goes : PreservesVolume g 1 v w
    none_goes = subst (λ (x : Core D). PreservesVolume g 1 v x) (sym is) (programmed_goes g v w.device v.flight tag main answer b core volume writes map)

    pub none_cause : FailureIsCounted g (answer ≡ named.Fault) v w
    none_cause = subst (λ (x : Core D). FailureIsCounted g (answer ≡ named.Fault) v x) (sym is) (programmed_cause g v w.device v.flight tag main answer b core volume writes)

    pub puts_none : PutsNone g answer v w
    puts_none = subst (λ (x : Core D). PutsNone g answer v x) (sym is) (record { none = b.none off; not_live = b.not_live; others = refl; refused = b.refused })

  -- one was, and it is in flight
  module _ (p : Pointer) (placed : answer ≡ named.Placed p) (worker line : ℕ) (known : worker < 8) (some : 0 < line) (place : HasFlightRoom v.flight worker)
      (numbers : IsNames (g.shape v.device) (g.next_stamp v.device) (names_of g v)) where
    abbrev pub lines : List InFlight
    lines = with_page v.flight worker line tag p

    abbrev pub put_in : Core D
    put_in = record w { flight = with_page v.flight worker line tag p }

    put_is : put_in ≡ programmed g v w.device lines tag main answer b core volume writes
    put_is = ap (λ (x : Core D). record x { flight = lines }) is

    places : PlacesNewPage g tag main 0 (names_of g v) v.device w.device p
    places = subst (λ (a : Named). IfPlaced a (PlacesNewPage g tag main 0 (names_of g v) v.device w.device)) placed b.placed

    gains : ListGains tagged (tag, p) (carried v.flight) (carried lines)
    gains = gains_put v.flight worker line tag p core.flight known

    pub put_core : IsTrue (is_stamp (g.next_stamp v.device)) → g.formed w.device → IsCore g put_in
    put_core spelled formed = subst (λ (x : Core D). IsCore g x) (sym put_is) (programmed_core g v w.device lines tag main answer b core volume writes stores
        (program_keeps_held g v.device w.device v.journal v.meta (carried v.flight) (carried lines) v.freeing.items tag main p _ volume core.journaled core.held b.kept.virtual numbers places gains)
        (page_is_flight v.flight worker core.flight known line tag p some place)
        (λ x has. ⊎_elim (λ is. subst (λ (y : Tag × Pointer). IsPhysical (g.shape v.device) y.1.name) (sym is) (places.is_new.low, places.is_new.high)) (core.named x) (gains.only x has))
        (λ x has. ⊎_elim (λ is. subst (λ (y : Tag × Pointer). IsTrue (is_stamp y.1.stamp)) (sym is) (subst (λ n. IsTrue (is_stamp n)) (sym places.stamp) spelled)) (core.stamped x) (gains.only x has))
        (let more = places.space.live in let size = gains.size in omega (arith, more, size)) formed)

    pub put_goes : PreservesVolume g 1 v put_in
    put_goes = subst (λ (x : Core D). PreservesVolume g 1 v x) (sym put_is) (programmed_goes g v w.device lines tag main answer b core volume writes map)

    pub put_page : PutsPage g worker line tag main v put_in p
    put_page = subst (λ (x : Core D). PutsPage g worker line tag main v x p) (sym put_is) (record {
      places = places;
      flight = refl;
      others = refl;
    })
