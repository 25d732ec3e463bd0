-- A core stands once pages are freed whose transaction is committed, and callbacks are acknowledged.
use Rattle.std.proofs.Common.{◌≡◌, ◌⊎◌, inl, inr, ⊎_elim, ℕ, ◌+◌, ◌*◌, ◌<◌, ◌≤◌, ◌^◌, ◌==◌, Bool, true, false, List, [], ◌∷◌, length, take, drop, filter, Option, Some, None, refl, sym, ap, subst, ◌∙◌, arith}
use Rattle.std.proofs.lemmas.List.{length-drop, length-take, take-append-drop}
use Rattle.std.proofs.Math.Seq.{drop-length, take-length}
use Rattle.std.proofs.lemmas.Bool.{cond-false, cond-true}
use Rattle.nl_meta.proofs.Lists.{none_some}
use Rattle.nl_field.specs.Graph.{Graph}
use Rattle.nl_field.specs.declared.answers.VirtualWrite.{VirtualWrite}
use Rattle.nl_field.specs.declared.answers.VirtualWrite.TheVariants as write
use Rattle.nl_field.specs.declared.pointer.Pointer.{Pointer}
use Rattle.nl_field.specs.declared.shape.Shape.{Shape}
use Rattle.nl_core_callbacks.specs.Handled.{nameless_body}
use Rattle.nl_flight.specs.Flight.{carried}
use Rattle.nl_spec_holders.specs.Holding.{Holding, HandledUpTo}
use Rattle.nl_spec_holders.specs.Laws.{OldNamesDiffer}
use Rattle.nl_spec_holders.proofs.LawProofs.{none_handled}
use Rattle.nl_iface.specs.Calls.{KeepsMedium, StoresPages}
use Rattle.nl_iface.specs.Device.{IsVolumeShape}
use Rattle.nl_iface.specs.Moves.{Acknowledges}
use Rattle.nl_iface.specs.Names.{Drops, Has, LivePage, Names, place_of, without_page}
use Rattle.nl_iface.specs.Rounds.{Empties}
use Rattle.nl_iface.specs.Space.{CanLand}
use Rattle.nl_iface.specs.declared.Callback.{Callback}
use Rattle.nl_iface.specs.declared.counts.Counts.{Ghosts}
use Rattle.nl_field.specs.CrashStates.{Earlier, Rose, top}
use Rattle.nl_field.specs.PointerItems.{PointerItems}
use Rattle.nl_flight.specs.Flight.{InFlight}
use Rattle.nl_journal.specs.Progress.{HasNumber, begun, next_after, raised, units_left}
use Rattle.nl_journal.specs.Units.{EndsCommit}
use Rattle.nl_journal.specs.declared.answers.Phase.{Phase}
use Rattle.nl_journal.specs.declared.answers.Phase.TheVariants.{Header, Image, Commit, Home}
use Rattle.nl_journal.proofs.CommitSteps.{begun_none}
use Rattle.nl_meta.specs.Consistent.{PageOfStamp}
use Rattle.nl_meta.specs.Nodes.{graph_of}
use Rattle.nl_meta.specs.Pages.{IsPages}
use Rattle.nl_meta_running.specs.Running.{IsNeeded, running_on}
use Rattle.nl_journal_commit.specs.Completing.{AwaitsCommitPage}
use Rattle.nl_journal_commit.specs.Standing.{IsJournaled}
use Rattle.nl_journal_commit.proofs.Standing.{addresses_stand}
use Rattle.nl_spec_commits.specs.Held.{IsHeldVolume}
use Rattle.nl_spec_commits.specs.SettlingLaws.{JournalIsObservable as IsHeldTold}
use Rattle.nl_spec_commits.specs.Trees.{Trees}
use Rattle.nl_tree.specs.Tree.{Tree}
use Rattle.nl_spec_commits.proofs.DeviceTrees.{addresses_go}
use Rattle.nl_spec_commits.proofs.Firm.{medium_keeps_firm}
use Rattle.nl_spec_commits.proofs.Holding.{acknowledged_keeps_held, freed_keeps_held}
use Rattle.std.specs.Prelude.{IfSome}
use Rattle.nl_meta.specs.Pages.{dirty_pages}
use Rattle.nl_journal_commit.specs.Committing.{ChangesAt}
use Rattle.nl_journal_commit.specs.Completing.{IsDecided, NumberPaid}
use Rattle.nl_spec_commits.specs.TreeLaws.{last_commit_moment}
use Rattle.nl_spec_commits.proofs.Freezing.{freeze_opens}
use Rattle.nl_core.specs.Calls.{CommitsAll}
use Rattle.nl_core.specs.Core.{HasSpace, IsCore, IsPhysical, begun_of, names_of, running_of}
use Rattle.nl_core.specs.Goes.{CommitsOnward, PreservesVolume, PreservesTrees, PreservesTree}
use Rattle.nl_core.specs.Trees.{CoreRepresentsTree, CoreRepresents, CoreIsObservable}
use Rattle.nl_core.specs.Writing.{HasTable, Settles, WritesAll, committed_count, counted_pages}
use Rattle.nl_core.specs.declared.state.Core.{Core}
use Rattle.nl_core.proofs.Counts.{onward_as, onward_then}
use Rattle.nl_core.proofs.Running.{runs_on}
use Rattle.nl_core.proofs.Written.{has_free_on, held_counted, journaled_counted, none_failed_on, same_running, written_core}
use Rattle.nl_core.proofs.WrittenTrees.{written_goes}
use Rattle.nl_iface.proofs.RoundSteps.{empties_laws}
use Rattle.nl_iface.proofs.Stops.{keeps_medium_then}
use Rattle.nl_journal_commit.specs.Freeing.{FreesEach, FreesOne, FreesPage}
use Rattle.nl_journal_commit.proofs.Frees.{frees_all}

-- ---- pages that are freed one after the other

one_space : (p : Pointer) (s t : Names) → FreesOne p s t → Empties s.space t.space × (CanLand s.space → CanLand t.space)
one_space p s t (inl f) = (empties_laws.freed s.space t.space f.space, f.space.lessened.lands f.space.bad)
one_space p s t (inr same) = (subst (λ (n : Names). Empties s.space n.space) (sym same.1) (empties_laws.none s.space), λ lands. subst (λ (n : Names). CanLand n.space) (sym same.1) lands)

pub frees_space : (ps : List Pointer) (s t : Names) → FreesEach ps s t → Empties s.space t.space × (CanLand s.space → CanLand t.space)
frees_space [] s t same = (subst (λ (n : Names). Empties s.space n.space) (sym same) (empties_laws.none s.space), λ lands. subst (λ (n : Names). CanLand n.space) (sym same) lands)
frees_space (p ∷ ps) s t f =
    let one = one_space p s f.0 f.1 in
    let more = frees_space ps f.0 t f.2 in
    (empties_laws.then s.space f.0.space t.space one.0 more.0, λ lands. more.1 (one.1 lands))

filter_has : (t : Callback → Bool) (xs : List Callback) (c : Callback) → Has (filter t xs) c → Has xs c
filter_has t [] c has = absurd has
filter_has t (x ∷ xs) c has = by (t x) refl (filter_has t xs c)
  where
    by : (b : Bool) → t x ≡ b → (Has (filter t xs) c → Has xs c) → Has (x ∷ xs) c
    by true is more = ⊎_elim (λ e. inl e) (λ far. inr (more far)) (subst (λ (ys : List Callback). Has ys c) (cond-true (t x) (x ∷ filter t xs) (filter t xs) is) has)
    by false is more = inr (more (subst (λ (ys : List Callback). Has ys c) (cond-false (t x) (x ∷ filter t xs) (filter t xs) is) has))

-- what is live then was, and what is pending then was, and counts as handled by the same transaction
pub record Fewer (s t : Names) : Type 0 where
  pub live : (q : ℕ) (page : LivePage) → t.live q ≡ Some page → s.live q ≡ Some page
  pub pending : (c : Callback) → Has t.pending c → Has s.pending c × (t.handled c.number ≡ s.handled c.number)
  pub posted : t.posted ≡ s.posted

fewer_same : (s t : Names) → t ≡ s → Fewer s t
fewer_same s t same = record {
  live = λ q page live. subst (λ (n : Names). n.live q ≡ Some page) same live;
  pending = λ c has. (subst (λ (n : Names). Has n.pending c) same has, ap (λ (n : Names). n.handled c.number) same);
  posted = ap (λ (n : Names). n.posted) same;
}

fewer_then : {r s t : Names} → Fewer r s → Fewer s t → Fewer r t
fewer_then a b = record {
  live = λ q page live. a.live q page (b.live q page live);
  pending = λ c has. let k = b.pending c has in let h = a.pending c k.0 in (h.0, k.1 ∙ h.1);
  posted = b.posted ∙ a.posted;
}

drops_fewer : (p : ℕ) (s t : Names) → Drops p s t → Fewer s t
drops_fewer p s t d = record {
  live = λ q page live. by q page (q == p) refl (sym (d.live q) ∙ live);
  pending = λ c has. (filter_has _ s.pending c (subst (λ (cs : List Callback). Has cs c) d.pending has), d.handled c has);
  posted = d.posted;
}
  where
    by : (q : ℕ) (page : LivePage) (b : Bool) → q == p ≡ b → without_page s.live p q ≡ Some page → s.live q ≡ Some page
    by q page true is live = absurd (none_some page (sym (cond-true (q == p) None (s.live q) is) ∙ live))
    by q page false is live = sym (cond-false (q == p) None (s.live q) is) ∙ live

pub frees_fewer : (ps : List Pointer) (s t : Names) → FreesEach ps s t → Fewer s t
frees_fewer [] s t same = fewer_same s t same
frees_fewer (p ∷ ps) s t f = fewer_then (⊎_elim (λ (one : FreesPage p s f.0). drops_fewer (place_of s p) s f.0 one.names) (λ same. fewer_same s f.0 same.1) f.1) (frees_fewer ps f.0 t f.2)

pub acknowledged_fewer : (upto : ℕ) (s t : Names) → Acknowledges upto s t → Fewer s t
acknowledged_fewer upto s t a = record { live = λ q page live. sym (a.live q) ∙ live; pending = λ c has. ((a.only c has).0, a.handled c has); posted = a.posted }

-- ---- a core that settles

module _ {D : Type 0} (g : Ghosts D) (w u : Core D) (due mark : ℕ) (mid : IsCore g w) (volume_w : IsVolumeShape (g.shape w.device)) (s : Settles g due mark w u) (tables : HasTable g w.device) (stores : g.tells → StoresPages g u.device)
    (may : IsHeldTold g w.journal w.meta → mark ≤ w.journal.number) (held_m : IsHeldVolume g s.between w.journal w.meta (carried w.flight) (drop due w.freeing.items) 0) where
  abbrev pub front : List Pointer
  front = take due w.freeing.items

  pub kept : KeepsMedium g w.device u.device
  kept = keeps_medium_then g w.device s.between u.device s.first_kept s.then_kept

  volume_m : IsVolumeShape (g.shape s.between)
  volume_m = subst IsVolumeShape (sym s.first_kept.virtual.same_shape) volume_w

  journaled_m : IsJournaled g s.between w.journal w.meta
  journaled_m = (addresses_stand g w.device s.between w.journal w.meta volume_w mid.journaled s.first_kept.virtual).journaled

  journaled_u : IsJournaled g u.device w.journal w.meta
  journaled_u = (addresses_stand g w.device u.device w.journal w.meta volume_w mid.journaled kept.virtual).journaled

  held_u : IsHeldVolume g u.device w.journal w.meta (carried w.flight) (drop due w.freeing.items) 0
  held_u = acknowledged_keeps_held g s.between u.device w.journal w.meta (carried w.flight) (drop due w.freeing.items) mark _ volume_m journaled_m held_m s.then_kept may s.acknowledges

  -- the tables
  pub first_fewer : Fewer (names_of g w) (g.names s.between)
  first_fewer = frees_fewer front (names_of g w) (g.names s.between) s.frees

  pub fewer : Fewer (names_of g w) (names_of g u)
  fewer = fewer_then first_fewer (acknowledged_fewer mark (g.names s.between) (names_of g u) s.acknowledges)

  pub empties : Empties (names_of g w).space (names_of g u).space
  empties = empties_laws.then (names_of g w).space (g.names s.between).space (names_of g u).space (frees_space front (names_of g w) (g.names s.between) s.frees).0
      (empties_laws.gone (g.names s.between).space (names_of g u).space s.acknowledges.space)

  lands : CanLand (names_of g w).space → CanLand (names_of g u).space
  lands l = s.acknowledges.space.lessened.lands s.acknowledges.space.bad ((frees_space front (names_of g w) (g.names s.between) s.frees).1 l)

  freed_live : (g.names s.between).space.live + length front ≡ (names_of g w).space.live
  freed_live =
      let h = mid.held in
      let one = h.holding in
      let lowered : Holding = record one { due = length front; frozen = []; leaving = 0 } in
      let names = h.is_of.runs.names in
      frees_all lowered front (drop due w.freeing.items) (g.names s.between)
      (record { first = h.awaits ∙ sym (take-append-drop due w.freeing.items); due = refl; thawed = refl; none_leaves = refl; differ = subst OldNamesDiffer (sym names) tables.differ })
      (record { table = h.holds.table; held = h.holds.held })
      (subst (λ (n : Names). FreesEach front n (g.names s.between)) (sym names) s.frees)
      ∙ ap (λ (n : Names). n.space.live) names

  pub live_then : (names_of g u).space.live + length front ≡ (names_of g w).space.live
  live_then = let gone = s.acknowledges.space.live in let live = freed_live in omega (arith, gone, live)

  abbrev pub settled_at : Core D
  settled_at = record w { device = u.device; freeing = u.freeing; leaving = 0 }

  needed_u : (a : ℕ) → IsNeeded (g.shape w.device) (running_of g w) a → running_on g u.device w.meta a ≡ running_of g w a
  needed_u = (addresses_stand g w.device u.device w.journal w.meta volume_w mid.journaled kept.virtual).needed

  space_u : HasSpace g settled_at
  space_u =
      let sp = mid.space in
      let counted = sp.counted in
      let live = live_then in
      let running = ap length (same_running g w settled_at kept.virtual.same_shape volume_w needed_u) in
      let items = ap length s.items in
      let taken = length-take due w.freeing.items in
      let left = length-drop due w.freeing.items in
      let kept_blocks = empties.same.kept in
      let block = empties.same.block in
      let all = empties.same.all in
      let before = sp.all in
      let cap = ap (λ (h : Shape). h.cap) kept.virtual.same_shape in
      let few_files = sp.few in
      let both : length front + length u.freeing.items ≡ length w.freeing.items = omega (arith, items, taken, left) in
      let products : ((names_of g w).space.keep + (names_of g w).space.bad + 3) * (names_of g w).space.block ≡ ((names_of g u).space.keep + (names_of g u).space.bad + 3) * (names_of g u).space.block =
      ap (λ k. (k + 3) * (names_of g w).space.block) (sym kept_blocks) ∙ ap (λ n. ((names_of g u).space.keep + (names_of g u).space.bad + 3) * n) (sym block) in
      record {
        counted = omega (arith, counted, live, running, both);
        few = omega (arith, running, few_files, cap);
        all = omega (arith, all, before, products, cap);
        room = subst (λ (h : Shape). h.pblocks * h.pages ≤ length u.freeing.items + u.freeing.room) (sym kept.virtual.same_shape) (let r = sp.room in let room = s.room in omega (arith, r, room, both));
      }

  pub settled_core : g.formed u.device → IsCore g u
  settled_core formed = subst (λ (x : Core D). IsCore g x) (sym s.others) (record {
    formed = formed;
    shape = mid.shape ∙ sym kept.virtual.same_shape;
    journaled = journaled_u;
    free = has_free_on g w settled_at kept.virtual.same_shape volume_w needed_u refl mid.free;
    held = subst (λ (xs : List Pointer). IsHeldVolume g u.device w.journal w.meta (carried w.flight) xs 0) (sym s.items) held_u;
    counts = record { later = mid.counts.later; latest = mid.counts.latest; few = mid.counts.few; shut = λ off. ((mid.counts.shut off).0, refl) };
    flight = mid.flight;
    named = λ x has. subst (λ (h : Shape). IsPhysical h x.1.name) (sym kept.virtual.same_shape) (mid.named x has);
    stamped = mid.stamped;
    space = space_u;
    marked = λ c n has at. let old = fewer.pending c has in mid.marked c n old.0 (sym old.1 ∙ at);
    moment = subst (λ n. w.moment ≤ n) (sym kept.clock) mid.moment;
    writes = λ none. let c = mid.writes none in record {
      spare = kept.virtual.spare c.spare;
      lands = lands c.lands;
      firm = λ told. medium_keeps_firm g w.device u.device told.0 (c.firm told) kept (stores told.0);
      counts = subst (λ n. n < top) (sym kept.write_faults) c.counts;
    };
  })

  -- ---- how it went on

  same_count : u.count ≡ w.count
  same_count = ap (λ (x : Core D). x.count) s.others

  told_w : CoreIsObservable g u → CoreIsObservable g w
  told_w told = record {
    tells = told.tells;
    numbers = subst (λ (x : Core D). HasNumber x.journal (length x.meta.frozen.addresses)) s.others told.numbers;
    calls = subst (λ n. n < 9223372036854775808) same_count told.calls;
    moments = subst (λ n. n < 9223372036854775808) kept.clock told.moments;
  }

  runs_settled : g.tells → (pages : ℕ → Option PageOfStamp) (tree : Tree) → CoreRepresentsTree g w pages tree → CoreRepresentsTree g settled_at pages tree
  runs_settled tells pages tree at = runs_on g w settled_at pages tree at kept.virtual.same_shape needed_u
      (record { live = λ q page is. (q, fewer.live q page is, kept.bytes tells q); stamps = let same = kept.next_stamp in omega (arith, same) })

  module _ (v : Core D) (taken : ℕ) (first : PreservesVolume g taken v w) where
    runs_to_u : g.tells → (page_of_stamp : ℕ → Option PageOfStamp) (tree : Tree) → CoreRepresentsTree g v page_of_stamp tree → PreservesTree g u page_of_stamp tree
    runs_to_u tells page_of_stamp tree at =
        let k = first.runs tells page_of_stamp tree at in
        record { pages = k.pages; extends = k.extends; runs = subst (λ (x : Core D). CoreRepresentsTree g x k.pages tree) (sym s.others) (runs_settled tells k.pages tree k.runs) }

    goes_to_u : CoreIsObservable g u → (page_of_stamp : ℕ → Option PageOfStamp) (t : Trees) → CoreRepresents g v page_of_stamp t → PreservesTrees g v u page_of_stamp t
    goes_to_u told page_of_stamp t at =
        let k = first.trees (told_w told) page_of_stamp t at in
        let w_told = told_w told in
        record {
          pages = k.pages;
          trees = k.trees;
          stands = subst (λ (x : Core D). CoreRepresents g x k.pages k.trees) (sym s.others) (record {
            stands = addresses_go g w.device u.device w.journal w.meta w.count k.pages k.trees volume_w w_told.tells w_told.numbers mid.journaled kept.virtual k.stands.stands;
            runs = runs_settled w_told.tells k.pages k.trees.running k.stands.runs;
            committed = k.stands.committed;
            frozen = k.stands.frozen;
          });
          extends = k.extends;
          running = k.running;
          committed = k.committed;
          frozen = k.frozen;
          later = k.later;
        }

    pub settled_goes : PreservesVolume g taken v u
    settled_goes = record {
      same_shape = kept.virtual.same_shape ∙ first.same_shape;
      count = same_count ∙ first.count;
      nodes = record {
        generation = λ n. ap (λ (x : Graph). (x n).generation) graph_u ∙ first.nodes.generation n;
        body = λ n. ap (λ (x : Graph). nameless_body (x n).body) graph_u ∙ first.nodes.body n;
      };
      numbers = subst (λ (x : Core D). begun_of v ≤ begun_of x) (sym s.others) first.numbers;
      paid = subst (λ (x : Core D). NumberPaid (g.clock v.device) v.journal.number (g.clock u.device) x.journal.number) (sym s.others)
          (subst (λ n. NumberPaid (g.clock v.device) v.journal.number n w.journal.number) (sym kept.clock) first.paid);
      reads = subst (λ n. g.read_faults v.device ≤ n) (sym s.read_faults) first.reads;
      writes = subst (λ n. g.write_faults v.device ≤ n) (sym kept.write_faults) first.writes;
      moment = subst (λ (x : Core D). ((x.moment ≡ v.moment) × (x.committed ≡ v.committed)) ⊎ (Earlier (g.clock v.device) x.moment × (g.clock v.device ≤ x.moment))) (sym s.others) first.moment;
      onward = subst (λ (x : Core D). CommitsOnward v x) (sym s.others) (onward_then v w settled_at first.count first.onward (onward_as w settled_at refl refl refl refl));
      clock = subst (λ n. g.clock v.device ≤ n) (sym kept.clock) first.clock;
      stops = record {
        stands = λ off. ap (λ (x : Core D). x.stopped) s.others ∙ first.stops.stands off;
        none = λ none rose. first.stops.none (sym (ap (λ (x : Core D). x.stopped) s.others) ∙ none) (subst (λ n. Rose (g.write_faults v.device) n) kept.write_faults rose);
        some = λ none later.
            let k = first.stops.some none (λ z. later (ap (λ (x : Core D). x.stopped) s.others ∙ z)) in
            let same = ap (λ (x : Core D). x.stopped) s.others in
            let r = s.read_faults in
            let f = kept.write_faults in (
              subst (λ n. Rose (g.write_faults v.device) n) (sym kept.write_faults) k.0,
              (subst (λ n. Rose (g.read_faults v.device + g.write_faults v.device) n) (sym same) k.1.0, let low = k.1.1 in omega (arith, low, same, r, f)),
            );
      };
      stamps = record {
        never_falls = subst (λ n. g.next_stamp v.device ≤ n) (sym kept.next_stamp) first.stamps.never_falls;
        at_most = subst (λ n. n ≤ g.next_stamp v.device + taken) (sym kept.next_stamp) first.stamps.at_most;
        paid = λ low less. let a = first.stamps.paid (subst (λ n. n < top) kept.clock low) (subst (λ n. n < top) kept.write_faults less) in
            let n = kept.next_stamp in let k = kept.clock in let f = kept.write_faults in omega (arith, a, n, k, f);
      };
      posted = let low = first.posted in let same = fewer.posted in omega (arith, low, same);
      runs = runs_to_u;
      trees = goes_to_u;
      left = λ told page_of_stamp t y is at.
          let l = first.left (told_w told) page_of_stamp t y (is ∙ ap (λ (x : Core D). x.committed) s.others) at in
          record {
            later = subst (λ n. g.clock v.device ≤ n) (sym kept.clock) l.later;
            each = λ m c left. ⊎_elim inl
                (λ k. inr (k.0, subst (λ n. m ≤ n) (sym kept.clock) k.1, (k.2.0, k.2.1, k.2.2, λ after. k.2.3 (subst (λ n. n ≤ m) (ap (λ (x : Core D). x.moment) s.others) after))))
                (l.each m c (kept.left told.tells m c left));
          };
    }
      where
        graph_u : graph_of (g.shape u.device) (running_of g u) ≡ graph_of (g.shape w.device) (running_of g w)
        graph_u = ap (λ (x : Core D). graph_of (g.shape u.device) (running_on g u.device x.meta)) s.others ∙ (addresses_stand g w.device u.device w.journal w.meta volume_w mid.journaled kept.virtual).graph

-- ---- a whole commit

module _ {D : Type 0} (g : Ghosts D) (v w u : Core D) (answer : VirtualWrite) (b : WritesAll g v w answer) (core : IsCore g v) (volume : IsVolumeShape (g.shape v.device)) (few : begun_of v ≤ 2 ^ 63)
    (stores_w : g.tells → StoresPages g w.device) (formed_w : g.formed w.device) (writes : v.stopped ≡ 0) (held : IsPages v.meta) (done : answer ≡ write.Done) (s : Settles g (length w.freeing.items) (begun_of v + 1) w u) (tables : HasTable g w.device)
    (stores : g.tells → StoresPages g u.device) where
  mid : IsCore g w
  mid = written_core g v w answer b core volume few stores_w writes formed_w

  ends : EndsCommit (next_after (begun v.journal (length v.meta.frozen.addresses))) v.journal w.journal (counted_pages v) w.meta
  ends = b.commits.in_memory.ends done

  volume_w : IsVolumeShape (g.shape w.device)
  volume_w = subst IsVolumeShape (sym b.passes.named.same_shape) volume

  -- nothing is frozen
  none_left : length w.meta.frozen.addresses ≡ 0
  none_left = ap length ends.thawed

  shut : AwaitsCommitPage w.journal w.meta.frozen → ⊥
  shut more = shut_by w.journal.phase (length w.meta.frozen.addresses) ends.idle none_left more
    where
      shut_by : (phase : Phase) (n : ℕ) → phase ≡ Header → n ≡ 0 → n < units_left phase n → ⊥
      shut_by Header n is none more = let m : 0 < units_left Header 0 = subst (λ k. k < units_left Header k) none more in omega (arith, m)
      shut_by (Image i) n is none more = let no : ⊥ = cc in no
      shut_by Commit n is none more = let no : ⊥ = cc in no
      shut_by (Home i) n is none more = let no : ⊥ = cc in no

  number_is : begun_of w ≡ w.journal.number
  number_is = begun_none w.journal.phase w.journal.number (length w.meta.frozen.addresses) ends.idle none_left

  raised_number : w.journal.number ≡ raised (begun_of v)
  raised_number = ends.kept

  marked_below : IsHeldTold g w.journal w.meta → begun_of v + 1 ≤ w.journal.number
  marked_below told = let small = told.1 in let a = number_is in let r = raised_number in omega (arith, small, a, r)

  -- all that await their free are freed
  all_front : take (length w.freeing.items) w.freeing.items ≡ w.freeing.items
  all_front = take-length w.freeing.items

  none_wait : u.freeing.items ≡ []
  none_wait = s.items ∙ drop-length w.freeing.items

  all_held : IsHeldVolume g s.between w.journal w.meta (carried w.flight) (drop (length w.freeing.items) w.freeing.items) 0
  all_held =
      subst (λ (xs : List Pointer). IsHeldVolume g s.between w.journal w.meta (carried w.flight) xs 0) (sym (drop-length w.freeing.items))
      (subst (λ (f : List InFlight). IsHeldVolume g s.between w.journal w.meta (carried f) [] 0) (sym b.rest.flight)
      (freed_keeps_held g answer b.froze b.earlier b.decided v.device w.device s.between v.journal w.journal (counted_pages v) w.meta (carried v.flight) v.freeing.items _ volume
      (journaled_counted g v w answer b core volume few stores_w writes) (held_counted g v w answer b core volume few stores_w writes) b.commits.parts done volume_w mid.journaled shut tables.differ s.first_kept
      (subst (λ (f : PointerItems). FreesEach f.items (names_of g w) (g.names s.between)) b.rest.freeing (subst (λ (xs : List Pointer). FreesEach xs (names_of g w) (g.names s.between)) all_front s.frees))))

  abbrev fewer_pages : Fewer (names_of g w) (names_of g u)
  fewer_pages = fewer g w u (length w.freeing.items) (begun_of v + 1) mid volume_w s tables stores marked_below all_held

  marked_m : HandledUpTo (g.names s.between) (begun_of v + 1)
  marked_m c n has at =
      let one = (first_fewer g w u (length w.freeing.items) (begun_of v + 1) mid volume_w s tables stores marked_below all_held).pending c has in
      let t = b.passes.named.tables in
      core.marked c n (subst (λ (cs : List Callback). Has cs c) t.pending one.0) (sym (t.handled c.number) ∙ sym one.1 ∙ at)

  pub none_marked : (c : Callback) → Has (names_of g u).pending c → (names_of g u).handled c.number ≡ None
  none_marked = none_handled (begun_of v + 1) (g.names s.between) (names_of g u) s.acknowledges marked_m

  pub committed_core : g.formed u.device → IsCore g u
  committed_core = settled_core g w u (length w.freeing.items) (begun_of v + 1) mid volume_w s tables stores marked_below all_held

  pub committed_goes : PreservesVolume g 512 v u
  committed_goes = settled_goes g w u (length w.freeing.items) (begun_of v + 1) mid volume_w s tables stores marked_below all_held v 512
      (written_goes g v w answer b core volume few stores_w writes held)

  -- its commit page was finished
  decided_by : (o : Option ℕ) → b.decided ≡ o → (w.committed ≡ v.count) × Earlier (g.clock v.device) w.moment × (g.clock v.device ≤ w.moment)
  decided_by None none = absurd (⊎_elim (λ y. y.1 done)
      (λ y. shut (subst (λ (o : Option ℕ). IsDecided o b.commits.parts.halfway w.journal (dirty_pages b.commits.parts.rest) w.meta.frozen) none y.4
      (freeze_opens (g.shape b.commits.parts.between).vaddrs b.commits.parts.halfway b.commits.parts.rest y.2))) b.commits.parts.second)
  decided_by (Some m) is =
      let d = subst (λ (o : Option ℕ). IfSome o (ChangesAt g v.device w.device v.journal w.journal (counted_pages v) w.meta)) is b.decided_at in (
        b.committed ∙ ap (λ o. committed_count v b.earlier o) is,
        subst (λ n. Earlier (g.clock v.device) n) (sym (b.moment ∙ ap (λ o. last_commit_moment v.moment b.earlier o) is)) d.later,
        subst (λ n. g.clock v.device ≤ n) (sym (b.moment ∙ ap (λ o. last_commit_moment v.moment b.earlier o) is)) d.from,
      )

  pub commits_all : (number : ℕ) → number ≡ next_after (begun_of v) → CommitsAll g v u number
  commits_all number is = record {
    is_next = is;
    clean = ap (λ (x : Core D). x.meta.dirty) s.others ∙ ends.clean;
    thawed = ap (λ (x : Core D). x.meta.frozen.addresses) s.others ∙ ends.thawed;
    freed = none_wait;
    same_flight = ap (λ (x : Core D). x.flight) s.others ∙ b.rest.flight;
    same_nodes = ap (λ (x : Core D). x.nodes) s.others ∙ b.rest.nodes;
    committed = ap (λ (x : Core D). x.committed) s.others ∙ (decided_by b.decided refl).0;
    decided = subst (λ n. Earlier (g.clock v.device) n) (sym (ap (λ (x : Core D). x.moment) s.others)) (decided_by b.decided refl).1;
    from = subst (λ n. g.clock v.device ≤ n) (sym (ap (λ (x : Core D). x.moment) s.others)) (decided_by b.decided refl).2;
    acknowledged = record {
      pending = λ c has.
          let one = fewer_pages.pending c has in
          let t = b.passes.named.tables in
          (subst (λ (cs : List Callback). Has cs c) t.pending one.0, sym (t.handled c.number) ∙ sym one.1 ∙ none_marked c has, none_marked c has);
      posted = fewer_pages.posted ∙ b.passes.named.tables.posted;
    };
    space = λ none. subst (λ (n : Names). Empties n.space (names_of g u).space)
        (b.passes.named.names (none_failed_on g v w b.stopped b.faults.reads_never_fall b.faults.writes_never_fall (sym (ap (λ (x : Core D). x.stopped) s.others) ∙ none)))
        (empties g w u (length w.freeing.items) (begun_of v + 1) mid volume_w s tables stores marked_below all_held);
  }
