-- The metadata stands on through each step of a commit.
use Rattle.std.proofs.Common.{◌≡◌, ◌⊎◌, inl, inr, ⊎_elim, ℕ, ◌<◌, ◌≤◌, ◌==◌, Bool, true, false, List, [], length, map, get_or, Option, Some, None, IsSome, is_some, option_map, unwrap_or, refl, sym, ◌∙◌, ap, subst, arith}
use Rattle.std.specs.List.{list_any}
use Rattle.std.proofs.lemmas.Bool.{both_ways, cases_eq, cases_lt}
use Rattle.std.proofs.lemmas.List.{get_or-map, get_or-set_same, get_or-set_other, length-set}
use Rattle.nl_field.specs.Numbers.{ShapeBounds}
use Rattle.nl_field.specs.Virtual.{map_bytes}
use Rattle.nl_field.specs.declared.shape.Shape.{Shape}
use Rattle.nl_iface.specs.Device.{IsVolumeShape}
use Rattle.nl_iface.specs.Stored.{Value}
use Rattle.nl_iface.specs.declared.counts.Counts.{Ghosts}
use Rattle.nl_journal.specs.Homes.{AreHome, copied}
use Rattle.nl_journal.specs.Outcomes.{IsHome, bytes_of}
use Rattle.nl_journal.specs.Progress.{IsPhase, Progress}
use Rattle.nl_journal.specs.Transaction.{IsTransaction, main_at, place}
use Rattle.nl_journal.specs.declared.answers.Phase.{Phase}
use Rattle.nl_journal.specs.declared.answers.Phase.TheVariants.{Header}
use Rattle.nl_journal.proofs.DirtyPages.{dirty_transaction}
use Rattle.nl_journal.proofs.Finishing.{phase_of_none}
use Rattle.nl_journal.proofs.Freezing.{freezes}
use Rattle.nl_journal.proofs.InOrders.{stays}
use Rattle.nl_meta.specs.Committed.{VirtualMap}
use Rattle.nl_meta.specs.Consistent.{AddressesRight, EntriesRight, NodesRight}
use Rattle.nl_meta.specs.Nodes.{graph_of}
use Rattle.nl_meta.specs.Pages.{Frozen, IsPages, Pages, dirty_pages, is_dirty, is_frozen, none_frozen, page_of}
use Rattle.nl_meta.specs.Running.{CleanIsStored, or_stored, running_over}
use Rattle.nl_meta.specs.Steps.{with_dirty}
use Rattle.nl_meta.proofs.Lists.{some_in}
use Rattle.nl_meta.proofs.RunningProofs.{not-with, running_map}
use Rattle.nl_meta_running.specs.Running.{IsNeeded, RunningIsRight, running_on, stored_on}
use Rattle.nl_meta_running.proofs.GraphStays.{graph-same}
use Rattle.nl_meta_running.proofs.Holds.{bounds-of}
use Rattle.nl_meta_running.proofs.SameNeeded.{addresses-right, entries-right, needed-from, needed-to, nodes-right}
use Rattle.nl_journal_commit.specs.Standing.{ChangesCanFreeze, FreezingPreservesGraph, HasFrozen, IsJournaled, AddressesPreserveGraph, PreservesGraph, SuperPagePreservesGraph, WritesFrozen, WritingPreservesGraph}
use Rattle.nl_journal_commit.proofs.Places.{absent_no_place, has_at, index_of, low_of, needed_home, no_place, resident_below, same_bytes, some_bytes}

module _ {D : Type 0} (g : Ghosts D) where
  -- where the pages that nodes need are what they were, all runs on
  module _ (s t : D) (pages now : Pages) (bounds : ShapeBounds (g.shape s)) (same_shape : g.shape t ≡ g.shape s) (runs : RunningIsRight g s pages) (count : length now.running ≡ length pages.running)
      (needed : (v : ℕ) → IsNeeded (g.shape s) (running_on g s pages) v → running_on g t now v ≡ running_on g s pages v) where
    same-graph : graph_of (g.shape t) (running_on g t now) ≡ graph_of (g.shape s) (running_on g s pages)
    same-graph = ap (λ (h : Shape). graph_of h (running_on g t now)) same_shape ∙ graph-same (g.shape s) bounds (running_on g s pages) (running_on g t now) needed

    runs-on : ((v : ℕ) → IsNeeded (g.shape s) (running_on g s pages) v → page_of now v ≡ None → g.tells) → (g.tells → CleanIsStored (stored_on g t) now) → RunningIsRight g t now
    runs-on absent clean = record {
      count = count ∙ runs.count ∙ ap (λ (h : Shape). h.vaddrs) (sym same_shape);
      nodes = subst (λ (h : Shape). NodesRight h (running_on g t now)) (sym same_shape) (nodes-right (g.shape s) bounds (running_on g s pages) (running_on g t now) needed runs.nodes);
      addresses = subst (λ (h : Shape). AddressesRight h (running_on g t now)) (sym same_shape) (addresses-right (g.shape s) bounds (running_on g s pages) (running_on g t now) needed runs.addresses);
      entries = subst (λ (h : Shape). EntriesRight h (running_on g t now)) (sym same_shape) (entries-right (g.shape s) bounds (running_on g s pages) (running_on g t now) needed runs.addresses runs.entries);
      absent = λ v h gone. absent v (needed-from (g.shape s) bounds (running_on g s pages) (running_on g t now) needed v (subst (λ (k : Shape). IsNeeded k (running_on g t now) v) same_shape h)) gone;
      clean = clean;
    }

  running-some : (s : D) (pages : Pages) (v : ℕ) (bytes : List ℕ) → page_of pages v ≡ Some bytes → running_on g s pages v ≡ Some bytes
  unfolding running_over
  running-some s pages v bytes is = ap (λ o. or_stored o (stored_on g s v)) is

  running-none : (s : D) (pages : Pages) (v : ℕ) → page_of pages v ≡ None → running_on g s pages v ≡ stored_on g s v
  unfolding running_over
  running-none s pages v is = ap (λ o. or_stored o (stored_on g s v)) is

  -- the running map where the pages in memory are the same, by what the device has at the others
  running-same : (s t : D) (pages now : Pages) (v : ℕ) → page_of now v ≡ page_of pages v → (page_of pages v ≡ None → stored_on g t v ≡ stored_on g s v) → running_on g t now v ≡ running_on g s pages v
  running-same s t pages now v same stored = by (page_of pages v) refl
    where
      by : (o : Option (List ℕ)) → page_of pages v ≡ o → running_on g t now v ≡ running_on g s pages v
      by (Some bytes) is = running-some t now v bytes (same ∙ is) ∙ sym (running-some s pages v bytes is)
      by None is = running-none t now v (same ∙ is) ∙ (stored is ∙ sym (running-none s pages v is))

  stored-same : (s t : D) (v : ℕ) → g.shape t ≡ g.shape s → bytes_of (g.map t) v ≡ bytes_of (g.map s) v → stored_on g t v ≡ stored_on g s v
  stored-same s t v same_shape same = ap (λ (h : Shape). map_bytes h (g.map t) v) same_shape ∙ same_bytes (g.shape s) (g.map s) (g.map t) v same

  stored-some : (s t : D) (v : ℕ) (bytes : List ℕ) → g.shape t ≡ g.shape s → v < (g.shape s).vaddrs → bytes_of (g.map t) v ≡ Some bytes → stored_on g t v ≡ Some bytes
  stored-some s t v bytes same_shape below is = ap (λ (h : Shape). map_bytes h (g.map t) v) same_shape ∙ some_bytes (g.shape s) (g.map t) v bytes below is

  -- a resident page is one of the volume
  resident-home : (s : D) (p : Progress) (pages : Pages) → IsJournaled g s p pages → (v : ℕ) → IsSome (page_of pages v) → IsHome (g.shape s).vaddrs v
  resident-home s p pages j v there = record {
    below = subst (λ (n : ℕ). v < n) j.runs.count (resident_below pages v there);
    outside = ⊎_elim (λ low. inl low) (λ some. ⊎_elim (λ inside. absurd (both_ways _ (ap is_some (j.apart v some inside)) there)) (λ high. inr high) (cases_lt v 67)) first;
  }
    where
      first : (v ≡ 0) ⊎ (1 ≤ v)
      first = ⊎_elim (λ e. inl e) (λ far. inr (omega (arith, far))) (cases_eq v 0)

  no-home : (phase : Phase) → phase ≡ Header → (frozen : Frozen) (m : VirtualMap) → AreHome frozen (copied phase) m
  no-home phase is frozen m j lt = absurd (none (subst (λ (x : Phase). j < copied x) is lt))
    where
      none : j < 0 → ⊥
      none h = omega (arith, h)

  -- ---- writes of the journal

  module _ (s t : D) (p q : Progress) (pages now : Pages) (volume : IsVolumeShape (g.shape s)) (j : IsJournaled g s p pages) (w : WritesFrozen g s p pages t q now) where
    bounds : ShapeBounds (g.shape s)
    bounds = bounds-of (g.shape s) volume

    page-same : (v : ℕ) → page_of now v ≡ page_of pages v
    page-same v = ap (λ (n : Pages). page_of n v) w.kept

    beside-same : g.tells → (v : ℕ) → IsHome (g.shape s).vaddrs v → place pages.frozen v ≡ None → stored_on g t v ≡ stored_on g s v
    beside-same tells v home none = stored-same s t v w.same_shape ((w.home tells).beside v home none)

    needed-same : (v : ℕ) → IsNeeded (g.shape s) (running_on g s pages) v → running_on g t now v ≡ running_on g s pages v
    needed-same v need = running-same s t pages now v (page-same v)
        (λ gone. beside-same (j.runs.absent v need gone) v (needed_home (g.shape s) bounds (running_on g s pages) v j.runs.addresses need) (absent_no_place pages v j.frozen gone))

    frozen-then : is_frozen now ≡ is_frozen pages → (v : ℕ) → is_frozen now v ≡ false → is_frozen pages v ≡ true → ⊥
    frozen-then same v f k = both_ways _ f (ap (λ h. h v) same ∙ k)

    clean-now : g.tells → CleanIsStored (stored_on g t) now
    clean-now tells = record { each = λ u bytes at d f. by u bytes (sym (page-same u) ∙ at) (ap (λ (n : Pages). is_dirty n u) (sym w.kept) ∙ d) f (is_frozen pages u) refl }
      where
        same-frozen : now.frozen ≡ pages.frozen → is_frozen now ≡ is_frozen pages
        same-frozen e = let f : Frozen → ℕ → Bool = λ x v. list_any (λ a. a == v) x.addresses in ap f e

        by : (u : ℕ) (bytes : List ℕ) → page_of pages u ≡ Some bytes → is_dirty pages u ≡ false → is_frozen now u ≡ false → (b : Bool) → is_frozen pages u ≡ b → stored_on g t u ≡ Some bytes
        by u bytes at d f false none =
            beside-same tells u (resident-home s p pages j u (ap is_some at)) (no_place pages.frozen u none) ∙ (j.runs.clean tells).each u bytes at d none
        by u bytes at d f true some =
            let i = index_of pages.frozen.addresses u some in
            ⊎_elim
            (λ stays. absurd (frozen-then (same-frozen stays.0) u f some))
            (λ home. stored-some s t u bytes w.same_shape (resident-home s p pages j u (ap is_some at)).below
            (subst (λ (v : ℕ). bytes_of (g.map t) v ≡ Some (main_at pages.frozen.images i.0)) i.2 (home.1 i.0 i.1) ∙ ap (λ (m : List ℕ). Some m) (some_in (main_at pages.frozen.images i.0) bytes (image i ∙ at))))
            ((w.home tells).brings (j.home tells))
          where
            image : (i : (i : ℕ) × (i < length pages.frozen.addresses) × (get_or pages.frozen.addresses i 0 ≡ u)) → Some (main_at pages.frozen.images i.0) ≡ page_of pages u
            image i = sym (j.frozen.unchanged i.0 i.1 (ap (is_dirty pages) i.2 ∙ d)) ∙ ap (page_of pages) i.2

    frozen-now : HasFrozen now
    frozen-now = ⊎_elim
        (λ same. subst (λ (n : Pages). HasFrozen n) (sym (w.kept ∙ ap (λ (x : Frozen). record pages { frozen = x }) same)) j.frozen)
        (λ gone. subst (λ (n : Pages). HasFrozen n) (sym (w.kept ∙ ap (λ (x : Frozen). record pages { frozen = x }) gone.1))
        (record { resident = λ i lt. absurd (none i lt); unchanged = λ i lt d. absurd (none i lt) })) w.frozen
      where
        none : (i : ℕ) → i < 0 → ⊥
        none i lt = omega (arith, lt)

    home-now : g.tells → AreHome now.frozen (copied q.phase) (bytes_of (g.map t))
    home-now tells = ⊎_elim
        (λ stays. ⊎_elim
        (λ are. subst (λ (x : Frozen). AreHome x (copied q.phase) (bytes_of (g.map t))) (sym stays) are.1)
        (λ all. absurd-or (stays) all.0)
        ((w.home tells).brings (j.home tells)))
        (λ gone. no-home q.phase gone.0 now.frozen (bytes_of (g.map t))) w.frozen
      where
        absurd-or : now.frozen ≡ pages.frozen → now.frozen ≡ none_frozen → AreHome now.frozen (copied q.phase) (bytes_of (g.map t))
        absurd-or kept none = no-home q.phase (phase_of_none q.phase (subst (λ (x : Frozen). IsPhase q.phase (length x.addresses)) none w.order.phase)) now.frozen (bytes_of (g.map t))

    pub writing-stands : PreservesGraph g s pages t q now
    writing-stands = record {
      journaled = record {
        runs = runs-on s t pages now bounds w.same_shape j.runs (ap (λ (n : Pages). length n.running) w.kept) needed-same (λ v need gone. j.runs.absent v need (sym (page-same v) ∙ gone)) clean-now;
        order = w.order;
        home = home-now;
        frozen = frozen-now;
        super_page = ap is_some (page-same 0) ∙ j.super_page;
        apart = λ v low high. page-same v ∙ j.apart v low high;
      };
      needed = needed-same;
      graph = same-graph s t pages now bounds w.same_shape j.runs (ap (λ (n : Pages). length n.running) w.kept) needed-same;
    }

  pub writing_stands : WritingPreservesGraph g
  writing_stands s t p q pages now volume j w = writing-stands s t p q pages now volume j w

  -- ---- the dirty pages are frozen

  pub freezing_stands : FreezingPreservesGraph g
  freezing_stands s p pages volume j held can = record {
    journaled = record {
      runs = runs-on s s pages now (bounds-of (g.shape s) volume) refl j.runs refl needed (λ v need gone. j.runs.absent v need gone)
          (λ tells. let a = (running_map (stored_on g s) pages (j.runs.clean tells)).frozen (ap (λ (x : Frozen). x.addresses) can.none) in a.clean);
      order = freezes g s p pages.frozen (dirty_pages pages) (ap (λ (x : Frozen). x.addresses) can.none) can.header can.dirty j.order;
      home = λ tells. no-home p.phase can.header (dirty_pages pages) (bytes_of (g.map s));
      frozen = record { resident = λ i lt. held.dirty_there (get_or pages.dirty i 0) (has_at pages.dirty i lt); unchanged = λ i lt d. image i lt (page_of pages (get_or pages.dirty i 0)) refl (held.dirty_there (get_or pages.dirty i 0) (has_at pages.dirty i lt)) };
      super_page = j.super_page;
      apart = j.apart;
    };
    needed = needed;
    graph = same-graph s s pages now (bounds-of (g.shape s) volume) refl j.runs refl needed;
  }
    where
      now : Pages
      now = record pages { dirty = []; frozen = dirty_pages pages }

      needed : (v : ℕ) → IsNeeded (g.shape s) (running_on g s pages) v → running_on g s now v ≡ running_on g s pages v
      needed v need = running-same s s pages now v refl (λ gone. refl)

      image : (i : ℕ) → i < length pages.dirty → (o : Option (List ℕ)) → page_of pages (get_or pages.dirty i 0) ≡ o → IsSome (page_of pages (get_or pages.dirty i 0))
          → page_of pages (get_or pages.dirty i 0) ≡ Some (get_or (map (λ v. unwrap_or (page_of pages v) []) pages.dirty) i [])
      image i lt None is there = absurd (both_ways _ (ap is_some is) there)
      image i lt (Some bytes) is there = is ∙ ap (λ (m : List ℕ). Some m) (sym (get_or-map (λ v. unwrap_or (page_of pages v) []) pages.dirty i 0 [] lt ∙ ap (λ o. unwrap_or o []) is))

  -- the dirty pages are those of a transaction where the super page is one of them
  pub dirty_is_a_transaction : (s : D) (p : Progress) (pages : Pages) → IsJournaled g s p pages → IsPages pages → is_dirty pages 0 ≡ true → IsTransaction (g.shape s).vaddrs (dirty_pages pages)
  dirty_is_a_transaction s p pages j held first =
      subst (λ (n : ℕ). IsTransaction n (dirty_pages pages)) j.runs.count (dirty_transaction pages held first (λ v low high. apart v low high (is_dirty pages v) refl))
    where
      apart : (v : ℕ) → 1 ≤ v → v < 67 → (b : Bool) → is_dirty pages v ≡ b → is_dirty pages v ≡ false
      apart v low high false is = is
      apart v low high true is =
          let i = index_of pages.dirty v is in
          absurd (both_ways _ (ap is_some (j.apart v low high)) (ap (λ (w : ℕ). is_some (page_of pages w)) (sym i.2) ∙ held.dirty_there (get_or pages.dirty i.0 0) (has_at pages.dirty i.0 i.1)))

  pub changes_can_freeze : ChangesCanFreeze g
  changes_can_freeze s p pages j held first header none = record { header = header; none = none; dirty = dirty_is_a_transaction s p pages j held first }

  -- ---- the super page

  pub super_page_stands : SuperPagePreservesGraph g
  super_page_stands s p pages bytes volume j = record {
    journaled = record {
      runs = runs-on s s pages now (bounds-of (g.shape s) volume) refl j.runs (length-set pages.running 0 (Some bytes)) needed (λ v need gone. j.runs.absent v need (sym (other v (far v need)) ∙ gone))
          (λ tells. let a = (running_map (stored_on g s) pages (j.runs.clean tells)).changed 0 bytes below in a.clean);
      order = j.order;
      home = j.home;
      frozen = record {
        resident = λ i lt. there (get_or pages.frozen.addresses i 0) (j.frozen.resident i lt);
        unchanged = λ i lt d. let n = not-with 0 pages.dirty (get_or pages.frozen.addresses i 0) d in other (get_or pages.frozen.addresses i 0) n.0 ∙ j.frozen.unchanged i lt n.1;
      };
      super_page = ap is_some here;
      apart = λ v low high. other v (λ e. omega (arith, e, low)) ∙ j.apart v low high;
    };
    needed = needed;
    graph = same-graph s s pages now (bounds-of (g.shape s) volume) refl j.runs (length-set pages.running 0 (Some bytes)) needed;
  }
    where
      now : Pages
      now = with_dirty pages 0 bytes

      below : 0 < length pages.running
      below = resident_below pages 0 j.super_page

      here : page_of now 0 ≡ Some bytes
      here = get_or-set_same pages.running 0 (Some bytes) None below

      other : (v : ℕ) → (v ≡ 0 → ⊥) → page_of now v ≡ page_of pages v
      other v ne = get_or-set_other pages.running 0 v (Some bytes) None ne

      there : (v : ℕ) → IsSome (page_of pages v) → IsSome (page_of now v)
      there v h = ⊎_elim (λ e. ap is_some (ap (page_of now) e ∙ here)) (λ ne. ap is_some (other v ne) ∙ h) (cases_eq v 0)

      far : (v : ℕ) → IsNeeded (g.shape s) (running_on g s pages) v → v ≡ 0 → ⊥
      far v need e = let low = low_of (g.shape s) (running_on g s pages) v j.runs.addresses need in omega (arith, low, e)

      needed : (v : ℕ) → IsNeeded (g.shape s) (running_on g s pages) v → running_on g s now v ≡ running_on g s pages v
      needed v need = running-same s s pages now v (other v (far v need)) (λ gone. refl)

  -- ---- what keeps the addresses

  pub addresses_stand : AddressesPreserveGraph g
  addresses_stand s t p pages volume j k = record {
    journaled = record {
      runs = runs-on s t pages pages (bounds-of (g.shape s) volume) k.same_shape j.runs refl needed (λ v need gone. j.runs.absent v need gone)
          (λ tells. record { each = λ u bytes at d f. stored tells u ∙ (j.runs.clean tells).each u bytes at d f });
      order = (stays g s t p pages.frozen volume j.order k).0;
      home = λ tells i lt. map-same tells (get_or pages.frozen.addresses i 0) ∙ j.home tells i lt;
      frozen = j.frozen;
      super_page = j.super_page;
      apart = j.apart;
    };
    needed = needed;
    graph = same-graph s t pages pages (bounds-of (g.shape s) volume) k.same_shape j.runs refl needed;
  }
    where
      map-same : g.tells → (v : ℕ) → bytes_of (g.map t) v ≡ bytes_of (g.map s) v
      map-same tells v = ap (λ o. option_map (λ (x : Value). x.1) o) (k.same_map tells v)

      stored : g.tells → (v : ℕ) → stored_on g t v ≡ stored_on g s v
      stored tells v = stored-same s t v k.same_shape (map-same tells v)

      needed : (v : ℕ) → IsNeeded (g.shape s) (running_on g s pages) v → running_on g t pages v ≡ running_on g s pages v
      needed v need = running-same s t pages pages v refl (λ gone. stored (j.runs.absent v need gone) v)

  -- ---- one step after the other

  pub stands_then : (s m t : D) (q r : Progress) (pages mid now : Pages) → IsVolumeShape (g.shape s) → g.shape m ≡ g.shape s → PreservesGraph g s pages m q mid → PreservesGraph g m mid t r now → PreservesGraph g s pages t r now
  stands_then s m t q r pages mid now volume same first next = record {
    journaled = next.journaled;
    needed = λ v need. next.needed v (subst (λ (h : Shape). IsNeeded h (running_on g m mid) v) (sym same) (needed-to (g.shape s) (bounds-of (g.shape s) volume) (running_on g s pages) (running_on g m mid) first.needed v need)) ∙ first.needed v need;
    graph = next.graph ∙ first.graph;
  }
