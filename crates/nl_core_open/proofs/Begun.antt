-- A core that is begun after an opening stands.
use Rattle.std.proofs.Common.{◌≡◌, ◌≢◌, ◌⊎◌, inl, inr, nat_lt, true, false, ℕ, ◌+◌, ◌*◌, ◌<◌, ◌≤◌, List, [], map, length, Option, Some, None, IsSome, refl, sym, ap, subst, ◌∙◌, arith}
use Rattle.std.specs.Prelude.{AllPairs, is_some}
use Rattle.std.proofs.lemmas.Bool.{cases_Bool, cond-false, ltb-true}
use Rattle.std.proofs.lemmas.List.{length-map}
use Rattle.nl_field.specs.CrashStates.{top}
use Rattle.nl_field.specs.PointerItems.{PointerItems}
use Rattle.nl_field.specs.Numbers.{ShapeBounds}
use Rattle.nl_field.specs.ScanList.{virtual_spare_seen}
use Rattle.nl_field.specs.declared.pointer.Pointer.{Pointer}
use Rattle.nl_field.specs.declared.pointer.Tag.{Tag}
use Rattle.nl_field.specs.declared.seen.Seen.{Seen}
use Rattle.nl_field.specs.declared.shape.Shape.{Shape}
use Rattle.nl_device.specs.Reopened.{AreTagged}
use Rattle.nl_device.specs.Retain.{SameMedium}
use Rattle.nl_device.specs.declared.device.Device.{Device}
use Rattle.nl_flight.specs.Flight.{InFlight, IsFlight, carried, nothing}
use Rattle.nl_spec_holders.specs.Opening.{OpensHolding}
use Rattle.nl_iface.specs.Calls.{StoresPages}
use Rattle.nl_iface.specs.Device.{IsVolumeShape}
use Rattle.nl_iface.specs.Holders.{tagged}
use Rattle.nl_iface.specs.Moves.{Retains}
use Rattle.nl_iface.specs.Names.{Has, IsNames, IsTableOfNames, LivePage}
use Rattle.nl_iface.specs.Space.{CanLand}
use Rattle.nl_iface.specs.Stored.{NamedAgree, NoneFailed, Stored}
use Rattle.nl_iface.specs.declared.counts.Counts.{Ghosts}
use Rattle.nl_journal.specs.Outcomes.{IsHome}
use Rattle.nl_field.specs.Medium.{shape_of_image}
use Rattle.nl_field.specs.Page.{Image}
use Rattle.nl_field.specs.Virtual.{map_bytes}
use Rattle.nl_tree.specs.Tree.{Tree}
use Rattle.nl_meta.specs.Committed.{VirtualMap, committed, committed_of}
use Rattle.nl_meta.specs.Consistent.{page_on}
use Rattle.nl_meta.proofs.ImageProofs.{image_is_right}
use Rattle.nl_meta.specs.Running.{running_over}
use Rattle.nl_meta.specs.Nodes.{Held, held_in}
use Rattle.nl_meta.specs.PointerLists.{with_tag}
use Rattle.nl_meta.proofs.Lists.{none_some}
use Rattle.nl_meta_running.specs.Running.{running_on}
use Rattle.nl_meta_running.proofs.Holds.{bounds-of}
use Rattle.nl_journal_commit.specs.Completing.{AwaitsCommitPage}
use Rattle.nl_journal_commit.specs.Holding.{running_holders}
use Rattle.nl_journal_commit.specs.Standing.{IsJournaled, PreservesGraph}
use Rattle.nl_journal_commit.proofs.Standing.{addresses_stand}
use Rattle.nl_spec_commits.specs.Held.{IsHeldVolume, opened}
use Rattle.nl_spec_commits.specs.Committed.{read_as}
use Rattle.nl_spec_commits.specs.Standing.{IsFirm, ShowsPages}
use Rattle.nl_spec_image.specs.CrashConsistency.{MapRepresents}
use Rattle.nl_spec_image.proofs.NamedPages.{named_member}
use Rattle.nl_field.specs.SpareRecord.{stamp_of}
use Rattle.nl_spec_image.specs.RightFor.{PagesRepresent}
use Rattle.nl_spec_image.specs.Stands.{ImageRepresents, bytes_found}
use Rattle.nl_spec_commits.proofs.Stopping.{stands_alike}
use Rattle.nl_spec_commits.specs.Trees.{RepresentsTree, all_at}
use Rattle.nl_recover.proofs.Imaged.{walks_the_image}
use Rattle.nl_core.specs.Trees.{CoreRepresents}
use Rattle.nl_spec_commits.proofs.Holding.{opening_is_held}
use Rattle.nl_spec_commits.proofs.Opening.{opened_is_firm}
use Rattle.nl_spec_commits.proofs.Reading.{committed_reads}
use Rattle.nl_journal.specs.Committing.{committed_on}
use Rattle.nl_recover.specs.Recovering.{IsWalked}
use Rattle.nl_recover.specs.Starting.{Starts}
use Rattle.nl_recover.specs.declared.opening.Walked.{Walked}
use Rattle.nl_recover.proofs.Retains.{retained-differ}
use Rattle.nl_recover.proofs.StartFacts.{walked_starts}
use Rattle.nl_core.specs.Core.{FreeAreUnused, HasSpace, IsCore}
use Rattle.nl_core.specs.declared.state.Core.{Core}
use Rattle.nl_core.proofs.Written.{has_free_on, same_running}
use Rattle.nl_core_open.specs.Beginning.{IsAsStarted, IsStartedOver, stopped_by}
use Rattle.nl_core_open.proofs.Opens.{are_tagged, opens, tagged_pointers}
use Rattle.nl_core_open.proofs.Owners.{IsSeenAs}
use Rattle.nl_core_open.proofs.Shown.{on_readable, shown}

none_carried : length (carried nothing) ≡ 0
unfolding carried
none_carried = refl

nothing_carried : carried nothing ≡ []
unfolding carried
nothing_carried = refl

represented : (image : Image) (count : ℕ) (tree : Tree) → ImageRepresents image count tree → PagesRepresent (shape_of_image image) (committed_of image) (page_on image) tree
unfolding bytes_found
represented image count tree s = record { is_tree = s.is_tree; depicts = s.depicts }

below_end : (n : ℕ) → stopped_by n ≡ 0 → n < top
below_end n still = by (cases_Bool (nat_lt n top))
  where
    by : (nat_lt n top ≡ true) ⊎ (nat_lt n top ≡ false) → n < top
    by (inl low) = ltb-true n top low
    by (inr end) = absurd (let at : top ≡ 0 = sym (cond-false (nat_lt n top) 0 top end) ∙ still in let none : ⊥ = omega (arith, at) in none)

module _ {M : Type 0} (g : Ghosts (Device M)) (s t : Device M) (seen : List Seen) (w : Walked) (freeing : PointerItems) where
  -- the core over either device
  abbrev pub core_over : Device M → Core (Device M)
  core_over d = record {
    device = d;
    shape = g.shape s;
    journal = w.journal;
    meta = w.meta;
    nodes = w.nodes;
    flight = nothing;
    freeing = freeing;
    leaving = 0;
    count = w.count;
    committed = w.count;
    frozen = w.count;
    moment = g.clock s;
    stopped = stopped_by (g.write_faults s);
  }

  -- it is the core that is put together so
  pub made : (d : Device M) (shape : Shape) (flight : List InFlight) (moment stopped : ℕ) → shape ≡ g.shape s → flight ≡ nothing → g.clock s ≡ moment → stopped_by (g.write_faults s) ≡ stopped
      → core_over d ≡ record { device = d; shape = shape; journal = w.journal; meta = w.meta; nodes = w.nodes; flight = flight; freeing = freeing; leaving = 0; count = w.count; committed = w.count; frozen = w.count; moment = moment; stopped = stopped }
  made d shape flight moment stopped is_shape is_flight is_moment is_stopped = λ i. record {
    device = d;
    shape = (sym is_shape) i;
    journal = w.journal;
    meta = w.meta;
    nodes = w.nodes;
    flight = (sym is_flight) i;
    freeing = freeing;
    leaving = 0;
    count = w.count;
    committed = w.count;
    frozen = w.count;
    moment = is_moment i;
    stopped = is_stopped i;
  }

  module _ (can : IsAsStarted g s seen) (is : IsWalked g s seen w) (volume : IsVolumeShape (g.shape s)) where
    starts : Starts g s w
    starts = walked_starts g s seen w is can.none_failed

    journaled : IsJournaled g s w.journal w.meta
    journaled = record {
      runs = starts.runs;
      order = starts.order;
      home = starts.home;
      frozen = record { resident = λ i lt. ap is_some (starts.frozen i lt); unchanged = λ i lt same. starts.frozen i lt };
      super_page = starts.super_page;
      apart = starts.apart;
    }

    shut : AwaitsCommitPage w.journal w.meta.frozen → ⊥
    shut more = let few = starts.decided in let no : ⊥ = omega (arith, more, few) in no

    bounds : ShapeBounds (g.shape s)
    bounds = bounds-of (g.shape s) volume

    free : FreeAreUnused g (core_over s)
    free = record {
      count_nodes = is.spaces.nodes;
      count_pool = let first = is.spaces.first in let pool = is.spaces.pool in let all = bounds.addresses in omega (arith, first, pool, all);
      nodes = record { each = is.free.nodes };
      pool = record {
        first = is.spaces.first;
        each = λ a low high.
            let first = is.spaces.first in
            let k = is.free.pool a (omega (arith, low, first)) high in
            (λ free uses. k.0 free uses.0 uses.1 uses.2, λ none. k.1 (λ n slot at. none (n, slot, at)));
      };
    }

    differ : AllPairs (λ (p q : Pointer). p.stamp ≢ q.stamp) (map (λ (h : Held). h.pointer) (held_in (g.shape s) (running_on g s w.meta)))
    differ = retained-differ (g.shape s) (running_on g s w.meta) seen is.consistent

    pointers_are : map tagged (running_holders g s w.meta) ≡ w.kept.items
    pointers_are = tagged_pointers (held_in (g.shape s) (running_on g s w.meta)) ∙ sym is.kept

    module _ (seen_as : (p : ℕ) (page : LivePage) → Has (g.found s) (p, page) → IsSeenAs (g.shape s) seen page) (same : SameMedium g s t) (place : Pointer → ℕ)
        (retains : Retains w.kept.items place (g.found s) (g.names t)) (table : IsTableOfNames (g.names t)) (names : IsNames (g.shape t) (g.next_stamp t) (g.names t)) (lands : CanLand (g.names t).space)
        (one_kept : (g.names t).space.keep + (g.names t).space.bad ≡ 1) (stores : g.tells → StoresPages g t) (lines : IsFlight nothing) (none : freeing.items ≡ [])
        (room : (g.shape s).pblocks * (g.shape s).pages ≤ freeing.room) where
      same_shape : g.shape t ≡ g.shape s
      same_shape = same.virtual.same_shape

      volume_t : IsVolumeShape (g.shape t)
      volume_t = subst IsVolumeShape (sym same_shape) volume

      stands : PreservesGraph g s w.meta t w.journal w.meta
      stands = addresses_stand g s t w.journal w.meta volume journaled same.virtual

      runs_alike : running_holders g t w.meta ≡ running_holders g s w.meta
      runs_alike = same_running g (core_over s) (core_over t) same_shape volume stands.needed

      owners : AreTagged place (g.found s) (running_holders g s w.meta)
      owners = are_tagged (g.shape s) (running_on g s w.meta) seen place (g.found s) is.consistent can.owners seen_as

      opening : OpensHolding w.kept.items (opened g t w.journal w.meta)
      opening = opens (opened g t w.journal w.meta) w.kept.items place (g.found s) (ap (λ (xs : List (Tag × Pointer)). map tagged xs) runs_alike ∙ pointers_are) retains
          (subst (λ (ps : List Pointer). AllPairs (λ (p q : Pointer). p.stamp ≢ q.stamp) ps) (sym is.kept) differ)
          (subst (λ (xs : List (Tag × Pointer)). AreTagged place (g.found s) xs) (sym runs_alike) owners) refl refl refl refl refl refl refl (omega arith)

      same_map : g.tells → g.map t ≡ g.map s
      same_map tells = λ i v. same.virtual.same_map tells v i

      -- what is stored is what runs
      stored_runs : g.tells → (v : ℕ) → IsHome (g.shape t).vaddrs v → read_as (g.shape t) (committed_on g t) v ≡ running_on g t w.meta v
      stored_runs tells v home =
          sym (committed_reads (g.shape t) (g.map t) v volume_t home.below)
          ∙ (λ i. committed (same_shape i) (map_bytes (same_shape i) (same_map tells i)) v)
          ∙ sym (is.same tells v)
          ∙ sym (λ i. running_over (map_bytes (same_shape i) (same_map tells i)) w.meta v)

      held : IsHeldVolume g t w.journal w.meta [] [] 0
      held = opening_is_held g t w.journal w.meta w.kept.items place (g.found s) volume_t stands.journaled shut stored_runs table retains opening

      pub as_many_pages : length (running_holders g t w.meta) ≡ length w.kept.items
      as_many_pages =
          let kept = sym (ap (λ (ps : List Pointer). length ps) pointers_are) ∙ length-map (running_holders g s w.meta) tagged in
          let running = ap (λ (xs : List (Tag × Pointer)). length xs) runs_alike in
          omega (arith, kept, running)

      space : HasSpace g (core_over t)
      space =
          let count = retains.count in
          let kept = sym (ap (λ (ps : List Pointer). length ps) pointers_are) ∙ length-map (running_holders g s w.meta) tagged in
          let running = ap (λ (xs : List (Tag × Pointer)). length xs) runs_alike in
          let all_held = length-map (held_in (g.shape s) (running_on g s w.meta)) with_tag in
          let fits = is.consistent.data_fits in
          let cap = ap (λ (h : Shape). h.cap) same_shape in
          let block = names.block in
          let all = names.all in
          let b = bounds-of (g.shape t) volume_t in
          let files = b.data_pages in
          let one = one_kept in
          let products : ((g.names t).space.keep + (g.names t).space.bad + 3) * (g.names t).space.block ≡ 4 * (g.shape t).pages = ap (λ n. (n + 3) * (g.names t).space.block) one ∙ ap (λ n. 4 * n) block in
          let items = ap (λ (ps : List Pointer). length ps) none in
          let carries = none_carried in
          record {
            counted = omega (arith, count, kept, running, items, carries);
            few = omega (arith, running, all_held, fits, cap);
            all = omega (arith, all, files, products);
            room = subst (λ (h : Shape). h.pblocks * h.pages ≤ length freeing.items + freeing.room) (sym same_shape) (let r = room in omega (arith, r));
          }

      none_failed : g.tells → NoneFailed (g.shape t).vaddrs (g.failed t)
      none_failed tells v x below failed = can.none_failed tells v x (subst (λ (h : Shape). v < h.vaddrs) same_shape below) (same.virtual.no_failed tells v x failed)

      firm : g.tells → IsFirm g t
      firm tells = let i = can.image tells in opened_is_firm g t i.0 (ap g.stored_of (same.contents tells) ∙ i.1) i.2 (none_failed tells) (stores tells)

      spare : g.keeps_spare t
      spare = same.virtual.spare (by (virtual_spare_seen (g.shape s) seen) refl is.consistent.room.virtual_room)
        where
          by : (o : Option ℕ) → virtual_spare_seen (g.shape s) seen ≡ o → IsSome (virtual_spare_seen (g.shape s) seen) → g.keeps_spare s
          by None e some = absurd (let no : ⊥ = cc in no)
          by (Some block) e some = can.spare block e

      pub begun_core : g.formed t → w.count ≤ top → IsCore g (core_over t)
      begun_core formed few = record {
        formed = formed;
        shape = sym same_shape;
        journaled = stands.journaled;
        free = has_free_on g (core_over s) (core_over t) same_shape volume stands.needed refl free;
        held = subst (λ (xs : List (Tag × Pointer)). IsHeldVolume g t w.journal w.meta xs freeing.items 0) (sym nothing_carried) (subst (λ (ps : List Pointer). IsHeldVolume g t w.journal w.meta [] ps 0) (sym none) held);
        counts = record { later = omega arith; latest = omega arith; few = few; shut = λ _. (refl, refl) };
        flight = lines;
        named = λ x has. absurd (subst (λ (xs : List (Tag × Pointer)). Has xs x) nothing_carried has);
        stamped = λ x has. absurd (subst (λ (xs : List (Tag × Pointer)). Has xs x) nothing_carried has);
        space = space;
        marked = λ c n has at. absurd (none_some n (sym (retains.unhandled c has) ∙ at));
        moment = let clock = same.clock in omega (arith, clock);
        writes = λ still. record {
          spare = spare;
          lands = lands;
          firm = λ told. firm told.0;
          counts = subst (λ n. n < top) (sym same.write_faults) (below_end (g.write_faults s) still);
        };
      }

      -- over an image that is sound as a tree
      module _ (tells : g.tells) (image : Image) (tree : Tree) (over : IsStartedOver g s w image tree) where
        runs : running_on g t w.meta ≡ committed_of image
        runs =
            (λ i v. running_over (map_bytes (same_shape i) (same_map tells i)) w.meta v)
            ∙ (λ i v. is.same tells v i)
            ∙ (walks_the_image image (g.shape s) (g.map s) over.shape over.map).0

        at : MapRepresents (shape_of_image image) (committed_of image) (page_on image) w.count tree
        at = record {
          super_rec = over.sound.stands.metadata.super_rec;
          numbers = over.sound.stands.metadata.numbers;
          count_of_calls = over.sound.stands.count_of_calls;
          right = image_is_right image over.sound.stands.pages_whole over.sound.stands.metadata;
          represents = represented image w.count tree over.sound.stands;
          data_fits = over.sound.data_fits;
        }

        running : MapRepresents (g.shape t) (running_on g t w.meta) (page_on image) w.count tree
        running = subst (λ (b : VirtualMap). MapRepresents (g.shape t) b (page_on image) w.count tree) (sym runs)
            (subst (λ (h : Shape). MapRepresents h (committed_of image) (page_on image) w.count tree) (sym (same_shape ∙ over.shape)) at)

        shows : ShowsPages (g.names t) (g.bytes t) (page_on image)
        shows p page live =
            let agree = (firm tells).agree in
            let here = (stores tells).holds p page live in
            shown image (subst NamedAgree (ap g.stored_of (same.contents tells) ∙ over.stored) agree) p (record { tag = page.tag; stamp = page.stamp; bytes = g.bytes t p })
            (ap (λ (c : Stored). c.named p) (sym (ap g.stored_of (same.contents tells) ∙ over.stored)) ∙ here)

        as_tree : RepresentsTree (g.shape t) (running_on g t w.meta) (page_on image) tree
        as_tree = record { right = running.right; represents = running.represents; data_fits = running.data_fits }

        pub begun_stands : CoreRepresents g (core_over t) (page_on image) (all_at w.count tree)
        begun_stands = record {
          stands = record {
            running = as_tree;
            committed = stands_alike (g.shape t) (running_on g t w.meta) (read_as (g.shape t) (committed_on g t)) (page_on image) w.count tree (stored_runs tells) running;
            frozen = λ more. absurd (shut more);
            thawed = λ _. refl;
            later = omega arith;
            latest = omega arith;
          };
          runs = record {
            runs = as_tree;
            shows = shows;
            given = λ stamp page has.
                let q = on_readable image stamp page has in
                let m = named_member image q.0 q.1 in
                let below = (stores tells).named_below q.0.page m.0 (ap (λ (c : Stored). c.named q.0.page) (ap g.stored_of (same.contents tells) ∙ over.stored) ∙ m.1) in
                let number : m.0.stamp ≡ stamp = sym (ap stamp_of m.2.rec) ∙ q.2 in
                omega (arith, below, number);
          };
          committed = refl;
          frozen = refl;
        }
