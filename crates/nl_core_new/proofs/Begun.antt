-- A core that is begun over a device on which no page of a file is live.
use Rattle.std.proofs.Common.{◌≡◌, ℕ, ◌+◌, ◌*◌, ◌≤◌, List, [], ◌∷◌, map, length, refl, sym, ap, subst, ◌∙◌, arith}
use Rattle.std.specs.Prelude.{is_some}
use Rattle.std.proofs.lemmas.Option.{none-some}
use Rattle.nl_field.specs.CrashStates.{top}
use Rattle.nl_field.specs.Members as members
use Rattle.nl_field.specs.PointerItems.{PointerItems}
use Rattle.nl_field.specs.Numbers.{ShapeBounds}
use Rattle.nl_field.specs.declared.pointer.Pointer.{Pointer}
use Rattle.nl_field.specs.declared.pointer.Tag.{Tag}
use Rattle.nl_field.specs.declared.seen.Seen.{Seen}
use Rattle.nl_field.specs.declared.shape.Shape.{Shape}
use Rattle.nl_tree.specs.Tree.{empty_tree}
use Rattle.nl_flight.specs.Flight.{InFlight, IsFlight, carried, nothing}
use Rattle.nl_spec_holders.specs.Opening.{OpensHolding}
use Rattle.nl_iface.specs.Holders.{tagged, times}
use Rattle.nl_iface.specs.Moves.{Retains}
use Rattle.nl_iface.specs.Names.{Has}
use Rattle.nl_iface.specs.declared.counts.Counts.{Ghosts}
use Rattle.nl_journal.specs.Committing.{committed_on}
use Rattle.nl_journal.specs.Outcomes.{IsHome}
use Rattle.nl_meta.specs.Consistent.{RightFor}
use Rattle.nl_meta.specs.Nodes.{Held, held_in}
use Rattle.nl_meta.specs.PointerLists.{with_tag}
use Rattle.nl_meta_running.specs.Running.{running_on}
use Rattle.nl_meta_running.proofs.Holds.{bounds-of}
use Rattle.nl_spec_image.proofs.EmptyTree.{empty_is_tree, no_data_in}
use Rattle.nl_journal_commit.specs.Completing.{AwaitsCommitPage}
use Rattle.nl_journal_commit.specs.Holding.{running_holders}
use Rattle.nl_journal_commit.specs.Standing.{IsJournaled}
use Rattle.nl_spec_commits.specs.Committed.{read_as}
use Rattle.nl_spec_commits.specs.Held.{IsHeldVolume, opened}
use Rattle.nl_spec_commits.proofs.Holding.{opening_is_held}
use Rattle.nl_spec_commits.proofs.Reading.{committed_reads}
use Rattle.nl_recover.specs.Recovering.{IsWalked}
use Rattle.nl_recover.specs.Starting.{Starts}
use Rattle.nl_recover.specs.declared.opening.Walked.{Walked}
use Rattle.nl_recover.proofs.StartFacts.{walked_starts}
use Rattle.nl_core.specs.Core.{FreeAreUnused, HasSpace, IsCore}
use Rattle.nl_core.specs.Trees.{CoreRepresentsTree}
use Rattle.nl_core.specs.declared.state.Core.{Core}
use Rattle.nl_core_new.specs.New.{HasNoEntries, IsNew}
use Rattle.nl_core_new.proofs.Ready.{IsReady}
use Rattle.nl_core_new.proofs.Root.{no_page, root_alone}

none_carried : length (carried nothing) ≡ 0
unfolding carried
none_carried = refl

nothing_carried : carried nothing ≡ []
unfolding carried
nothing_carried = refl

none_of : {X Y : Type 0} (f : X → Y) (xs : List X) → map f xs ≡ [] → xs ≡ []
none_of f [] is = refl
none_of f (x ∷ xs) is = absurd (let no : ⊥ = cc in no)

module _ {D : Type 0} (g : Ghosts D) (s : D) (seen : List Seen) (w : Walked) (freeing : PointerItems) where
  abbrev pub core_over : Core D
  core_over = record {
    device = s;
    shape = g.shape s;
    journal = w.journal;
    meta = w.meta;
    nodes = w.nodes;
    flight = nothing;
    freeing = freeing;
    leaving = 0;
    count = w.count;
    committed = w.count;
    frozen = w.count;
    moment = g.clock s;
    stopped = 0;
  }

  -- the core is the one that is put together so
  pub made : (shape : Shape) (flight : List InFlight) (moment : ℕ) → shape ≡ g.shape s → flight ≡ nothing → g.clock s ≡ moment
      → core_over ≡ record { device = s; shape = shape; journal = w.journal; meta = w.meta; nodes = w.nodes; flight = flight; freeing = freeing; leaving = 0; count = w.count; committed = w.count; frozen = w.count; moment = moment; stopped = 0 }
  made shape flight moment is_shape is_flight is_moment = λ i. record {
    device = s;
    shape = (sym is_shape) i;
    journal = w.journal;
    meta = w.meta;
    nodes = w.nodes;
    flight = (sym is_flight) i;
    freeing = freeing;
    leaving = 0;
    count = w.count;
    committed = w.count;
    frozen = w.count;
    moment = is_moment i;
    stopped = 0;
  }

  module _ (idle : IsReady g s) (is : IsWalked g s seen w) (kept : w.kept.items ≡ []) (lines : IsFlight nothing) (none : freeing.items ≡ []) (room : (g.shape s).pblocks * (g.shape s).pages ≤ freeing.room) where
    starts : Starts g s w
    starts = walked_starts g s seen w is (λ tells. (idle.firm tells).none_failed)

    journaled : IsJournaled g s w.journal w.meta
    journaled = record {
      runs = starts.runs;
      order = starts.order;
      home = starts.home;
      frozen = record { resident = λ i lt. ap is_some (starts.frozen i lt); unchanged = λ i lt same. starts.frozen i lt };
      super_page = starts.super_page;
      apart = starts.apart;
    }

    shut : AwaitsCommitPage w.journal w.meta.frozen → ⊥
    shut more = let few = starts.decided in let no : ⊥ = omega (arith, more, few) in no

    bounds : ShapeBounds (g.shape s)
    bounds = bounds-of (g.shape s) idle.volume

    free : FreeAreUnused g core_over
    free = record {
      count_nodes = is.spaces.nodes;
      count_pool = let first = is.spaces.first in let pool = is.spaces.pool in let all = bounds.addresses in omega (arith, first, pool, all);
      nodes = record { each = is.free.nodes };
      pool = record {
        first = is.spaces.first;
        each = λ a low high.
            let first = is.spaces.first in
            let k = is.free.pool a (omega (arith, low, first)) high in
            (λ free uses. k.0 free uses.0 uses.1 uses.2, λ none. k.1 (λ n slot at. none (n, slot, at)));
      };
    }

    -- no file has a page
    no_pointers : held_in (g.shape s) (running_on g s w.meta) ≡ []
    no_pointers = none_of (λ (h : Held). h.pointer) (held_in (g.shape s) (running_on g s w.meta)) (sym is.kept ∙ kept)

    none_held : running_holders g s w.meta ≡ []
    none_held = ap (λ (hs : List Held). map with_tag hs) no_pointers

    retains : Retains [] (λ p. p.name) (g.found s) (g.names s)
    retains = record {
      lives = λ p has. absurd has;
      only = λ q page live. absurd (none-some page (sym (idle.no_live q) ∙ live));
      ways = λ p has. absurd has;
      own = λ n off. idle.own n;
      told = λ c has. absurd (idle.no_pending c has);
      moved = λ p has away. absurd has;
      unhandled = λ c has. absurd (idle.no_pending c has);
      count = idle.count;
    }

    opening : OpensHolding [] (opened g s w.journal w.meta)
    opening = record {
      running = λ h has. absurd (subst (λ (xs : List (Tag × Pointer)). Has xs h) none_held has);
      tags = λ h page has live. absurd (subst (λ (xs : List (Tag × Pointer)). Has xs h) none_held has);
      once = λ stamp. subst (λ (xs : List (Tag × Pointer)). times tagged stamp xs ≤ 1) (sym none_held) (omega arith);
      all = λ p has. absurd has;
      committed = λ p has. subst (λ (xs : List (Tag × Pointer)). Has (map (λ (h : Tag × Pointer). h.1) xs) p) none_held has;
      no_flight = refl;
      none_await = refl;
      none_due = refl;
      thawed = refl;
      none_leaves = refl;
      number = refl;
      next = omega arith;
    }

    -- what is stored runs
    stored_runs : g.tells → (v : ℕ) → IsHome (g.shape s).vaddrs v → read_as (g.shape s) (committed_on g s) v ≡ running_on g s w.meta v
    stored_runs tells v home = sym (committed_reads (g.shape s) (g.map s) v idle.volume home.below) ∙ sym (is.same tells v)

    held : IsHeldVolume g s w.journal w.meta [] [] 0
    held = opening_is_held g s w.journal w.meta [] (λ p. p.name) (g.found s) idle.volume journaled shut stored_runs idle.table retains opening

    space : HasSpace g core_over
    space =
        let count = idle.count in
        let files = ap (λ (xs : List (Tag × Pointer)). length xs) none_held in
        let items = ap (λ (ps : List Pointer). length ps) none in
        let carries = none_carried in
        let all = idle.numbers.all in
        let fit = bounds.data_pages in
        let products : ((g.names s).space.keep + (g.names s).space.bad + 3) * (g.names s).space.block ≡ 4 * (g.shape s).pages = ap (λ n. (n + 3) * (g.names s).space.block) idle.one_kept ∙ ap (λ n. 4 * n) idle.numbers.block in
        record {
          counted = omega (arith, count, files, items, carries);
          few = omega (arith, files);
          all = omega (arith, all, fit, products);
          room = omega (arith, room);
        }

    pub begun_core : w.count ≤ top → IsCore g core_over
    begun_core few = record {
      formed = idle.formed;
      shape = refl;
      journaled = journaled;
      free = free;
      held = subst (λ (xs : List (Tag × Pointer)). IsHeldVolume g s w.journal w.meta xs freeing.items 0) (sym nothing_carried) (subst (λ (ps : List Pointer). IsHeldVolume g s w.journal w.meta [] ps 0) (sym none) held);
      counts = record { later = omega arith; latest = omega arith; few = few; shut = λ _. (refl, refl) };
      flight = lines;
      named = λ x has. absurd (subst (λ (xs : List (Tag × Pointer)). Has xs x) nothing_carried has);
      stamped = λ x has. absurd (subst (λ (xs : List (Tag × Pointer)). Has xs x) nothing_carried has);
      space = space;
      marked = λ c n has at. absurd (idle.no_pending c has);
      moment = omega arith;
      writes = λ still. record { spare = idle.spare; lands = idle.lands; firm = λ told. idle.firm told.0; counts = idle.counts };
    }

    -- ---- as the tree with only the root

    -- the pages are metadata of a tree, and no pointer wants a page of a file
    right : RightFor (g.shape s) (running_on g s w.meta) no_page
    right =
        let m = is.consistent.metadata in
        record {
          legal = m.numbers.legal;
          numbers = idle.volume.numbers;
          tree = record {
            nodes = m.tree.nodes;
            addresses = m.tree.addresses;
            entries = m.tree.entries;
            pointers = record {
              below = m.tree.pointers.below;
              there = λ h has. absurd (subst (λ (hs : List Held). members.Has hs h) no_pointers has);
              stamps_differ = m.tree.pointers.stamps_differ;
              names_differ = m.tree.pointers.names_differ;
            };
          };
        }

    module _ (empty : HasNoEntries w.meta) (uncounted : w.count ≡ 0) where
      runs : CoreRepresentsTree g core_over no_page empty_tree
      runs = record {
        runs = record {
          right = right;
          represents = record { is_tree = empty_is_tree; depicts = root_alone g s seen w bounds is empty };
          data_fits = subst (λ (n : ℕ). n ≤ (g.shape s).cap) (sym no_data_in) (omega arith);
        };
        shows = λ p page live. absurd (none-some page (sym (idle.no_live p) ∙ live));
        given = λ stamp page has. absurd (none-some page has);
      }

      pub begun_new : IsNew g core_over
      begun_new = record { runs = λ tells. (no_page, runs); flight = refl; no_files = ap (λ (xs : List (Tag × Pointer)). length xs) none_held; no_freeing = none; count = uncounted; stopped = refl }
