-- A volume whose names were changed, once the node that lost its name is dropped, if one did.
use Rattle.std.proofs.Common.{◌≡◌, ◌≢◌, ℕ, ◌+◌, ◌<◌, Bool, true, false, List, [], ◌++◌, map, length, Option, Some, None, IsSome, refl, sym, ap, subst, ◌∙◌, ◌⊎◌, inl, inr, arith}
use Rattle.std.proofs.lemmas.Bool.{cases_eq}
use Rattle.std.proofs.lemmas.List.{append-nil, length-append, length-map}
use Rattle.nl_field.specs.Graph.{GraphNode, unused}
use Rattle.nl_field.specs.Members.{Has}
use Rattle.nl_field.specs.declared.inode.InodeRec.{InodeRec}
use Rattle.nl_field.specs.declared.inode.Kind.TheVariants.{File}
use Rattle.nl_field.specs.declared.pointer.Pointer.{Pointer}
use Rattle.nl_field.specs.declared.pointer.Tag.{Tag}
use Rattle.nl_field.specs.declared.shape.Shape.{Shape}
use Rattle.nl_iface.specs.Calls.{OnlyReads}
use Rattle.nl_iface.specs.Device.{IsVolumeShape}
use Rattle.nl_iface.specs.Holders.{tagged}
use Rattle.nl_iface.specs.declared.counts.Counts.{Ghosts}
use Rattle.nl_inode.specs.FreeLaws.{NodeIs}
use Rattle.nl_inode.specs.Nodes.{Spaces, is_free_node, page_of_node}
use Rattle.nl_journal.specs.Progress.{Progress}
use Rattle.nl_meta.specs.Committed.{VirtualMap}
use Rattle.nl_meta.specs.Consistent.{AddressesRight, IsNode}
use Rattle.nl_meta.specs.Nodes.{Held, graph_of, held_by, held_in, slots_of}
use Rattle.nl_meta.specs.Pages.{Pages, page_of}
use Rattle.nl_meta.specs.PointerLists.{tagged_by, tagged_in, with_tag}
use Rattle.nl_meta.specs.Steps.{ChangesRunningPages}
use Rattle.nl_meta.proofs.PageProofs.{both}
use Rattle.nl_meta_running.specs.Running.{IsUsedNode, RunningIsRight, running_on}
use Rattle.nl_meta_running.proofs.Holds.{bounds-of}
use Rattle.nl_spec_image.proofs.GraphOfPages.{named_once}
use Rattle.nl_tree.specs.declared.call.Call.{Call}
use Rattle.nl_journal_commit.specs.Holding.{running_holders}
use Rattle.nl_journal_commit.specs.Standing.{IsJournaled}
use Rattle.nl_spec_commits.specs.Changes.{ReplacesSome}
use Rattle.nl_spec_commits.specs.Held.{IsHeldVolume}
use Rattle.nl_spec_commits.proofs.FileLists.{Around, node_changes}
use Rattle.nl_spec_commits.proofs.Replacing.{cutting_keeps_held}
use Rattle.nl_namespace.specs.Calls.{ChangesNames}
use Rattle.nl_namespace.specs.Changing.{Changes, FreeFits}
use Rattle.nl_namespace.specs.Taking.{TakesLeast}
use Rattle.nl_namespace.specs.declared.answer.Change.TheVariants as change
use Rattle.nl_calls_names.specs.Dropping.{DropsNode, unused_as}
use Rattle.nl_calls_names.specs.Gathering.{pointers_of_node}
use Rattle.nl_calls_names.proofs.Dropped.{changes, fits_now, had, node_now, runs_now}
use Rattle.nl_calls_names.proofs.Graphs.{changes_names, not_root}
use Rattle.nl_calls_names.proofs.Holders.{fewer, held_all, held_same, plain_by}
use Rattle.nl_calls_names.proofs.Taken.{generation_at, takes_dropped}
use Rattle.nl_calls_names.proofs.Unused.{node_is, other_nodes}

-- The volume runs on. Its nodes are those that the call leaves, and of the pointers of files those are gone that the node had.
pub record Ended {D : Type 0} (g : Ghosts D) (s : D) (pages : Pages) (free : Spaces) (t : D) (now : Pages) (after : Spaces) (call : Call) (gone : Option ℕ) : Type 0 where
  pub reads : OnlyReads g s t
  pub kept : ChangesRunningPages pages now
  pub runs : RunningIsRight g t now
  pub fits : FreeFits g t now after
  pub takes : TakesLeast free after (graph_of (g.shape s) (running_on g s pages)) (graph_of (g.shape t) (running_on g t now))
  pub names : ChangesNames free (graph_of (g.shape s) (running_on g s pages)) (graph_of (g.shape t) (running_on g t now)) call (change.Changed gone)
  pub given : List (Tag × Pointer)
  pub is_given : map tagged given ≡ pointers_of_node (graph_of (g.shape s) (running_on g s pages)) gone
  pub replaces : ReplacesSome given [] (running_holders g s pages) (running_holders g t now)
  pub fewer : (h : Held) → Has (held_in (g.shape t) (running_on g t now)) h → Has (held_in (g.shape s) (running_on g s pages)) h

-- ---- names changed

module _ {D : Type 0} (g : Ghosts D) (s : D) (pages : Pages) (free : Spaces) (t : D) (mid : Pages) (between : Spaces) (call : Call) (gone : Option ℕ) (c : Changes g s pages free t mid between gone) where
  same_shape : g.shape t ≡ g.shape s
  same_shape = c.reads.medium.virtual.same_shape

  abbrev shape : Shape
  shape = g.shape s

  abbrev old : VirtualMap
  old = running_on g s pages

  abbrev changed : VirtualMap
  changed = running_on g t mid

  same_pointers : tagged_in shape changed ≡ tagged_in shape old
  same_pointers = ap (λ (h : Shape). tagged_in h changed) (sym same_shape) ∙ c.pointers

  same_files : (n : ℕ) (rec : InodeRec) → IsNode shape old n rec → rec.kind ≡ File → graph_of shape changed n ≡ graph_of shape old n
  same_files n rec node file = ap (λ (h : Shape). graph_of h changed n) (sym same_shape) ∙ (c.files n rec node file).graph

  same_held : (k : ℕ) → held_by k (graph_of shape changed k) ≡ held_by k (graph_of shape old k)
  same_held = held_same shape old changed same_pointers same_files

  all_held : held_in shape changed ≡ held_in shape old
  all_held = held_all shape old changed same_pointers same_files

-- no node lost its name
module _ {D : Type 0} (g : Ghosts D) (s : D) (pages : Pages) (free : Spaces) (t : D) (mid : Pages) (between : Spaces) (call : Call) (c : Changes g s pages free t mid between None)
    (names : ChangesNames free (graph_of (g.shape s) (running_on g s pages)) (graph_of (g.shape t) (running_on g t mid)) call (change.Changed None)) where
  pub ended_all_named : Ended g s pages free t mid between call None
  ended_all_named = record {
    reads = c.reads;
    kept = c.pages;
    runs = record { count = c.runs.count; nodes = c.runs.nodes; addresses = c.runs.addresses; entries = c.runs.entries; absent = c.runs.absent; clean = c.runs.clean };
    fits = c.fits;
    takes = c.takes;
    names = names;
    given = [];
    is_given = refl;
    replaces = record {
      front = running_holders g s pages;
      behind = [];
      was = sym (append-nil (running_holders g s pages ++ []) ∙ append-nil (running_holders g s pages));
      is = c.pointers ∙ sym (append-nil (running_holders g s pages ++ []) ∙ append-nil (running_holders g s pages));
    };
    fewer = λ h has. subst (λ (xs : List Held). Has xs h) (all_held g s pages free t mid between call None c)
        (subst (λ (z : Shape). Has (held_in z (running_on g t mid)) h) c.reads.medium.virtual.same_shape has);
  }

-- one did, and is dropped
module _ {D : Type 0} (g : Ghosts D) (s : D) (pages : Pages) (free : Spaces) (volume : IsVolumeShape (g.shape s)) (runs : RunningIsRight g s pages) (t : D) (mid : Pages) (between : Spaces) (call : Call) (n : ℕ) (c : Changes g s pages free t mid between (Some n))
    (names : ChangesNames free (graph_of (g.shape s) (running_on g s pages)) (graph_of (g.shape t) (running_on g t mid)) call (change.Changed (Some n))) (used : IsUsedNode g s pages n) (there : IsSome (page_of pages (page_of_node n)))
  where
    abbrev sh : Shape
    sh = g.shape s

    abbrev was : VirtualMap
    was = running_on g s pages

    abbrev halfway : VirtualMap
    halfway = running_on g t mid

    shapes : g.shape t ≡ g.shape s
    shapes = c.reads.medium.virtual.same_shape

    pub volume_then : IsVolumeShape (g.shape t)
    volume_then = subst IsVolumeShape (sym shapes) volume

    pub below_then : n < (g.shape t).nodes
    below_then = subst (λ (h : Shape). n < h.nodes) (sym shapes) used.1.below

    pub there_then : IsSome (page_of mid (page_of_node n))
    there_then = c.pages.stays (page_of_node n) there

    no_root : n ≢ 0
    no_root = not_root free (graph_of sh was) (graph_of (g.shape t) halfway) n call (named_once sh was runs.entries runs.nodes) names

    module _ (fits : FreeFits g s pages free) (now : Pages) (after : Spaces) (d : DropsNode n mid now between after) where
      abbrev is : VirtualMap
      is = running_on g t now

      abbrev put : InodeRec
      put = unused_as d.rec.generation

      node : NodeIs n put halfway is
      node = node_now g t mid between volume_then n c.runs c.fits below_then there_then no_root now after d

      addresses : AddressesRight sh halfway
      addresses = subst (λ (h : Shape). AddressesRight h halfway) shapes c.runs.addresses

      others : (k : ℕ) → k ≢ n → graph_of sh is k ≡ graph_of sh halfway k
      others = other_nodes sh (bounds-of sh volume) halfway is n put addresses used.1.below refl node

      unused_now : graph_of sh is n ≡ record { generation = put.generation; body = unused }
      unused_now = node_is sh (bounds-of sh volume) halfway is n put addresses used.1.below refl node

      same_generation : (k : ℕ) → (graph_of sh is k).generation ≡ (graph_of sh halfway k).generation
      same_generation k = by (cases_eq k n)
        where
          by : (k ≡ n) ⊎ (k ≡ n → ⊥) → (graph_of sh is k).generation ≡ (graph_of sh halfway k).generation
          by (inr far) = ap (λ (x : GraphNode). x.generation) (others k far)
          by (inl e) =
              ap (λ (i : ℕ). (graph_of sh is i).generation) e ∙ ap (λ (x : GraphNode). x.generation) unused_now
              ∙ sym (generation_at sh halfway n d.rec used.1.below (had g t mid between volume_then n c.runs c.fits below_then there_then no_root now after d))
              ∙ sym (ap (λ (i : ℕ). (graph_of sh halfway i).generation) e)

      in_use : is_free_node free n ≡ false
      in_use = by (is_free_node free n) refl
        where
          by : (b : Bool) → is_free_node free n ≡ b → is_free_node free n ≡ false
          by false e = e
          by true e = absurd ((fits.nodes.each n used.1.below).0 e used.0 used.1)

      none_held : held_by n (graph_of sh is n) ≡ []
      none_held = ap (held_by n) unused_now

      around : Around (tagged_by n (graph_of sh halfway n)) (tagged_by n (graph_of sh is n)) (tagged_in sh halfway) (tagged_in sh is)
      around = node_changes sh halfway is n used.1.below (λ k far. ap (tagged_by k) (others k far))

      pub ended_dropped : Ended g s pages free t now after call (Some n)
      ended_dropped = record {
        reads = c.reads;
        kept = both pages mid now c.pages (changes g t mid between volume_then n c.runs c.fits below_then there_then no_root now after d);
        runs = runs_now g t mid between volume_then n c.runs c.fits below_then there_then no_root now after d;
        fits = fits_now g t mid between volume_then n c.runs c.fits below_then there_then no_root now after d;
        takes = takes_dropped n (slots_of d.rec) [] free between d.between after (graph_of sh was) (graph_of (g.shape t) halfway) (graph_of (g.shape t) is) c.takes in_use d.addresses d.number
            (subst (λ (h : Shape). (k : ℕ) → (graph_of h is k).generation ≡ (graph_of h halfway k).generation) (sym shapes) same_generation);
        names = changes_names free (graph_of sh was) (graph_of (g.shape t) halfway) (graph_of (g.shape t) is) n
            (subst (λ (h : Shape). (k : ℕ) → k ≢ n → graph_of h is k ≡ graph_of h halfway k) (sym shapes) others)
            (ap (λ (h : Shape). (graph_of h is n).body) shapes ∙ ap (λ (x : GraphNode). x.body) unused_now) call names;
        given = tagged_by n (graph_of sh was n);
        is_given = plain_by n (graph_of sh was n);
        replaces = record {
          front = around.front;
          behind = around.back;
          was = sym (same_pointers g s pages free t mid between call (Some n) c) ∙ around.before
              ∙ ap (λ (xs : List Held). around.front ++ map with_tag xs ++ around.back) (same_held g s pages free t mid between call (Some n) c n);
          is = ap (λ (h : Shape). tagged_in h is) shapes ∙ around.after ∙ ap (λ (xs : List Held). around.front ++ map with_tag xs ++ around.back) none_held;
        };
        fewer = λ h has. subst (λ (xs : List Held). Has xs h) (all_held g s pages free t mid between call (Some n) c)
            (fewer sh halfway is n others none_held h (subst (λ (z : Shape). Has (held_in z is) h) shapes has));
      }

-- ---- who holds live pages

module _ {D : Type 0} (g : Ghosts D) (s : D) (pages : Pages) (free : Spaces) (t : D) (now : Pages) (after : Spaces) (call : Call) (gone : Option ℕ) (e : Ended g s pages free t now after call gone) where
  pub held_on : (p : Progress) (flight : List (Tag × Pointer)) (freeing : List Pointer) (leaving : ℕ) → IsVolumeShape (g.shape s) → IsJournaled g s p pages → IsHeldVolume g s p pages flight freeing leaving
      → IsHeldVolume g t p now flight (freeing ++ pointers_of_node (graph_of (g.shape s) (running_on g s pages)) gone) leaving
  held_on p flight freeing leaving volume j h = subst (λ (xs : List Pointer). IsHeldVolume g t p now flight (freeing ++ xs) leaving) e.is_given
      (cutting_keeps_held g s t p pages now flight flight e.given [] freeing _ volume j h e.reads e.kept.same_frozen e.replaces refl)

  -- the pages that are gone are as many as are held no longer
  pub as_many : length (running_holders g t now) + length (pointers_of_node (graph_of (g.shape s) (running_on g s pages)) gone) ≡ length (running_holders g s pages)
  as_many =
      let a = ap length e.replaces.was ∙ length-append (e.replaces.front ++ e.given) e.replaces.behind in
      let b = length-append e.replaces.front e.given in
      let c = ap length e.replaces.is ∙ length-append (e.replaces.front ++ []) e.replaces.behind in
      let d = ap length (append-nil e.replaces.front) in
      let f = ap length (sym e.is_given) ∙ length-map e.given tagged in
      omega (arith, a, b, c, d, f)
