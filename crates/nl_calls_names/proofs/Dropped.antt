-- A volume whose node lost its name, once that node is dropped.
use Rattle.std.proofs.Common.{◌≡◌, ◌≢◌, inl, inr, ℕ, zero, suc, ◌+◌, ◌/◌, ◌%◌, ◌<◌, Bool, true, false, ◌||◌, List, [], length, replicate, unwrap_or, Option, Some, None, IsSome, is_some, refl, sym, ap, subst, ◌∙◌, arith}
use Rattle.std.proofs.lemmas.Bool.{both_ways}
use Rattle.std.proofs.lemmas.List.{length-set}
use Rattle.nl_field.specs.Inode.{inode_bytes, inode_of}
use Rattle.nl_field.specs.Members.{Has}
use Rattle.nl_field.specs.Numbers.{ShapeBounds}
use Rattle.nl_field.specs.Pointers.{is_none_pointer, no_pointer}
use Rattle.nl_field.specs.declared.inode.InodeRec.{InodeRec}
use Rattle.nl_field.specs.declared.shape.Shape.{Shape}
use Rattle.nl_iface.specs.Device.{IsVolumeShape}
use Rattle.nl_iface.specs.declared.counts.Counts.{Ghosts}
use Rattle.nl_inode.specs.FreeLaws.{NodeIs, NodesAreFree, PoolIsFree}
use Rattle.nl_inode.specs.Nodes.{Spaces, page_of_node}
use Rattle.nl_inode.proofs.FreeProofs.{free_is_unused}
use Rattle.nl_inode.proofs.NodeSlots.{there-below}
use Rattle.nl_inode.proofs.PageProofs.{put_changes}
use Rattle.nl_meta.specs.Committed.{VirtualMap}
use Rattle.nl_meta.specs.Consistent.{NamesPhysical}
use Rattle.nl_meta.specs.Nodes.{bytes_of_node, inode_at, slot_at}
use Rattle.nl_meta.specs.Pages.{Pages, page_of}
use Rattle.nl_meta.specs.Running.{CleanIsStored, or_stored, running_over}
use Rattle.nl_meta.specs.SlotLaws.{with_slot}
use Rattle.nl_meta.specs.Steps.{ChangesRunningPages}
use Rattle.nl_meta.proofs.RunningProofs.{running_map}
use Rattle.nl_meta_running.specs.Running.{IsNeeded, RunningIsRight, running_on, stored_on}
use Rattle.nl_meta_running.proofs.Holds.{bounds-of}
use Rattle.nl_meta_running.proofs.Kept.{resident-is}
use Rattle.nl_namespace.specs.Changing.{FreeFits, RunningIsRightBut}
use Rattle.nl_calls_names.specs.Dropping.{DropsNode, HasOfPool, unused_as}
use Rattle.nl_calls_names.proofs.Unused.{address, addresses_right, nodes_right, of_pool, pool_is_free}

or_true : (a b : Bool) → a ≡ true → (a || b) ≡ true
or_true true b e = refl
or_true false b e = absurd (both_ways false refl e)

copies : {X : Type 0} (n : ℕ) (x y : X) → Has (replicate n x) y → x ≡ y
copies zero x y h = absurd h
copies (suc n) x y (inl e) = e
copies (suc n) x y (inr h) = copies n x y h

none_physical : (shape : Shape) → NamesPhysical shape (replicate 8 no_pointer)
none_physical shape p h = or_true (is_none_pointer p) _ (ap is_none_pointer (sym (copies 8 no_pointer p h)))

module _ {D : Type 0} (g : Ghosts D) (s : D) (pages : Pages) (free : Spaces) (volume : IsVolumeShape (g.shape s)) (n : ℕ) (runs : RunningIsRightBut g s pages (Some n)) (fits : FreeFits g s pages free) (below : n < (g.shape s).nodes)
    (there : IsSome (page_of pages (page_of_node n))) where
  abbrev shape : Shape
  shape = g.shape s

  abbrev before : VirtualMap
  before = running_on g s pages

  bounds : ShapeBounds shape
  bounds = bounds-of shape volume

  -- the record of a node whose page is resident
  inode_there : inode_at before n ≡ inode_at (page_of pages) n
  unfolding inode_at bytes_of_node
  inode_there = ap (λ (o : Option (List ℕ)). inode_of (slot_at (λ v. o) 256 0 (n % 16))) (resident-is g s pages (67 + n / 16) there)

  pub is_spelled : IsSome (inode_at (page_of pages) n)
  is_spelled = let r = runs.nodes.spelled n below in ap is_some (sym inode_there ∙ r.1)

  pub has_of_pool : HasOfPool n pages free
  has_of_pool rec at = of_pool shape bounds before n rec runs.addresses below (inode_there ∙ at) free fits.pool fits.count_pool

  pub is_below : n < length free.nodes
  is_below = let c = fits.count_nodes in omega (arith, c, below)

  module _ (not_root : n ≢ 0) (now : Pages) (after : Spaces) (d : DropsNode n pages now free after) where
    abbrev is : InodeRec
    is = unused_as d.rec.generation

    abbrev later : VirtualMap
    later = running_on g s now

    pub changes : ChangesRunningPages pages now
    changes = put_changes pages now n is d.puts

    there_now : IsSome (page_of now (page_of_node n))
    there_now = changes.stays (page_of_node n) there

    at_now : inode_at later n ≡ Some is
    unfolding inode_at bytes_of_node
    at_now = ap (λ (o : Option (List ℕ)). inode_of (slot_at (λ v. o) 256 0 (n % 16))) (resident-is g s now (67 + n / 16) there_now) ∙ d.puts.node

    same_else : (u : ℕ) → u ≢ page_of_node n → later u ≡ before u
    unfolding running_over
    same_else u far = ap (λ o. or_stored o (stored_on g s u)) (d.puts.others.others u far)

    pub node_now : NodeIs n is before later
    node_now = record {
      at = at_now;
      others = record {
        others = same_else;
        slots = λ j far.
            ap (λ (o : Option (List ℕ)). slot_at (λ u. o) 256 0 j) (resident-is g s now (page_of_node n) there_now) ∙ d.puts.others.slots j far
            ∙ sym (ap (λ (o : Option (List ℕ)). slot_at (λ u. o) 256 0 j) (resident-is g s pages (page_of_node n) there));
      };
    }

    pub had : inode_at before n ≡ Some d.rec
    had = inode_there ∙ d.was

    count : length now.running ≡ length pages.running
    count = ap (λ (p : Pages). length p.running) d.puts.page ∙ length-set pages.running (page_of_node n) (Some (with_slot 256 (n % 16) (inode_bytes is) (unwrap_or (page_of pages (page_of_node n)) [])))

    gone_before : (v : ℕ) → page_of now v ≡ None → page_of pages v ≡ None
    gone_before v gone = by (page_of pages v) refl
      where
        by : (o : Option (List ℕ)) → page_of pages v ≡ o → o ≡ None
        by None e = refl
        by (Some bytes) e = absurd (both_ways (is_some (page_of now v)) (ap is_some gone) (changes.stays v (ap is_some e)))

    absent : (v : ℕ) → IsNeeded shape later v → page_of now v ≡ None → g.tells
    absent v (inl e) gone = runs.absent v (inl e) (gone_before v gone)
    absent v (inr x) gone = runs.absent v (inr (x.0, x.1, address shape bounds before later n is runs.addresses below refl node_now x.0 x.1 v x.2)) (gone_before v gone)

    clean : g.tells → CleanIsStored (stored_on g s) now
    clean told = subst (CleanIsStored (stored_on g s)) (sym d.puts.page)
        ((running_map (stored_on g s) pages (runs.clean told)).changed (page_of_node n) (with_slot 256 (n % 16) (inode_bytes is) (unwrap_or (page_of pages (page_of_node n)) []))
        (there-below pages.running (page_of_node n) there)).clean

    pub runs_now : RunningIsRight g s now
    runs_now = record {
      count = count ∙ runs.count;
      nodes = nodes_right shape bounds before later n is runs.addresses below refl node_now runs.nodes not_root (none_physical shape);
      addresses = addresses_right shape bounds before later n is runs.addresses below refl node_now;
      entries = runs.entries is later refl node_now;
      absent = absent;
      clean = clean;
    }

    pub nodes_free : NodesAreFree shape later after
    nodes_free = (free_is_unused shape before later d.between after).node_given n is
        (subst (λ (xs : List Bool). NodesAreFree shape before (record { nodes = xs; first = d.between.first; pool = d.between.pool })) (sym d.addresses.nodes) (record { each = fits.nodes.each }))
        d.number node_now refl

    pub pool_free : PoolIsFree shape later after
    pool_free = pool_is_free shape bounds before later n is runs.addresses below refl node_now d.rec had free d.between after d.addresses d.number fits.pool

    pub fits_now : FreeFits g s now after
    fits_now = record {
      count_nodes = d.number.nodes.count ∙ ap length d.addresses.nodes ∙ fits.count_nodes;
      count_pool = ap length d.number.pool ∙ d.addresses.count ∙ fits.count_pool;
      nodes = nodes_free;
      pool = pool_free;
    }
