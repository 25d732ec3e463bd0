-- A volume over a device that keeps its addresses.
use Rattle.std.proofs.Common.{◌≡◌, ℕ, cond, nat_lt, List, map, refl, sym, ap, subst, ◌∙◌, Option, Some, None, option_map}
use Rattle.nl_field.specs.Numbers.{ShapeBounds}
use Rattle.nl_field.specs.Virtual.{map_bytes, or_zeros}
use Rattle.nl_field.specs.declared.shape.Shape.{Shape}
use Rattle.nl_iface.specs.Calls.{KeepsVirtual}
use Rattle.nl_iface.specs.Stored.{Value}
use Rattle.nl_iface.specs.declared.counts.Counts.{Ghosts}
use Rattle.nl_meta.specs.Committed.{VirtualMap}
use Rattle.nl_meta.specs.Consistent.{AddressesRight, EntriesRight, NodesRight}
use Rattle.nl_meta.specs.Nodes.{graph_of, pointers_of}
use Rattle.nl_meta.specs.Pages.{Pages, page_of}
use Rattle.nl_meta.specs.PointerLists.{tagged_in, with_tag}
use Rattle.nl_meta.specs.Running.{or_stored, running_over}
use Rattle.nl_meta_running.specs.Running.{IsNeeded, RunningIsRight, running_on, stored_on}
use Rattle.nl_meta_running.proofs.GraphStays.{graph-same}
use Rattle.nl_meta_running.proofs.SameNeeded.{addresses-right, entries-right, needed-from, nodes-right}
use Rattle.nl_core_callbacks.proofs.Free.{UsesSame, uses-needed}

-- the pointers of files by the nodes
pub tagged-same : (n m : Shape) (a b : VirtualMap) → m ≡ n → graph_of m b ≡ graph_of n a → tagged_in m b ≡ tagged_in n a
tagged-same n m a b shapes graphs = λ i. map with_tag (pointers_of (shapes i) (graphs i))

module _ {D : Type 0} (g : Ghosts D) (s t : D) (p : Pages) (bounds : ShapeBounds (g.shape s)) (runs : RunningIsRight g s p) (k : KeepsVirtual g s t) where
  shapes : g.shape s ≡ g.shape t
  shapes = sym k.same_shape

  stored-still : g.tells → (v : ℕ) → stored_on g t v ≡ stored_on g s v
  unfolding map_bytes
  stored-still told v =
      ap (λ (shape : Shape). map_bytes shape (g.map t) v) k.same_shape
      ∙ ap (λ (o : Option Value). cond (nat_lt v (g.shape s).vaddrs) (or_zeros (g.shape s) v (option_map (λ x. x.1) o)) None) (k.same_map told v)

  by-page : (v : ℕ) → IsNeeded (g.shape s) (running_on g s p) v → (o : Option (List ℕ)) → page_of p v ≡ o → running_on g t p v ≡ running_on g s p v
  unfolding running_over
  by-page v need None gone = ap (λ o. or_stored (page_of p v) o) (stored-still (runs.absent v need gone) v)
  by-page v need (Some bytes) there = ap (λ o. or_stored o (stored_on g t v)) there ∙ sym (ap (λ o. or_stored o (stored_on g s v)) there)

  still-needed : (v : ℕ) → IsNeeded (g.shape s) (running_on g s p) v → running_on g t p v ≡ running_on g s p v
  still-needed v need = by-page v need (page_of p v) refl

  pub still-runs : RunningIsRight g t p
  still-runs = record {
    count = runs.count ∙ ap (λ (n : Shape). n.vaddrs) shapes;
    nodes = subst (λ (n : Shape). NodesRight n (running_on g t p)) shapes (nodes-right (g.shape s) bounds (running_on g s p) (running_on g t p) still-needed runs.nodes);
    addresses = subst (λ (n : Shape). AddressesRight n (running_on g t p)) shapes (addresses-right (g.shape s) bounds (running_on g s p) (running_on g t p) still-needed runs.addresses);
    entries = subst (λ (n : Shape). EntriesRight n (running_on g t p)) shapes
        (entries-right (g.shape s) bounds (running_on g s p) (running_on g t p) still-needed runs.addresses runs.entries);
    absent = λ v need gone. runs.absent v
        (needed-from (g.shape s) bounds (running_on g s p) (running_on g t p) still-needed v (subst (λ (n : Shape). IsNeeded n (running_on g t p) v) (sym shapes) need)) gone;
    clean = λ told. record { each = λ u bytes at d f. stored-still told u ∙ (runs.clean told).each u bytes at d f };
  }

  pub still-graph : graph_of (g.shape t) (running_on g t p) ≡ graph_of (g.shape s) (running_on g s p)
  still-graph = ap (λ (n : Shape). graph_of n (running_on g t p)) (sym shapes) ∙ graph-same (g.shape s) bounds (running_on g s p) (running_on g t p) still-needed

  pub still-uses : UsesSame (g.shape s) (running_on g s p) (running_on g t p)
  still-uses = uses-needed (g.shape s) bounds (running_on g s p) (running_on g t p) still-needed

  pub still-tagged : tagged_in (g.shape t) (running_on g t p) ≡ tagged_in (g.shape s) (running_on g s p)
  still-tagged = tagged-same (g.shape s) (g.shape t) (running_on g s p) (running_on g t p) (sym shapes) still-graph
