-- One call after the other leaves the volume as it was.
use Rattle.std.proofs.Common.{◌≡◌, ℕ, ◌+◌, ◌/◌, ◌%◌, ◌<◌, List, refl, sym, ap, subst, ◌∙◌, Option, Some, None, IsSome, is_some, ⊎_elim, inl, inr, arith}
use Rattle.std.proofs.lemmas.Bool.{both_ways}
use Rattle.nl_field.specs.Inode.{inode_of}
use Rattle.nl_field.specs.Numbers.{ShapeBounds}
use Rattle.nl_field.specs.declared.inode.InodeRec.{InodeRec}
use Rattle.nl_field.specs.declared.shape.Shape.{Shape}
use Rattle.nl_iface.specs.declared.counts.Counts.{Ghosts}
use Rattle.nl_iface.proofs.Stops.{reads_then}
use Rattle.nl_meta.specs.Consistent.{AddressesRight, EntriesRight, IsNode, NodesRight}
use Rattle.nl_meta.specs.Nodes.{bytes_of_node, inode_at, slot_at}
use Rattle.nl_meta.specs.PageLaws.{LoadsPages}
use Rattle.nl_meta.specs.Pages.{Pages, page_of}
use Rattle.nl_meta.specs.Running.{or_stored, running_over}
use Rattle.nl_inode.specs.Nodes.{page_of_node}
use Rattle.nl_meta_running.specs.Running.{IsNeeded, IsNodeOf, RunningIsRight, PreservesRunning, running_on, stored_on}
use Rattle.nl_meta_running.proofs.SameNeeded.{addresses-right, entries-right, inode-address, needed-from, needed-to, node-from, node-to, nodes-right}

or-there : (o stored : Option (List ℕ)) → IsSome o → or_stored o stored ≡ o
or-there (Some bytes) stored h = refl
or-there None stored h = absurd (both_ways _ refl h)

pub resident-is : {D : Type 0} (g : Ghosts D) (t : D) (q : Pages) (v : ℕ) → IsSome (page_of q v) → running_on g t q v ≡ page_of q v
unfolding running_over
resident-is g t q v there = or-there (page_of q v) (stored_on g t v) there

-- pages were loaded, and nothing else
pub loads-on : {D : Type 0} (g : Ghosts D) (s : D) (p : Pages) (t : D) (q : Pages) → PreservesRunning g s p t q → LoadsPages p q
loads-on g s p t q on = record { dirty = on.dirty; frozen = on.frozen; stays = on.stays; apart = on.apart }

module _ {D : Type 0} (g : Ghosts D) (s : D) (p : Pages) (t : D) (q : Pages) (bounds : ShapeBounds (g.shape s)) (on : PreservesRunning g s p t q) where
  shapes : g.shape s ≡ g.shape t
  shapes = sym on.reads.medium.virtual.same_shape

  need-to : (v : ℕ) → IsNeeded (g.shape s) (running_on g s p) v → IsNeeded (g.shape s) (running_on g t q) v
  need-to v h = needed-to (g.shape s) bounds (running_on g s p) (running_on g t q) on.needed v h

  need-from : (v : ℕ) → IsNeeded (g.shape s) (running_on g t q) v → IsNeeded (g.shape s) (running_on g s p) v
  need-from v h = needed-from (g.shape s) bounds (running_on g s p) (running_on g t q) on.needed v h

  pub need-on : (v : ℕ) → IsNeeded (g.shape s) (running_on g s p) v → IsNeeded (g.shape t) (running_on g t q) v
  need-on v h = subst (λ (n : Shape). IsNeeded n (running_on g t q) v) shapes (need-to v h)

  pub runs-then : RunningIsRight g s p → RunningIsRight g t q
  runs-then runs = record {
    count = on.count ∙ runs.count ∙ ap (λ (n : Shape). n.vaddrs) shapes;
    nodes = subst (λ (n : Shape). NodesRight n (running_on g t q)) shapes (nodes-right (g.shape s) bounds (running_on g s p) (running_on g t q) on.needed runs.nodes);
    addresses = subst (λ (n : Shape). AddressesRight n (running_on g t q)) shapes (addresses-right (g.shape s) bounds (running_on g s p) (running_on g t q) on.needed runs.addresses);
    entries = subst (λ (n : Shape). EntriesRight n (running_on g t q)) shapes
        (entries-right (g.shape s) bounds (running_on g s p) (running_on g t q) on.needed runs.addresses runs.entries);
    absent = λ v h gone. on.absent v (need-from v (subst (λ (n : Shape). IsNeeded n (running_on g t q) v) (sym shapes) h)) gone;
    clean = on.clean;
  }

  pub kept-then : (u : D) (r : Pages) → PreservesRunning g t q u r → PreservesRunning g s p u r
  kept-then u r next = record {
    reads = reads_then g s t u on.reads next.reads;
    count = next.count ∙ on.count;
    dirty = next.dirty ∙ on.dirty;
    frozen = next.frozen ∙ on.frozen;
    needed = λ v h. next.needed v (need-on v h) ∙ on.needed v h;
    told = λ told v. next.told told v ∙ on.told told v;
    stays = λ v h. next.stays v (ap is_some (on.stays v h) ∙ h) ∙ on.stays v h;
    only = λ v h. ⊎_elim (λ there. on.only v there) (λ need. inr (need-from v (subst (λ (n : Shape). IsNeeded n (running_on g t q) v) (sym shapes) need))) (next.only v h);
    apart = λ v there. ⊎_elim (λ before. on.apart v before) (λ far. inr far) (next.apart v there);
    absent = λ v h gone. next.absent v (need-on v h) gone;
    clean = next.clean;
  }

  pub used-on : (n : ℕ) (rec : InodeRec) → IsNodeOf g s p n rec → IsNodeOf g t q n rec
  used-on n rec is = subst (λ (m : Shape). IsNode m (running_on g t q) n rec) shapes (node-to (g.shape s) bounds (running_on g s p) (running_on g t q) on.needed n rec is)

  pub used-back : (n : ℕ) (rec : InodeRec) → IsNodeOf g t q n rec → IsNodeOf g s p n rec
  used-back n rec is = node-from (g.shape s) bounds (running_on g s p) (running_on g t q) on.needed n rec (subst (λ (m : Shape). IsNode m (running_on g t q) n rec) (sym shapes) is)

  -- the record of a node whose page is resident
  pub inode-resident : (n : ℕ) → n < (g.shape s).nodes → IsSome (page_of q (page_of_node n)) → inode_at (page_of q) n ≡ inode_at (running_on g s p) n
  unfolding inode_at bytes_of_node
  inode-resident n h there =
      let f = bounds.places in
      ap (λ (o : Option (List ℕ)). inode_of (slot_at (λ v. o) 256 0 (n % 16)))
      (sym (resident-is g t q (67 + n / 16) there) ∙ on.needed (67 + n / 16) (inl (inode-address (g.shape s) n (omega (arith, h, f)))))
