-- What holds of a volume that was opened, and after a call on it.
use Rattle.std.proofs.Common.{◌≡◌, ℕ, ◌+◌, ◌<◌, List, None, Some, refl, sym, ap, ◌∙◌, subst, arith}
use Rattle.std.specs.Prelude.{IsTrue}
use Rattle.nl_field.specs.Graph.{Graph}
use Rattle.nl_field.specs.Numbers.{ShapeBounds, is_legal, shape_for}
use Rattle.nl_field.specs.declared.inode.InodeRec.{InodeRec}
use Rattle.nl_field.specs.declared.inode.Kind.TheVariants.{Dir}
use Rattle.nl_field.specs.declared.seen.Seen.{Seen}
use Rattle.nl_field.specs.declared.shape.Shape.{Shape}
use Rattle.nl_iface.specs.Calls.{OnlyReads}
use Rattle.nl_iface.specs.Device.{IsVolumeShape}
use Rattle.nl_iface.specs.declared.counts.Counts.{Ghosts}
use Rattle.nl_inode.specs.Nodes.{AreFree, Spaces}
use Rattle.nl_meta.specs.Consistent.{AddressAt}
use Rattle.nl_meta.specs.Pages.{Pages}
use Rattle.nl_meta.proofs.Lists.{none_some}
use Rattle.nl_namespace.specs.Changing.{FreeFits, ChangeLeaves, RunningIsRightBut}
use Rattle.nl_namespace.specs.Naming.{MakesNode}
use Rattle.nl_namespace.specs.declared.answer.Change.{Change}
use Rattle.nl_namespace.specs.declared.answer.Change.TheVariants as change
use Rattle.nl_tree.specs.Tree.{Node}
use Rattle.nl_recover.specs.Freeing.{SpacesOf}
use Rattle.nl_recover.specs.Recovering.{IsWalked}
use Rattle.nl_recover.specs.declared.opening.Walked.{Walked}
use Rattle.nl_meta_running.specs.Running.{IsDirectoryAt, IsNodeOf, IsUsedNode, RunningIsRight, PreservesRunning, running_on}
use Rattle.nl_meta_running.proofs.Holds.{bounds-of}
use Rattle.nl_meta_running.proofs.Kept.{runs-then, used-back, used-on}
use Rattle.nl_test_namespace.specs.Volumes.{AddressesCanBeWritten, IsOpen, gone_of}

-- ---- an opening

pub fits-opened : {D : Type 0} (g : Ghosts D) (s : D) (p : Pages) (free : Spaces) → ShapeBounds (g.shape s) → SpacesOf (g.shape s) free → AreFree (g.shape s) (running_on g s p) free → FreeFits g s p free
fits-opened g s p free bounds spaces f =
    let first = spaces.first in
    let pool = spaces.pool in
    let addresses = bounds.addresses in
    record {
      count_nodes = spaces.nodes;
      count_pool = omega (arith, first, pool, addresses);
      nodes = record { each = f.nodes };
      pool = record {
        first = first;
        each = λ a low high.
            let both = f.pool a (omega (arith, low, first)) high in
            ((λ is_free uses. both.0 is_free uses.0 uses.1 uses.2), (λ none. both.1 (λ n slot at. none (n, slot, at))));
      };
    }

pub writes-on : {D : Type 0} {g : Ghosts D} {s : D} {shape : Shape} → AddressesCanBeWritten g s shape → (t : D) → g.formed t → OnlyReads g s t → AddressesCanBeWritten g t shape
writes-on can t formed reads = record {
  formed = formed;
  numbers = reads.medium.virtual.same_shape ∙ can.numbers;
  bounds = can.bounds;
  spare = reads.medium.virtual.spare can.spare;
}

-- a volume that was opened
pub opened-volume : {D : Type 0} {g : Ghosts D} {s t : D} {shape : Shape} {seen : List Seen} {w : Walked} → AddressesCanBeWritten g s shape → g.formed t → OnlyReads g s t → IsWalked g t seen w → AddressesCanBeWritten g t shape × IsOpen g t w.meta w.nodes
opened-volume {g} {t} {w} can formed reads walked =
    let after = writes-on can t formed reads in
    (after, record { runs = walked.runs; fits = fits-opened g t w.meta w.nodes (subst ShapeBounds (sym after.numbers) after.bounds) walked.spaces walked.free })

-- ---- after calls

-- what is free goes on to be what no node has
module _ {D : Type 0} (g : Ghosts D) (s : D) (p : Pages) (t : D) (q : Pages) (volume : IsVolumeShape (g.shape s)) (on : PreservesRunning g s p t q) where
  node-after : (n : ℕ) (rec : InodeRec) → IsNodeOf g s p n rec → IsNodeOf g t q n rec
  node-after n rec is = used-on g s p t q (bounds-of (g.shape s) volume) on n rec is

  node-before : (n : ℕ) (rec : InodeRec) → IsNodeOf g t q n rec → IsNodeOf g s p n rec
  node-before n rec is = used-back g s p t q (bounds-of (g.shape s) volume) on n rec is

  fits-then : (free : Spaces) → FreeFits g s p free → FreeFits g t q free
  fits-then free fits = record {
    count_nodes = fits.count_nodes ∙ ap (λ (n : Shape). n.nodes) shapes;
    count_pool = fits.count_pool ∙ ap (λ (n : Shape). n.meta) shapes;
    nodes = record {
      each = λ n h. let w = subst (λ (z : Shape). n < z.nodes) (sym shapes) h in (
        (λ f rec is. (fits.nodes.each n w).0 f rec (node-before n rec is)),
        (λ none. (fits.nodes.each n w).1 (λ rec is. none rec (node-after n rec is))),
      );
    };
    pool = record {
      first = fits.pool.first ∙ ap (λ (n : Shape). 67 + n.inode_pages) shapes;
      each = λ a low high. let w = subst (λ (z : Shape). a < z.vaddrs) (sym shapes) high in (
        (λ f u. (fits.pool.each a low w).0 f (u.0, u.1, before u.0 u.1 a u.2)),
        (λ none. (fits.pool.each a low w).1 (λ u. none (u.0, u.1, after u.0 u.1 a u.2))),
      );
    };
  }
    where
      shapes : g.shape s ≡ g.shape t
      shapes = sym on.reads.medium.virtual.same_shape

      before : (n slot a : ℕ) → AddressAt (g.shape t) (running_on g t q) n slot a → AddressAt (g.shape s) (running_on g s p) n slot a
      before n slot a x = record { rec = x.rec; is_node = node-before n x.rec x.is_node; in_slot = x.in_slot; not_zero = x.not_zero }

      after : (n slot a : ℕ) → AddressAt (g.shape s) (running_on g s p) n slot a → AddressAt (g.shape t) (running_on g t q) n slot a
      after n slot a x = record { rec = x.rec; is_node = node-after n x.rec x.is_node; in_slot = x.in_slot; not_zero = x.not_zero }

runs-but : {D : Type 0} (g : Ghosts D) (t : D) (q : Pages) → RunningIsRightBut g t q None → RunningIsRight g t q
runs-but g t q r = record { count = r.count; nodes = r.nodes; addresses = r.addresses; entries = r.entries; absent = r.absent; clean = r.clean }

module _ {D : Type 0} (g : Ghosts D) (s : D) (p : Pages) (t : D) (q : Pages) (free after : Spaces) where
  pub left-reads : (answer : Change) → ChangeLeaves g s p free t q after answer → OnlyReads g s t
  left-reads (change.Changed lost) left = left.reads
  left-reads (change.No refusal) left = left.0.reads
  left-reads change.Fault left = left.0.reads
  left-reads (change.Lost w f) left = left.0.reads

  module _ (volume : IsVolumeShape (g.shape s)) (was : IsOpen g s p free) where
    pub open-on : PreservesRunning g s p t q → IsOpen g t q free
    open-on on = record { runs = runs-then g s p t q (bounds-of (g.shape s) volume) on was.runs; fits = fits-then g s p t q volume on free was.fits }

    pub used-then : (n : ℕ) → PreservesRunning g s p t q → IsUsedNode g s p n → IsUsedNode g t q n
    used-then n on used = (used.0, used-on g s p t q (bounds-of (g.shape s) volume) on n used.0 used.1)

    pub directory-then : (n : ℕ) (rec : InodeRec) → PreservesRunning g s p t q → IsNodeOf g s p n rec → rec.kind ≡ Dir → IsDirectoryAt g t q n
    directory-then n rec on is dir = (rec, used-on g s p t q (bounds-of (g.shape s) volume) on n rec is, dir)

    pub open-left : (answer : Change) → gone_of answer ≡ None → ChangeLeaves g s p free t q after answer → IsOpen g t q after
    open-left (change.Changed None) none left = record { runs = runs-but g t q left.runs; fits = left.fits }
    open-left (change.Changed (Some n)) none left = absurd (none_some n (sym none))
    open-left (change.No refusal) none left = subst (IsOpen g t q) (sym left.1) (open-on left.0)
    open-left change.Fault none left = subst (IsOpen g t q) (sym left.1) (open-on left.0)
    open-left (change.Lost w f) none left = subst (IsOpen g t q) (sym left.1) (open-on left.0)

-- a node that was made took nobody's name
pub none-gone : (free : Spaces) (old new : Graph) (path : List (List ℕ)) (node : Node) (answer : Change) → MakesNode free old new path node answer → gone_of answer ≡ None
none-gone free old new path node (change.Changed lost) makes = makes.1
none-gone free old new path node (change.No refusal) makes = refl
none-gone free old new path node change.Fault makes = refl
none-gone free old new path node (change.Lost w f) makes = refl

-- ---- numbers

pub volume-shape : (blocks pages : ℕ) (shape : Shape) → IsTrue (is_legal blocks pages) → shape ≡ shape_for blocks pages → IsVolumeShape shape
unfolding shape_for
volume-shape blocks pages shape legal is = subst IsVolumeShape (sym is) (record { legal = legal; numbers = refl })
