-- What is printed of an entry, and of all.
use Rattle.std.proofs.Common.{◌≡◌, ℕ, ◌++◌, ◌∷◌, [], List, refl, sym, ap, ◌∙◌}
use Rattle.std.proofs.lemmas.List.{append-nil}
use Rattle.nl_field.specs.Members.{Has}
use Rattle.nl_field.specs.declared.entry.EntryRec.{EntryRec}
use Rattle.nl_field.specs.declared.inode.InodeRec.{InodeRec}
use Rattle.nl_field.specs.declared.inode.Kind.{Kind}
use Rattle.nl_field.specs.declared.inode.Kind.TheVariants.{Dir, File, Unused}
use Rattle.nl_iface.specs.declared.counts.Counts.{Ghosts}
use Rattle.nl_meta.specs.Nodes.{body_of, entries_of_inode, entry_named, graph_of}
use Rattle.nl_meta.specs.Pages.{Pages}
use Rattle.nl_field.specs.Numbers.{ShapeBounds}
use Rattle.nl_field.specs.declared.shape.Shape.{Shape}
use Rattle.nl_meta.specs.Committed.{VirtualMap}
use Rattle.nl_meta.proofs.Lists.{some_in}
use Rattle.nl_dir.specs.Directory.{IsDirectory}
use Rattle.nl_dir.proofs.LawProofs.{entries_in_order, right_is_directory}
use Rattle.nl_meta_running.proofs.GraphStays.{graph-same}
use Rattle.nl_meta_running.proofs.SameNeeded.{entries-same}
use Rattle.nl_dir.proofs.ListProofs.{entries_by_lists}
use Rattle.nl_namespace.specs.Listing.{kind_mark, mark_of, text_of}
use Rattle.nl_meta_running.specs.Running.{IsNodeOf, IsUsedNode, RunningIsRight, PreservesRunning, running_on}
use Rattle.nl_namespace.proofs.Graphs.{body-is, graph}

-- entries of one name are one
pub names-differ : (pages : VirtualMap) (rec : InodeRec) → IsDirectory pages rec → (e f : EntryRec) → Has (entries_of_inode pages rec) e → Has (entries_of_inode pages rec) f → e.name ≡ f.name → e ≡ f
names-differ pages rec is e f h k same =
    let by = (entries_in_order pages rec is).by_name in
    some_in e f (sym ((by e).0 h) ∙ ap (entry_named pages rec) same ∙ (by f).0 k)

module _ {D : Type 0} (g : Ghosts D) (s : D) (p : Pages) where
  pub graph-on : (t : D) (q : Pages) → ShapeBounds (g.shape s) → PreservesRunning g s p t q → graph g t q ≡ graph g s p
  graph-on t q bounds on =
      ap (λ (n : Shape). graph_of n (running_on g t q)) on.reads.medium.virtual.same_shape
      ∙ graph-same (g.shape s) bounds (running_on g s p) (running_on g t q) on.needed

  pub entries-on : (t : D) (q : Pages) → ShapeBounds (g.shape s) → PreservesRunning g s p t q → (n : ℕ) (rec : InodeRec) → IsNodeOf g s p n rec → rec.kind ≡ Dir
      → entries_of_inode (running_on g t q) rec ≡ entries_of_inode (running_on g s p) rec
  entries-on t q bounds on n rec is dir = entries-same (g.shape s) bounds (running_on g s p) (running_on g t q) on.needed n rec is dir

  pub directory-of : RunningIsRight g s p → (n : ℕ) (rec : InodeRec) → IsNodeOf g s p n rec → rec.kind ≡ Dir → IsDirectory (running_on g s p) rec
  directory-of runs n rec is dir = right_is_directory (g.shape s) (running_on g s p) n rec runs.addresses runs.entries is dir

  pub listed-used : RunningIsRight g s p → (n : ℕ) (rec : InodeRec) → IsNodeOf g s p n rec → rec.kind ≡ Dir → (e : EntryRec) → Has (entries_of_inode (running_on g s p) rec) e → IsUsedNode g s p e.ino
  listed-used runs n rec is dir e has =
      let lists = (entries_by_lists (g.shape s) (running_on g s p) runs.addresses).0 runs.entries in
      let good = lists.good n e (record { rec = rec; is_node = is; is_dir = dir; has = has }) in
      (good.target, good.is_node)

  kind-of : (rec : InodeRec) (k : Kind) → mark_of (body_of (running_on g s p) rec k) ≡ kind_mark k
  kind-of rec Unused = refl
  kind-of rec File = refl
  kind-of rec Dir = refl

  pub one-text : (e : EntryRec) (target : InodeRec) → IsNodeOf g s p e.ino target → text_of (graph g s p) (e ∷ []) ≡ 32 ∷ e.name ++ kind_mark target.kind
  unfolding text_of
  one-text e target is =
      append-nil (32 ∷ e.name ++ mark_of ((graph g s p) e.ino).body)
      ∙ ap (λ (m : List ℕ). 32 ∷ e.name ++ m) (ap mark_of (body-is g s p e.ino target is target.kind refl) ∙ kind-of target target.kind)
