-- The place of a name, before the calls that found it.
use Rattle.std.proofs.Common.{◌≡◌, ℕ, List, [], sym, ap, subst, ◌∙◌, Option, Some, None, option_map, bytes_eq}
use Rattle.std.specs.Prelude.{find}
use Rattle.nl_field.specs.declared.entry.EntryRec.{EntryRec}
use Rattle.nl_field.specs.declared.inode.InodeRec.{InodeRec}
use Rattle.nl_field.specs.declared.inode.Kind.TheVariants.{File}
use Rattle.nl_iface.specs.Device.{IsVolumeShape}
use Rattle.nl_iface.specs.declared.counts.Counts.{Ghosts}
use Rattle.nl_meta.specs.Nodes.{entry_named}
use Rattle.nl_meta.specs.Pages.{Pages}
use Rattle.nl_tree.specs.declared.reply.Refusal.TheVariants.{Enotdir}
use Rattle.nl_meta_running.specs.Running.{IsNodeOf, PreservesRunning, running_on}
use Rattle.nl_meta_running.proofs.Holds.{bounds-of}
use Rattle.nl_meta_running.proofs.SameNeeded.{own}
use Rattle.nl_namespace.specs.Naming.{NameIn}
use Rattle.nl_namespace.specs.Paths.{onward, walk_refusal}
use Rattle.nl_namespace.specs.Placing.{EntersAt, DirectoryIsResident, IsParentAt, IsPlaceOfPath}
use Rattle.nl_namespace.specs.declared.place.Place.{Place}
use Rattle.nl_namespace.proofs.Chains.{node-before}
use Rattle.nl_namespace.proofs.Entries.{has-before}
use Rattle.nl_namespace.proofs.Graphs.{graph, refused-by, refused-file}

module _ {D : Type 0} (g : Ghosts D) (s : D) (p : Pages) (t : D) (q : Pages) (shape : IsVolumeShape (g.shape s)) (on : PreservesRunning g s p t q) (path : List (List ℕ)) (n : ℕ) (parent : IsParentAt g s p path n) where
  pub placed-at : (name : List ℕ) (place : Place) → name ≡ parent.name → EntersAt g t q n name place → IsPlaceOfPath g s p path place
  unfolding entry_named walk_refusal
  placed-at name place same enters = record {
    name = parent.name;
    named = subst (λ (m : ℕ). NameIn (graph g s p) path m parent.name) (sym enters.dir) parent.named;
    walked = parent.walked ∙ refused-by g s p n parent.name place.entry (record { rec = place.rec; is_node = is; is_dir = enters.is_dir; named = entry }) [] ∙ last (option_map (λ (e : EntryRec). e.ino) place.entry);
    is_node = subst (λ (m : ℕ). IsNodeOf g s p m place.rec) (sym enters.dir) is;
    is_dir = enters.is_dir;
    entry = entry;
  }
    where
      is : IsNodeOf g s p n place.rec
      is = node-before g s p t q shape on n place.rec enters.is_node

      entry : entry_named (running_on g s p) place.rec parent.name ≡ place.entry
      entry =
          ap (λ (es : List EntryRec). find (λ e. bytes_eq e.name parent.name) es) (sym (own (g.shape s) (bounds-of (g.shape s) shape) (running_on g s p) (running_on g t q) on.needed n place.rec is enters.is_dir).entries)
          ∙ ap (entry_named (running_on g t q) place.rec) (sym same) ∙ enters.entry

      last : (o : Option ℕ) → onward o [] (λ m. walk_refusal (graph g s p) m []) ≡ None
      last None = λ i. None
      last (Some m) = λ i. None

  pub file-spot : (rec : InodeRec) → IsNodeOf g t q n rec → rec.kind ≡ File → walk_refusal (graph g s p) 0 path ≡ Some Enotdir
  file-spot rec is file = parent.walked ∙ refused-file g s p n parent.name rec (node-before g s p t q shape on n rec is) file []

  pub held-before : (name : List ℕ) (place : Place) (r : Pages) → EntersAt g t q n name place → DirectoryIsResident g t q r place.dir place.rec → DirectoryIsResident g s p r place.dir place.rec
  held-before name place r enters held = record {
    node = held.node;
    entries = has-before g s p t q (bounds-of (g.shape s) shape) on n place.rec (node-before g s p t q shape on n place.rec enters.is_node) enters.is_dir r held.entries;
  }
