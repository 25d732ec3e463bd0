-- What a name leads to in a node.
use Rattle.std.specs.Prelude.{◌≡◌, ℕ, List, Option, Some, None}
use Rattle.nl_field.specs.declared.entry.EntryRec.{EntryRec}
use Rattle.nl_field.specs.declared.inode.InodeRec.{InodeRec}
use Rattle.nl_field.specs.declared.inode.Kind.TheVariants.{File, Dir}
use Rattle.nl_iface.specs.declared.counts.Counts.{Ghosts}
use Rattle.nl_meta.specs.Nodes.{entry_named}
use Rattle.nl_meta.specs.Pages.{Pages}
use Rattle.nl_meta_running.specs.Running.{IsNodeOf, running_on}
use Rattle.nl_namespace.specs.declared.walk.Step.{Step}
use Rattle.nl_namespace.specs.declared.walk.Step.TheVariants as step

-- The node is a directory, and has this entry of the name.
pub record InDirectory {D : Type 0} (g : Ghosts D) (s : D) (p : Pages) (n : ℕ) (name : List ℕ) (entry : Option EntryRec) : Type 0 where
  pub rec : InodeRec
  pub is_node : IsNodeOf g s p n rec
  pub is_dir : rec.kind ≡ Dir
  pub named : entry_named (running_on g s p) rec name ≡ entry

abbrev pub StepsInto : {D : Type 0} → Ghosts D → D → Pages → ℕ → List ℕ → Step → Type 0
StepsInto g s p n name (step.To m) = (e : EntryRec) × InDirectory g s p n name (Some e) × (e.ino ≡ m)
StepsInto g s p n name step.Missing = InDirectory g s p n name None
StepsInto g s p n name step.File = (rec : InodeRec) × IsNodeOf g s p n rec × (rec.kind ≡ File)
