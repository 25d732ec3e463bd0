-- Why a call on a file is refused by its path.
use Rattle.std.specs.Prelude.{◌≡◌, ℕ, List, [], ◌∷◌, Option, Some, None}
use Rattle.nl_field.specs.declared.inode.InodeRec.{InodeRec}
use Rattle.nl_field.specs.declared.inode.Kind.TheVariants.{File}
use Rattle.nl_field.specs.declared.shape.Shape.{Shape}
use Rattle.nl_tree.specs.Represents.{node_reached}
use Rattle.nl_tree.specs.Step.{first_of, is_too_long, refusal_of_file, when}
use Rattle.nl_tree.specs.Tree.{Tree}
use Rattle.nl_tree.specs.declared.reply.Refusal.{Refusal}
use Rattle.nl_tree.specs.declared.reply.Refusal.TheVariants.{Eisdir, Enametoolong, Enoent}
use Rattle.nl_meta.specs.Committed.{VirtualMap}
use Rattle.nl_meta.specs.Consistent.{IsNode}
use Rattle.nl_meta.specs.Nodes.{graph_of}
use Rattle.nl_namespace.specs.Paths.{Looks}
use Rattle.nl_namespace.specs.declared.answer.Look.TheVariants as look

-- why a path leads to no file
abbrev pub refusal_of_path : Tree → List (List ℕ) → Option Refusal
refusal_of_path tree path = first_of (when (is_too_long path) Enametoolong ∷ refusal_of_file tree path ∷ [])

-- What a look at the path answers says why it leads to no file.
pub record LooksRefuse (shape : Shape) (pages : VirtualMap) (tree : Tree) (path : List (List ℕ)) : Type 0 where
  pub missing : Looks (graph_of shape pages) path look.Missing → refusal_of_path tree path ≡ Some Enoent
  pub refused : (r : Refusal) → Looks (graph_of shape pages) path (look.No r) → refusal_of_path tree path ≡ Some r
  pub other : (n : ℕ) (rec : InodeRec) → IsNode shape pages n rec → node_reached (graph_of shape pages) 0 path ≡ Some n
      → (rec.kind ≡ File → ⊥) → refusal_of_path tree path ≡ Some Eisdir
  pub file : (n : ℕ) (rec : InodeRec) → IsNode shape pages n rec → node_reached (graph_of shape pages) 0 path ≡ Some n → rec.kind ≡ File
      → refusal_of_path tree path ≡ None
