-- The file that a path leads to.
use Rattle.std.specs.Prelude.{◌≡◌, ℕ, false, List, Option, Some}
use Rattle.nl_field.specs.Graph.{Graph}
use Rattle.nl_field.specs.declared.inode.InodeRec.{InodeRec}
use Rattle.nl_field.specs.declared.inode.Kind.TheVariants.{Dir}
use Rattle.nl_tree.specs.Represents.{node_reached}
use Rattle.nl_tree.specs.Step.{is_too_long}
use Rattle.nl_tree.specs.Tree.{Tree}
use Rattle.nl_tree.specs.declared.reply.Refusal.TheVariants.{Eisdir}
use Rattle.nl_iface.specs.declared.counts.Counts.{Ghosts}
use Rattle.nl_meta.specs.Consistent.{PageOfStamp}
use Rattle.nl_meta.specs.Nodes.{graph_of}
use Rattle.nl_meta_running.specs.Running.{IsNodeOf}
use Rattle.nl_spec_commits.specs.Trees.{RepresentsTree}
use Rattle.nl_core.specs.Core.{running_of}
use Rattle.nl_core.specs.declared.state.Core.{Core}
use Rattle.nl_calls_files.specs.Fits.{IsFileOf}
use Rattle.nl_calls_files.specs.Refusals.{refusal_of_path}
use Rattle.nl_calls_steps.specs.declared.answer.Found.TheVariants as found
use Rattle.nl_calls_steps.specs.declared.answer.Found.{Found}

-- the nodes of a core
abbrev pub nodes_of : {D : Type 0} → Ghosts D → Core D → Graph
nodes_of g v = graph_of (g.shape v.device) (running_of g v)

-- the node is a file
abbrev pub IsSomeFile : {D : Type 0} → Ghosts D → Core D → ℕ → Type 0
IsSomeFile g v n = (rec : InodeRec) × IsFileOf g v.device v.meta n rec

-- the node is a file of this generation
abbrev pub IsOfGeneration : {D : Type 0} → Ghosts D → Core D → ℕ → ℕ → Type 0
IsOfGeneration g v n generation = (rec : InodeRec) × IsFileOf g v.device v.meta n rec × (rec.generation ≡ generation)

-- The path leads to a file; or it is refused as in the tree for which the core stands.
abbrev pub IsFoundFile : {D : Type 0} → Ghosts D → Core D → List (List ℕ) → Found → Type 0
IsFoundFile g v path (found.File n) = (is_too_long path ≡ false) × (node_reached (nodes_of g v) 0 path ≡ Some n) × IsSomeFile g v n
IsFoundFile g v path (found.No refusal) =
    (page_of_stamp : ℕ → Option PageOfStamp) (tree : Tree) → RepresentsTree (g.shape v.device) (running_of g v) page_of_stamp tree
    → refusal_of_path tree path ≡ Some refusal

-- The node is a file, or a directory, which is refused.
abbrev pub IsFileOrNot : {D : Type 0} → Ghosts D → Core D → ℕ → Found → Type 0
IsFileOrNot g v n (found.File m) = (m ≡ n) × IsSomeFile g v n
IsFileOrNot g v n (found.No refusal) = (refusal ≡ Eisdir) × ((rec : InodeRec) × IsNodeOf g v.device v.meta n rec × (rec.kind ≡ Dir))
