-- What a path comes to in the nodes of a volume.
use Rattle.std.specs.Prelude.{◌≡◌, ℕ, ⊤, List, [], ◌∷◌, Option, Some, None}
use Rattle.nl_field.specs.Graph.{NodeBody, unused, directory_node, file_node, Graph}
use Rattle.nl_tree.specs.Represents.{node_named, node_reached}
use Rattle.nl_tree.specs.declared.reply.Refusal.{Refusal}
use Rattle.nl_tree.specs.declared.reply.Refusal.TheVariants.{Enoent, Enotdir}
use Rattle.nl_namespace.specs.declared.answer.Look.{Look}
use Rattle.nl_namespace.specs.declared.answer.Look.TheVariants as look

-- where a name leads: a last name may be missing, and no other
abbrev pub onward : Option ℕ → List (List ℕ) → (ℕ → Option Refusal) → Option Refusal
onward None [] refusal = None
onward None (name ∷ names) refusal = Some Enoent
onward (Some n) names refusal = refusal n

abbrev pub within : NodeBody → List ℕ → List (List ℕ) → (ℕ → Option Refusal) → Option Refusal
within unused name names refusal = Some Enoent
within (file_node size pointers) name names refusal = Some Enotdir
within (directory_node entries) name names refusal = onward (node_named name entries) names refusal

-- The walk of a path from a node through all names but the last: the first that is missing, or that is a file's, refuses.
unfoldable pub walk_refusal : Graph → ℕ → List (List ℕ) → Option Refusal
walk_refusal graph n [] = None
walk_refusal graph n (name ∷ names) = within (graph n).body name names (λ m. walk_refusal graph m names)

-- A path is answered by the node at its end, by what the walk refuses, or as missing where there is neither.
abbrev pub Looks : Graph → List (List ℕ) → Look → Type 0
Looks graph path (look.At n) = node_reached graph 0 path ≡ Some n
Looks graph path look.Missing = (node_reached graph 0 path ≡ None) × (walk_refusal graph 0 path ≡ None)
Looks graph path (look.No refusal) = walk_refusal graph 0 path ≡ Some refusal
Looks graph path look.Fault = ⊤
Looks graph path (look.Lost w f) = ⊤

abbrev pub IfNodeAt : Look → (ℕ → Type 0) → Type 0
IfNodeAt (look.At n) P = P n
IfNodeAt look.Missing P = ⊤
IfNodeAt (look.No refusal) P = ⊤
IfNodeAt look.Fault P = ⊤
IfNodeAt (look.Lost w f) P = ⊤
