-- What a path comes to in the tree for which the pages stand.
use Rattle.std.specs.Prelude.{◌≡◌, ℕ, ⊤, List, [], ◌∷◌, Option, Some, None}
use Rattle.nl_field.specs.declared.inode.Kind.TheVariants.{Dir, File}
use Rattle.nl_field.specs.declared.shape.Shape.{Shape}
use Rattle.nl_iface.specs.declared.counts.Counts.{Ghosts}
use Rattle.nl_meta.specs.Committed.{VirtualMap}
use Rattle.nl_meta.specs.Consistent.{PageOfStamp}
use Rattle.nl_meta.specs.Nodes.{graph_of}
use Rattle.nl_meta.specs.Pages.{Pages}
use Rattle.nl_meta_running.specs.Running.{IsNodeOf}
use Rattle.nl_meta_running.specs.declared.answer.Stop.{Stop}
use Rattle.nl_meta_running.specs.declared.answer.Stop.TheVariants as stop
use Rattle.nl_tree.specs.Represents.{node_reached}
use Rattle.nl_tree.specs.Step.{first_of, is_too_long, missing, prefix_refusal, when}
use Rattle.nl_tree.specs.Tree.{Tree, directory, file, node_at}
use Rattle.nl_tree.specs.declared.reply.Refusal.{Refusal}
use Rattle.nl_tree.specs.declared.reply.Refusal.TheVariants.{Enametoolong}
use Rattle.nl_calls_files.specs.FileTrees.{held_content}
use Rattle.nl_calls_read.specs.declared.answer.Spot.{Spot}
use Rattle.nl_calls_read.specs.declared.answer.Spot.TheVariants as spot

-- why a path leads to nothing
abbrev pub refusal_of_path : Tree → List (List ℕ) → Option Refusal
refusal_of_path tree path = first_of (when (is_too_long path) Enametoolong ∷ prefix_refusal tree path ∷ missing tree path ∷ [])

-- what stands there: a file with the content of its node, a directory, or nothing
abbrev pub IsSpot : Shape → VirtualMap → (ℕ → Option PageOfStamp) → Tree → List (List ℕ) → Spot → Type 0
IsSpot shape pages page_of_stamp tree path (spot.File n rec) =
    (refusal_of_path tree path ≡ None) × (node_at tree path ≡ Some (file (held_content page_of_stamp pages rec)))
IsSpot shape pages page_of_stamp tree path (spot.Dir n rec) =
    (refusal_of_path tree path ≡ None) × (node_at tree path ≡ Some directory) × (node_reached (graph_of shape pages) 0 path ≡ Some n)
IsSpot shape pages page_of_stamp tree path (spot.No refusal) = refusal_of_path tree path ≡ Some refusal
IsSpot shape pages page_of_stamp tree path (spot.Lost w f) = ⊤
IsSpot shape pages page_of_stamp tree path spot.Fault = ⊤

-- what ends the search for it early
abbrev pub spot_stop : Spot → Option Stop
spot_stop (spot.File n rec) = None
spot_stop (spot.Dir n rec) = None
spot_stop (spot.No refusal) = None
spot_stop (spot.Lost w f) = Some (stop.Lost w f)
spot_stop spot.Fault = Some stop.Fault

-- The node of the spot has its record, and is of its kind.
abbrev pub HasNode : {D : Type 0} → Ghosts D → D → Pages → Spot → Type 0
HasNode g s pages (spot.File n rec) = IsNodeOf g s pages n rec × (rec.kind ≡ File)
HasNode g s pages (spot.Dir n rec) = IsNodeOf g s pages n rec × (rec.kind ≡ Dir)
HasNode g s pages (spot.No refusal) = ⊤
HasNode g s pages (spot.Lost w f) = ⊤
HasNode g s pages spot.Fault = ⊤

-- The spot is that of this node, unless a read fails.
abbrev pub IsOfNode : ℕ → Spot → Type 0
IsOfNode ino (spot.File n rec) = n ≡ ino
IsOfNode ino (spot.Dir n rec) = n ≡ ino
IsOfNode ino (spot.No refusal) = ⊥
IsOfNode ino (spot.Lost w f) = ⊤
IsOfNode ino spot.Fault = ⊤
