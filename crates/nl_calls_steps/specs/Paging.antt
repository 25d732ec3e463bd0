-- What a page of a file holds.
use Rattle.std.specs.Prelude.{◌≡◌, ℕ, List, Option, Some}
use Rattle.nl_field.specs.FileContent.{page_bytes}
use Rattle.nl_tree.specs.Represents.{node_reached}
use Rattle.nl_tree.specs.Tree.{Tree, content_of, node_at}
use Rattle.nl_iface.specs.declared.counts.Counts.{Ghosts}
use Rattle.nl_meta.specs.Consistent.{PageOfStamp}
use Rattle.nl_core.specs.Trees.{CoreRepresentsTree}
use Rattle.nl_core.specs.declared.state.Core.{Core}
use Rattle.nl_calls_steps.specs.Finding.{nodes_of}

-- The bytes are those of the page of an index of the file that a path leads to.
abbrev pub ArePageBytes : {D : Type 0} → Ghosts D → Core D → ℕ → ℕ → List ℕ → Type 0
ArePageBytes g v n index bytes =
    g.tells → (page_of_stamp : ℕ → Option PageOfStamp) (tree : Tree) (path : List (List ℕ)) → CoreRepresentsTree g v page_of_stamp tree
    → node_reached (nodes_of g v) 0 path ≡ Some n
    → bytes ≡ page_bytes (content_of (node_at tree path)) index
