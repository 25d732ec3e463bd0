-- The page of a file as a call leaves it.
use Rattle.std.specs.Prelude.{◌≡◌, ℕ, List, Option, Some}
use Rattle.nl_field.specs.FileContent.{FileContent}
use Rattle.nl_tree.specs.Represents.{node_reached}
use Rattle.nl_tree.specs.Tree.{Tree, content_of, node_at}
use Rattle.nl_tree.specs.declared.call.Call.{Call}
use Rattle.nl_iface.specs.declared.counts.Counts.{Ghosts}
use Rattle.nl_meta.specs.Consistent.{PageOfStamp}
use Rattle.nl_core.specs.Trees.{CoreRepresentsTree}
use Rattle.nl_core.specs.declared.state.Core.{Core}
use Rattle.nl_calls_steps.specs.Finding.{nodes_of}
use Rattle.nl_calls_bytes.specs.Ranges.{page_after, path_of}

-- what the tree has at the path of the call
abbrev pub content_at : Tree → Call → FileContent
content_at tree call = content_of (node_at tree (path_of call))

-- The bytes are those of the page of an index of the file to which the path of the call leads, once the bytes of the call are written.
abbrev pub MakesPage : {D : Type 0} → Ghosts D → Core D → ℕ → Call → ℕ → List ℕ → Type 0
MakesPage g v n call index bytes =
    g.tells → (page_of_stamp : ℕ → Option PageOfStamp) (tree : Tree) → CoreRepresentsTree g v page_of_stamp tree
    → node_reached (nodes_of g v) 0 (path_of call) ≡ Some n
    → bytes ≡ page_after (content_at tree call) call index
