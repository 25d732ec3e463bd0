-- The law of a sound image: it has a readable page.
use Rattle.std.specs.Prelude.{◌≢◌, ℕ, []}
use Rattle.nl_field.specs.Medium.{readable_pages}
use Rattle.nl_field.specs.Page.{Image}
use Rattle.nl_tree.specs.Tree.{Tree}
use Rattle.nl_spec_image.specs.Stands.{ConsistentAs}

-- a sound image has a readable page
abbrev pub ConsistentIsReadable : Type 0
ConsistentIsReadable = (image : Image) (count : ℕ) (tree : Tree) → ConsistentAs image count tree → readable_pages image ≢ []
