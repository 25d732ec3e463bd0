-- Which count of calls and which tree an image stands for, and when it is consistent.
use Rattle.std.specs.Prelude.{◌≡◌, ℕ, ◌≤◌, IsTrue, List, [], Option, option_map, unwrap_or}
use Rattle.nl_field.specs.Page.{Image, is_image}
use Rattle.nl_field.specs.Medium.{shape_of_image}
use Rattle.nl_tree.specs.Tree.{Tree, IsTree}
use Rattle.nl_tree.specs.Charges.{data_charge}
use Rattle.nl_tree.specs.Represents.{Represents}
use Rattle.nl_meta.specs.Committed.{committed_of}
use Rattle.nl_meta.specs.Nodes.{graph_of}
use Rattle.nl_meta.specs.Consistent.{MetadataRight, OwnNames, ImageHasRoom, PageOfStamp, page_on}

-- the bytes of the page of a stamp
abbrev pub bytes_for : (ℕ → Option PageOfStamp) → ℕ → List ℕ
bytes_for page_of_stamp stamp = unwrap_or (option_map (λ page. page.bytes) (page_of_stamp stamp)) []

-- the bytes of a readable physical page of that stamp
unfoldable pub bytes_found : Image → ℕ → List ℕ
bytes_found image stamp = bytes_for (page_on image) stamp

-- The committed pages are metadata of a tree, with this count in the super page, and their nodes are those of this tree.
pub record ImageRepresents (image : Image) (count : ℕ) (tree : Tree) : Type 0 where
  pub pages_whole : IsTrue (is_image image)
  pub metadata : MetadataRight image
  pub count_of_calls : metadata.super_rec.count ≡ count
  pub is_tree : IsTree tree
  pub depicts : Represents (bytes_found image) (graph_of (shape_of_image image) (committed_of image)) tree

-- The image opens, and as this tree after so many calls.
pub record ConsistentAs (image : Image) (count : ℕ) (tree : Tree) : Type 0 where
  pub stands : ImageRepresents image count tree
  pub own_names : OwnNames image
  pub data_fits : data_charge tree ≤ (shape_of_image image).cap
  pub room : ImageHasRoom image

abbrev pub IsConsistentImage : Image → Type 0
IsConsistentImage image = (count : ℕ) × (tree : Tree) × ConsistentAs image count tree
