-- What metadata that is right stands for, without an image: exactly one tree, whose charges are counts of pointers, nodes and addresses.
use Rattle.std.specs.Prelude.{◌≡◌, ℕ, ◌≤◌, length, Option}
use Rattle.std.specs.List.{flat_map}
use Rattle.nl_field.specs.Numbers.{max_entries}
use Rattle.nl_field.specs.declared.shape.Shape.{Shape}
use Rattle.nl_tree.specs.Tree.{Tree, IsTree}
use Rattle.nl_tree.specs.Charges.{data_charge, node_charge, meta_charge}
use Rattle.nl_tree.specs.Represents.{Represents, entries_in}
use Rattle.nl_meta.specs.Committed.{VirtualMap}
use Rattle.nl_meta.specs.Nodes.{graph_of, held_in}
use Rattle.nl_meta.specs.Walk.{addresses_of, used_nodes}
use Rattle.nl_meta.specs.Consistent.{PageOfStamp, RightFor}
use Rattle.nl_spec_image.specs.Stands.{bytes_for}

-- the pages represent this tree
pub record PagesRepresent (shape : Shape) (pages : VirtualMap) (page_of_stamp : ℕ → Option PageOfStamp) (tree : Tree) : Type 0 where
  pub is_tree : IsTree tree
  pub depicts : Represents (bytes_for page_of_stamp) (graph_of shape pages) tree

-- Metadata that is right represents a tree.
abbrev pub RightRepresents : Type 0
RightRepresents =
    (shape : Shape) (pages : VirtualMap) (page_of_stamp : ℕ → Option PageOfStamp) → RightFor shape pages page_of_stamp
    → (tree : Tree) × PagesRepresent shape pages page_of_stamp tree

-- Metadata that is right represents no second tree.
abbrev pub RepresentedIsOne : Type 0
RepresentedIsOne =
    (shape : Shape) (pages : VirtualMap) (page_of_stamp : ℕ → Option PageOfStamp) (tree tree' : Tree)
    → PagesRepresent shape pages page_of_stamp tree → PagesRepresent shape pages page_of_stamp tree' → tree ≡ tree'

-- The charges of the tree are those of its pages: data is the pointers of files, nodes the used nodes, meta the addresses of used nodes.
pub record ChargesOfPages (shape : Shape) (pages : VirtualMap) (tree : Tree) : Type 0 where
  pub data_pages : data_charge tree ≡ length (held_in shape pages)
  pub used : node_charge tree ≡ length (used_nodes shape pages)
  pub meta_pages : meta_charge tree ≡ length (flat_map addresses_of (used_nodes shape pages))
  -- no more nodes and addresses are used than the volume has, and no directory has more entries than it may have
  pub few_entries : (n : ℕ) → length (entries_in (graph_of shape pages n).body) ≤ max_entries
  pub few_nodes : length (used_nodes shape pages) ≤ shape.nodes
  pub few_meta : length (flat_map addresses_of (used_nodes shape pages)) ≤ shape.meta

abbrev pub RightCharges : Type 0
RightCharges =
    (shape : Shape) (pages : VirtualMap) (page_of_stamp : ℕ → Option PageOfStamp) (tree : Tree)
    → RightFor shape pages page_of_stamp → PagesRepresent shape pages page_of_stamp tree → ChargesOfPages shape pages tree
