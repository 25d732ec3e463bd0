-- What the plain tree as a program keeps beside the tree.
use Rattle.std.specs.Prelude.{◌≡◌, ℕ, ◌≤◌, ◌<◌, ◌^◌, is_none, Some, None, false, List, length}
use Rattle.nl_field.specs.Numbers.{max_entries}
use Rattle.nl_field.specs.FileContent.{FileContent}
use Rattle.nl_tree.specs.Tree.{file, Tree, entries_of, node_at}
use Rattle.nl_field.specs.declared.shape.Shape.{Shape}
use Rattle.nl_tree.specs.declared.reply.Reply.{Reply}
use Rattle.nl_tree.specs.declared.reply.Reply.TheVariants.{Synced}
use Rattle.nl_tree.specs.Step.{space_refusal}
use Rattle.nl_tree.specs.TreeLaws.{IsInOrder}
use Rattle.nl_tree.specs.Charges.{data_charge, meta_charge}
use Rattle.nl_tree_entries.specs.Entries.{HasShortNames}

-- what a tree that the volume has room for keeps within the bounds of a reply
pub record IsRoomy (tree : Tree) : Type 0 where
  pub short : HasShortNames tree
  pub few : (path : List (List ℕ)) → is_none (node_at tree path) ≡ false → length (entries_of tree path) ≤ max_entries
  pub pages : (path : List (List ℕ)) (content : FileContent) → node_at tree path ≡ Some (file content) → length content.pages < 2 ^ 32

-- what the plain tree as a program keeps of its tree
pub record IsPlainTree (shape : Shape) (tree : Tree) : Type 0 where
  pub in_order : IsInOrder tree
  pub short : HasShortNames tree
  pub room : space_refusal shape tree ≡ None

-- The tree of a volume of this shape, and how many calls were made on it.
pub record PlainState : Type 0 where
  pub shape : Shape
  pub tree : Tree
  pub calls : ℕ

-- A sync is answered with the count of calls before it.
abbrev pub numbered : ℕ → Reply → Reply
numbered calls (Synced upto moment) = Synced calls 0
numbered calls reply = reply

-- the data pages and the metadata pages of a tree
pub record ArePageCharges (pages meta : ℕ) (tree : Tree) : Type 0 where
  pub of_data : pages ≡ data_charge tree
  pub of_meta : meta ≡ meta_charge tree
