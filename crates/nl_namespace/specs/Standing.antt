-- For which tree the pages of a volume stand between two calls, and with what free.
use Rattle.std.specs.Prelude.{◌≡◌, ℕ, ◌≤◌, length, Option}
use Rattle.nl_field.specs.declared.shape.Shape.{Shape}
use Rattle.nl_inode.specs.FreeLaws.{NodesAreFree, PoolIsFree}
use Rattle.nl_inode.specs.Nodes.{Spaces}
use Rattle.nl_meta.specs.Committed.{VirtualMap}
use Rattle.nl_meta.specs.Consistent.{PageOfStamp, RightFor}
use Rattle.nl_spec_image.specs.RightFor.{PagesRepresent}
use Rattle.nl_tree.specs.Charges.{data_charge}
use Rattle.nl_tree.specs.Tree.{Tree}

-- The pages are right and represent the tree, its pages of files fit, and what is free is exactly what the pages do not use.
pub record HoldsTree (shape : Shape) (pages : VirtualMap) (page_of_stamp : ℕ → Option PageOfStamp) (free : Spaces)
    (tree : Tree) : Type 0 where
  pub right : RightFor shape pages page_of_stamp
  pub represents : PagesRepresent shape pages page_of_stamp tree
  pub data_fits : data_charge tree ≤ shape.cap
  pub count_nodes : length free.nodes ≡ shape.nodes
  pub count_pool : length free.pool ≡ shape.meta
  pub nodes : NodesAreFree shape pages free
  pub pool : PoolIsFree shape pages free
