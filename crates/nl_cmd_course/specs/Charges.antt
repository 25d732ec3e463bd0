-- What a tree takes of its volume.
use Rattle.std.specs.Prelude.{◌≡◌}
use Rattle.nl_tree.specs.Charges.{data_charge, meta_charge, node_charge}
use Rattle.nl_tree.specs.Tree.{Tree}
use Rattle.nl_cmd_course.specs.declared.charges.Charges.{Charges}

-- The counts are the charges of the tree.
pub record AreCharges (charges : Charges) (tree : Tree) : Type 0 where
  pub pages : charges.pages ≡ data_charge tree
  pub nodes : charges.nodes ≡ node_charge tree
  pub meta : charges.meta ≡ meta_charge tree
