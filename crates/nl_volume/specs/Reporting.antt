-- What a volume tells of itself.
use Rattle.std.specs.Prelude.{◌≡◌, ℕ, Option}
use Rattle.nl_tree.specs.Charges.{data_charge, meta_charge, node_charge}
use Rattle.nl_tree.specs.Tree.{Tree}
use Rattle.nl_iface.specs.declared.counts.Counts.{Ghosts}
use Rattle.nl_meta.specs.Consistent.{PageOfStamp}
use Rattle.nl_core.specs.Trees.{CoreRepresentsTree}
use Rattle.nl_core.specs.declared.state.Core.{Core}
use Rattle.nl_volume.specs.declared.report.VolumeReport.{VolumeReport}

-- The report tells the charges of the tree.
pub record HasCharges (report : VolumeReport) (tree : Tree) : Type 0 where
  pub pages : report.data_pages ≡ data_charge tree
  pub nodes : report.nodes ≡ node_charge tree
  pub meta : report.meta ≡ meta_charge tree

-- The report tells the charges of each tree as which the core runs.
abbrev pub ReportsCharges : {D : Type 0} → Ghosts D → Core D → VolumeReport → Type 0
ReportsCharges g v report = (page_of_stamp : ℕ → Option PageOfStamp) (tree : Tree) → CoreRepresentsTree g v page_of_stamp tree → HasCharges report tree
