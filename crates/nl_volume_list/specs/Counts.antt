-- How much of a volume its tree takes, by what a core keeps.
use Rattle.std.specs.Prelude.{◌≡◌, ℕ, length, Option}
use Rattle.nl_tree.specs.Charges.{data_charge, meta_charge, node_charge}
use Rattle.nl_tree.specs.Tree.{Tree}
use Rattle.nl_iface.specs.declared.counts.Counts.{Ghosts}
use Rattle.nl_meta.specs.Consistent.{PageOfStamp}
use Rattle.nl_journal_commit.specs.Holding.{running_holders}
use Rattle.nl_core.specs.Trees.{CoreRepresentsTree}
use Rattle.nl_core.specs.declared.state.Core.{Core}
use Rattle.nl_volume_list.specs.declared.counting.Taken.{Taken}

-- The counts are the charges of a tree: its nodes, and its pages of entries and of pointers.
pub record IsCharged (taken : Taken) (tree : Tree) : Type 0 where
  pub nodes : taken.nodes ≡ node_charge tree
  pub meta : taken.meta ≡ meta_charge tree

abbrev pub CountsCharges : {D : Type 0} → Ghosts D → Core D → Taken → Type 0
CountsCharges g v taken = (page_of_stamp : ℕ → Option PageOfStamp) (tree : Tree) → CoreRepresentsTree g v page_of_stamp tree → IsCharged taken tree

-- The pages of the files of a tree as which a core runs are those that are held for them.
abbrev pub FilesAreCharged : {D : Type 0} → Ghosts D → Type 0
FilesAreCharged {D} g =
    (v : Core D) (page_of_stamp : ℕ → Option PageOfStamp) (tree : Tree) → CoreRepresentsTree g v page_of_stamp tree
    → data_charge tree ≡ length (running_holders g v.device v.meta)
