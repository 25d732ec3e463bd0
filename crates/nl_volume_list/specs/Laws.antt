-- What follows for whoever walks over a core.
use Rattle.std.specs.Prelude.{◌≡◌, ◌≤◌, ℕ, List, ◌∷◌, ◌++◌, Option, length, IsTrue}
use Rattle.std.specs.declared.cmp.Ordering.TheVariants.{Less}
use Rattle.std.specs.Ordering.{nat_cmp}
use Rattle.std.specs.Cmp.Lexicographic.{slice_cmp}
use Rattle.std.specs.FinMap.Entries.{is_sorted}
use Rattle.nl_tree.specs.Charges.{node_charge}
use Rattle.nl_tree.specs.Tree.{IsTree, Tree, path_cmp}
use Rattle.nl_iface.specs.declared.counts.Counts.{Ghosts}
use Rattle.nl_meta.specs.Consistent.{PageOfStamp}
use Rattle.nl_core.specs.Trees.{CoreRepresentsTree}
use Rattle.nl_core.specs.declared.state.Core.{Core}
use Rattle.nl_calls_steps.specs.Steps.{ReadsOn}
use Rattle.nl_volume_list.specs.Items.{items_of}

-- The order in which the items of a tree come.
pub record ItemsInTurn : Type 0 where
  -- A directory comes before all that is under it.
  pub under : (p : List (List ℕ)) (x : List ℕ) (r : List (List ℕ)) → path_cmp p (p ++ x ∷ r) ≡ Less
  -- All that is at or under an entry comes before all that is at or under one with a later name.
  pub beside : (p : List (List ℕ)) (x y : List ℕ) (r s : List (List ℕ)) → slice_cmp nat_cmp x y ≡ Less
      → path_cmp (p ++ x ∷ r) (p ++ y ∷ s) ≡ Less
  -- The paths of a tree rise, each of them once.
  pub rise : (tree : Tree) → IsTree tree → IsTrue (is_sorted path_cmp (items_of tree))

-- A tree has as many items as nodes.
abbrev pub ItemsAreCounted : Type 0
ItemsAreCounted = (tree : Tree) → length (items_of tree) ≡ node_charge tree

-- A core has no more paths than its volume may have nodes.
abbrev pub FewItems : {D : Type 0} → Ghosts D → Type 0
FewItems {D} g =
    (v : Core D) (page_of_stamp : ℕ → Option PageOfStamp) (tree : Tree) → CoreRepresentsTree g v page_of_stamp tree
    → length (items_of tree) ≤ (g.shape v.device).nodes

-- Where the medium tells its contents, a core of which pages were read runs as the same trees.
abbrev pub ReadsRunOn : {D : Type 0} → Ghosts D → Type 0
ReadsRunOn {D} g =
    (u v : Core D) (page_of_stamp : ℕ → Option PageOfStamp) (tree : Tree) → g.tells → ReadsOn g u v → CoreRepresentsTree g u page_of_stamp tree
    → CoreRepresentsTree g v page_of_stamp tree
