-- A volume that was opened to be looked at.
use Rattle.std.proofs.Common.{◌≡◌, [], ℕ, refl, subst}
use Rattle.std.specs.Prelude.{Option}
use Rattle.nl_core.specs.Trees.{CoreRepresentsTree}
use Rattle.nl_core.specs.declared.state.Core.{Core}
use Rattle.nl_iface.specs.declared.counts.Counts.{Ghosts}
use Rattle.nl_meta.specs.Consistent.{PageOfStamp}
use Rattle.nl_tree.specs.Replay.{replay}
use Rattle.nl_tree.specs.Tree.{Tree}
use Rattle.nl_turns.specs.History.{Opening, marked_calls}
use Rattle.nl_volume.specs.Opening.{opening_of}
use Rattle.nl_volume_stage.specs.Standing.{RepresentsHistory}

-- no call, and so the tree of the opening
no_calls : (o : Opening) → replay o.shape o.tree (marked_calls o []) ≡ o.tree
unfolding replay marked_calls
no_calls o = refl

-- where it stands for a run of no line from a tree, its core runs as that tree
pub runs_as : {D : Type 0} (g : Ghosts D) (v : Core D) (tree : Tree) (done : ℕ) → RepresentsHistory g v (opening_of g v tree []) [] v done → g.tells
    → (page_of_stamp : ℕ → Option PageOfStamp) × CoreRepresentsTree g v page_of_stamp tree
runs_as g v tree done stands t = let r = stands.serves.along.runs t in (r.0, subst (CoreRepresentsTree g v r.0) (no_calls (opening_of g v tree [])) r.1)
