-- What a call that only looks is to answer on a core.
use Rattle.std.specs.Prelude.{ℕ, List, Option}
use Rattle.nl_iface.specs.declared.counts.Counts.{Ghosts}
use Rattle.nl_meta.specs.Consistent.{PageOfStamp}
use Rattle.nl_tree.specs.Replay.{Answers}
use Rattle.nl_tree.specs.Step.{step}
use Rattle.nl_tree.specs.Tree.{Tree}
use Rattle.nl_tree.specs.declared.call.Call.{Call}
use Rattle.nl_core.specs.Core.{running_of}
use Rattle.nl_core.specs.Trees.{CoreRepresentsTree}
use Rattle.nl_core.specs.declared.state.Core.{Core}
use Rattle.nl_calls_read.specs.Looking.{IfReplied}
use Rattle.nl_calls_read.specs.Spots.{IsSpot}
use Rattle.nl_calls_read.specs.declared.answer.Looked.{Looked}
use Rattle.nl_calls_read.specs.declared.answer.Spot.{Spot}

-- Where the medium tells its contents, a reply and its bytes are those of the step of each tree as which the core runs.
abbrev pub AnswersStep : {D : Type 0} → Ghosts D → Core D → Call → List ℕ → Looked → Type 0
AnswersStep g v call bytes answer =
    g.tells → (page_of_stamp : ℕ → Option PageOfStamp) (tree : Tree) → CoreRepresentsTree g v page_of_stamp tree
    → IfReplied answer (λ reply. Answers (step (g.shape v.device) tree call) reply bytes)

-- The spot is that of the path in each tree as which the core runs.
abbrev pub FindsSpot : {D : Type 0} → Ghosts D → Core D → List (List ℕ) → Spot → Type 0
FindsSpot g v path spot =
    (page_of_stamp : ℕ → Option PageOfStamp) (tree : Tree) → CoreRepresentsTree g v page_of_stamp tree
    → IsSpot (g.shape v.device) (running_of g v) page_of_stamp tree path spot
