-- Stagings that leave the medium, and those that commit nothing.
use Rattle.std.proofs.Common.{ℕ, ◌<◌, inl, inr, sym, subst, arith}
use Rattle.nl_tree.specs.declared.turn.Stage.{Stage}
use Rattle.nl_iface.specs.declared.counts.Counts.{Ghosts}
use Rattle.nl_core.specs.Core.{names_of}
use Rattle.nl_core.specs.LastCommit.{KeepsCommit, KeepsRoom}
use Rattle.nl_core.specs.Lines.{notes_fault}
use Rattle.nl_core.specs.declared.state.Core.{Core}
use Rattle.nl_core.proofs.LastCommits.{commit_then}
use Rattle.nl_volume_stage.specs.StagedPages.{EndsTried}

-- a failure is noted
pub noted_commit : {D : Type 0} (g : Ghosts D) (worker line : ℕ) (u v : Core D) → KeepsCommit u v → KeepsCommit u (notes_fault g worker line v)
noted_commit g worker line u v k = record { begun = k.begun; moment = k.moment; committed = k.committed }

-- a staging that has reached the device ends
pub tried_commit : {D : Type 0} (g : Ghosts D) (worker line : ℕ) (answer : Stage) (u v w : Core D) (result : Stage) → EndsTried g worker line answer v w result → KeepsCommit u v → KeepsCommit u w
tried_commit {D} g worker line answer u v w result (inl e) k = subst (λ (x : Core D). KeepsCommit u x) (sym e.1) k
tried_commit {D} g worker line answer u v w result (inr e) k = subst (λ (x : Core D). KeepsCommit u x) (sym e.1) (noted_commit g worker line u v k)

-- a part that commits nothing where there is room for a page, behind one that keeps the room
pub page_then : {D : Type 0} (g : Ghosts D) (u v w : Core D) → KeepsRoom g 0 u v → (0 < (names_of g v).space.room → KeepsCommit v w) → 0 < (names_of g u).space.room → KeepsCommit u w
page_then g u v w kept rest has = commit_then u v w kept.commit (rest (let stays = kept.room in omega (arith, has, stays)))
