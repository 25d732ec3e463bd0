-- A truncate commits nothing where there is room for its pages.
use Rattle.std.proofs.Common.{◌≡◌, ℕ, ◌+◌, ◌<◌, ◌≤◌, List, length, sym, subst, arith}
use Rattle.nl_iface.specs.declared.counts.Counts.{Ghosts}
use Rattle.nl_meta.specs.Pages.{most}
use Rattle.nl_core.specs.Core.{names_of}
use Rattle.nl_core.specs.LastCommit.{HasRoomAtOnce, KeepsCommit, KeepsRoom}
use Rattle.nl_core.specs.declared.state.Core.{Core}
use Rattle.nl_core.proofs.LastCommits.{commit_then}

-- a page was programmed, or none
module _ {D : Type 0} (g : Ghosts D) (u v : Core D) (put : 0 < (names_of g u).space.room → KeepsRoom g 1 u v) (has : HasRoomAtOnce g 4 1 u) where
  put_room : KeepsRoom g 1 u v
  put_room = put (let low = has.page_room in omega (arith, low))

  put_dirty : length v.meta.dirty + 4 ≤ most
  put_dirty = subst (λ (xs : List ℕ). length xs + 4 ≤ most) (sym put_room.dirty) has.dirty_room

  pub put_commit : KeepsCommit u v
  put_commit = put_room.commit

  -- then there was room for dirty pages
  module _ (w : Core D) (kept : length v.meta.dirty + 4 ≤ most → w ≡ v) where
    pub made_commit : KeepsCommit u w
    made_commit = subst (λ (y : Core D). KeepsCommit u y) (sym (kept put_dirty)) put_commit

    pub cut_commit : (x : Core D) → KeepsCommit w x → KeepsCommit u x
    cut_commit x rest = commit_then u v x put_commit (subst (λ (y : Core D). KeepsCommit y x) (kept put_dirty) rest)
