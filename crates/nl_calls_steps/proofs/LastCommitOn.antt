-- The last commit stays where pages are only read, or change in memory.
use Rattle.std.proofs.Common.{ℕ, ◌<◌, length, ap, ◌∙◌, arith}
use Rattle.nl_iface.specs.Names.{Names}
use Rattle.nl_iface.specs.declared.counts.Counts.{Ghosts}
use Rattle.nl_journal.specs.Progress.{begun}
use Rattle.nl_meta.specs.Pages.{Frozen}
use Rattle.nl_core.specs.Core.{begun_of, names_of}
use Rattle.nl_core.specs.LastCommit.{HasRoomAtOnce, KeepsCommit, KeepsRoom, LeavesMedium}
use Rattle.nl_core.specs.declared.state.Core.{Core}
use Rattle.nl_core.proofs.LastCommits.{commit_through, room_then}
use Rattle.nl_calls_steps.specs.Steps.{ReadsOn, Steps}

module _ {D : Type 0} (g : Ghosts D) (u v : Core D) where
  pub steps_commit : Steps g u v → KeepsCommit u v
  steps_commit s = record {
    begun = ap (λ (x : Core D). begun_of x) s.others ∙ ap (λ (f : Frozen). begun u.journal (length f.addresses)) s.pages.same_frozen;
    moment = ap (λ (x : Core D). x.moment) s.others;
    committed = ap (λ (x : Core D). x.committed) s.others;
  }

  module _ (r : ReadsOn g u v) where
    pub reads_commit : KeepsCommit u v
    reads_commit = record {
      begun = ap (λ (x : Core D). begun_of x) r.others ∙ ap (λ (f : Frozen). begun u.journal (length f.addresses)) r.runs.frozen;
      moment = ap (λ (x : Core D). x.moment) r.others;
      committed = ap (λ (x : Core D). x.committed) r.others;
    }

    pub reads_room : KeepsRoom g 0 u v
    reads_room = record {
      commit = reads_commit;
      dirty = r.runs.dirty;
      room = let same = ap (λ (n : Names). n.space.room) r.runs.reads.names in omega (arith, same);
    }

    pub reads_leaves : LeavesMedium g u v
    reads_leaves = record { medium = r.runs.reads.medium; commit = reads_commit }

    -- a part that commits nothing where there is room, behind one that only reads
    pub reads_through : (dirty pages : ℕ) (w : Core D) → (HasRoomAtOnce g dirty pages v → KeepsCommit v w) → HasRoomAtOnce g dirty pages u → KeepsCommit u w
    reads_through dirty pages w = commit_through g dirty pages u v w reads_room

-- a page that is programmed where there is room, behind a part that only reads
pub reads_at_once : {D : Type 0} (g : Ghosts D) (u v w : Core D) → ReadsOn g u v → (0 < (names_of g v).space.room → KeepsRoom g 1 v w) → 0 < (names_of g u).space.room → KeepsRoom g 1 u w
reads_at_once g u v w r one has =
    let a = reads_room g u v r in
    let stays = a.room in
    room_then g 0 1 1 u v w (omega arith) a (one (omega (arith, has, stays)))
