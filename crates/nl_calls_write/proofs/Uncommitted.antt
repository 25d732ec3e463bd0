-- A call that writes commits nothing where there is room for its pages.
use Rattle.std.proofs.Common.{ℕ, ◌+◌, ◌-◌, ◌/◌, ◌<◌, ◌≤◌, List, length, sym, subst, arith}
use Rattle.nl_tree.specs.declared.call.Call.{Call}
use Rattle.nl_iface.specs.declared.counts.Counts.{Ghosts}
use Rattle.nl_meta.specs.Pages.{most}
use Rattle.nl_core.specs.Core.{names_of}
use Rattle.nl_core.specs.LastCommit.{KeepsCommit, KeepsRoom}
use Rattle.nl_core.specs.declared.state.Core.{Core}
use Rattle.nl_core.proofs.LastCommits.{commit_then, room_on, room_then}
use Rattle.nl_calls_bytes.specs.Contents.{count_indexes}
use Rattle.nl_calls_bytes.specs.Ranges.{from_of, len_of}
use Rattle.nl_calls_write.specs.Calls.{HasRoomToWrite}

-- ---- the indexes of the call, counted from the first one on

pub index_counted : (from len index : ℕ) → from / 4096 ≤ index → index < (from + len - 1) / 4096 + 1 → index - from / 4096 + 1 ≤ count_indexes from len
index_counted from len index low high = omega (arith, low, high)

pub end_counted : (from len index : ℕ) → index ≤ (from + len - 1) / 4096 + 1 → index - from / 4096 ≤ count_indexes from len
end_counted from len index high = omega (arith, high)

-- ---- one page more was put in flight, where there was room for so many

module _ {D : Type 0} (g : Ghosts D) (count n : ℕ) (u v w : Core D) (less : n + 1 ≤ count) (before : count ≤ (names_of g u).space.room → KeepsRoom g n u v) (one : 0 < (names_of g v).space.room → KeepsRoom g 1 v w)
    (has : count ≤ (names_of g u).space.room) where
  pub one_more : (k : ℕ) → n + 1 ≤ k → KeepsRoom g k u w
  one_more k few =
      let a = before has in
      let stays = a.room in
      room_then g n 1 k u v w few a (one (omega (arith, less, has, stays)))

-- ---- all of them were put, behind a part that keeps the room

module _ {D : Type 0} (g : Ghosts D) (call : Call) (u v w : Core D) (kept : KeepsRoom g 0 u v)
    (put : count_indexes (from_of call) (len_of call) ≤ (names_of g v).space.room → KeepsRoom g (count_indexes (from_of call) (len_of call)) v w) (has : HasRoomToWrite g call u) where
  all_put : KeepsRoom g (count_indexes (from_of call) (len_of call)) u w
  all_put = room_then g 0 (count_indexes (from_of call) (len_of call)) (count_indexes (from_of call) (len_of call)) u v w (omega arith) kept (put (room_on g 4 (count_indexes (from_of call) (len_of call)) u v kept has).page_room)

  pub put_commit : KeepsCommit u w
  put_commit = all_put.commit

  pub put_dirty : length w.meta.dirty + 4 ≤ most
  put_dirty = subst (λ (xs : List ℕ). length xs + 4 ≤ most) (sym all_put.dirty) has.dirty_room

  -- and the rest commits nothing
  pub put_then : (x : Core D) → (length w.meta.dirty + 4 ≤ most → KeepsCommit w x) → KeepsCommit u x
  put_then x rest = commit_then u w x put_commit (rest put_dirty)
