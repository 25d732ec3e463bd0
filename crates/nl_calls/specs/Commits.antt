-- Which calls commit, and the room that the others need to do without a commit.
use Rattle.std.specs.Prelude.{◌≡◌, ℕ, Bool, true, false, length}
use Rattle.nl_tree.specs.declared.call.Call.{Call}
use Rattle.nl_tree.specs.declared.call.Call.TheVariants.{Clean, Create, Fill, Mkdir, Rename, Rmdir, Sync, Truncate, Unlink, Write}
use Rattle.nl_iface.specs.declared.counts.Counts.{Ghosts}
use Rattle.nl_core.specs.LastCommit.{HasRoomAtOnce}
use Rattle.nl_core.specs.declared.state.Core.{Core}
use Rattle.nl_calls_bytes.specs.Contents.{count_indexes}

-- a sync, and a call for cleaning
abbrev pub is_to_commit : Call → Bool
is_to_commit Sync = true
is_to_commit Clean = true
is_to_commit _ = false

-- the most pages of the metadata that another call makes dirty
abbrev pub most_dirtied : Call → ℕ
most_dirtied (Mkdir path) = 9
most_dirtied (Rmdir path) = 9
most_dirtied (Create path) = 9
most_dirtied (Unlink path) = 9
most_dirtied (Rename from to) = 9
most_dirtied (Write path from bytes) = 4
most_dirtied (Fill path from len byte) = 4
most_dirtied (Truncate path size) = 4
most_dirtied _ = 0

-- the most pages of files that it programs: one for each page in which some of its bytes lie, and of a truncate the one in which the file
-- ends then
abbrev pub most_programmed : Call → ℕ
most_programmed (Write path from bytes) = count_indexes from (length bytes)
most_programmed (Fill path from len byte) = count_indexes from len
most_programmed (Truncate path size) = 1
most_programmed _ = 0

-- The call is neither a sync nor for cleaning. The dirty pages leave room for those that it makes dirty, and the device has room for those
-- that it programs.
pub record NeedsNoCommit {D : Type 0} (g : Ghosts D) (call : Call) (v : Core D) : Type 0 where
  pub plain : is_to_commit call ≡ false
  pub room : HasRoomAtOnce g (most_dirtied call) (most_programmed call) v
