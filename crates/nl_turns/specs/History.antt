-- What is known as the lock is made, and the history of turns since: one entry for each turn.
use Rattle.std.specs.Prelude.{◌≡◌, ℕ, ◌+◌, ◌<◌, ◌≤◌, ◌==◌, Bool, true, false, not, ◌&&◌, nat_lt, if◌then◌else◌, IsTrue, List, take, filter, filter_map, find, position, count_by, slice_get, unwrap_or, is_none, is_some, Option, Some, None, option_map, IfSome}
use Rattle.nl_field.specs.CrashStates.{saturated}
use Rattle.nl_field.specs.declared.shape.Shape.{Shape}
use Rattle.nl_tree.specs.Tree.{Tree}
use Rattle.nl_tree.specs.Replay.{replay}
use Rattle.nl_tree.specs.Order.{SyncPoint}
use Rattle.nl_tree.specs.Causes.{Counts}
use Rattle.nl_tree.specs.declared.call.Call.{Call}
use Rattle.nl_tree.specs.declared.call.Call.TheVariants.{Sync}
use Rattle.nl_tree.specs.declared.call.Line.{Line}
use Rattle.nl_tree.specs.declared.reply.FaultReply.{FaultReply}
use Rattle.nl_turns.specs.declared.entry.Entry.{Entry}
use Rattle.nl_turns.specs.declared.entry.FaultMark.{FaultMark}
use Rattle.nl_turns.specs.declared.entry.FaultMark.TheVariants.{NoFault, Fault}
use Rattle.nl_turns.specs.declared.entry.SyncMark.{SyncMark}
use Rattle.nl_turns.specs.declared.entry.SyncMark.TheVariants.{NoSync, At}

-- The volume as the lock is made: its numbers, its count of calls and its tree; its medium's clock and counts of faults;
-- the next write sequence number; and the lines that are to come.
pub record Opening : Type 0 where
  pub shape : Shape
  pub count : ℕ
  pub tree : Tree
  pub clock : ℕ
  pub read_faults : ℕ
  pub write_faults : ℕ
  pub next_stamp : ℕ
  pub lines : List Line

abbrev pub with_lines : Opening → List Line → Opening
with_lines opening lines = record opening { lines = lines }

abbrev pub opening_counts : Opening → Counts
opening_counts opening = record { clock = opening.clock; read_faults = opening.read_faults; write_faults = opening.write_faults }

-- ---- effects

abbrev pub is_effect : Entry → Bool
is_effect entry = not (entry.line == 0)

abbrev pub effects : List Entry → ℕ
effects history = count_by is_effect history

-- how many turns found a page without the wanted stamp, in a staging or a background task
abbrev pub losses : List Entry → ℕ
losses history = count_by (λ e. e.lost) history

-- whether one of them did
abbrev pub has_lost_page : List Entry → Bool
has_lost_page history = nat_lt 0 (losses history)

-- how many effects come before the entry at i, and the place that its own effect has
unfoldable pub effects_before : List Entry → ℕ → ℕ
effects_before history i = effects (take i history)

unfoldable pub place_of : Opening → List Entry → ℕ → ℕ
place_of opening history i = opening.count + effects (take (i + 1) history)

abbrev pub fault_of : FaultMark → Option FaultReply
fault_of NoFault = None
fault_of (Fault fault) = Some fault

abbrev pub line_at : List Line → ℕ → Option Line
line_at lines n = find (λ line. line.line == n) lines

abbrev pub call_at : List Line → ℕ → Option Call
call_at lines n = option_map (λ line. line.call) (line_at lines n)

-- the call whose effect an entry was
abbrev pub call_of : Opening → Entry → Option Call
call_of opening entry = if is_effect entry then call_at opening.lines entry.line else None

-- the calls of the effects, each with its fault outcome
unfoldable pub marked_calls : Opening → List Entry → List (Call × Option FaultReply)
marked_calls opening history =
    filter_map (λ e. option_map (λ call. (call, fault_of e.fault)) (call_at opening.lines e.line)) (filter is_effect history)

-- the tree after the history
abbrev pub tree_after : Opening → List Entry → Tree
tree_after opening history = replay opening.shape opening.tree (marked_calls opening history)

-- ---- syncs

abbrev pub sync_of : SyncMark → Option SyncPoint
sync_of NoSync = None
sync_of (At upto moment) = Some (record { upto = upto; moment = moment })

unfoldable pub syncs_of : List Entry → List SyncPoint
syncs_of history = filter_map (λ e. sync_of e.synced) history

abbrev pub is_sync : Option Call → Bool
is_sync (Some Sync) = true
is_sync _ = false

-- An effect's line has a call in the opening. An entry has the numbers of a sync exactly where its call is one without a fault.
pub record IsKnown (opening : Opening) (entry : Entry) : Type 0 where
  pub has_call : IsTrue (is_effect entry) → IsTrue (is_some (call_of opening entry))
  pub has_sync : is_some (sync_of entry.synced) ≡ (is_sync (call_of opening entry) && is_none (fault_of entry.fault))

-- the first entry before i that staged this line, and i where there is none
unfoldable pub begun_at : List Entry → ℕ → ℕ → ℕ
begun_at history line i = unwrap_or (position (λ e. e.staged == line) (take i history)) i

-- Each sync made safe all calls that had their effects as its line began, and none at or behind its own place.
pub record IsSyncInRange (opening : Opening) (history : List Entry) (i line : ℕ) (sync : SyncPoint) : Type 0 where
  pub not_below_begin : saturated (opening.count + effects_before history (begun_at history line i)) ≤ sync.upto
  pub not_below_opening : opening.count ≤ sync.upto
  pub below_place : sync.upto < place_of opening history i

abbrev pub SyncsInRange : Opening → List Entry → Type 0
SyncsInRange opening history =
    (i : ℕ) → IfSome (slice_get history i) (λ e. IfSome (sync_of e.synced) (λ sync. IsSyncInRange opening history i e.line sync))
