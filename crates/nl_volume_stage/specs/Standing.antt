-- For which opening and which history of turns a volume stands.
use Rattle.std.specs.Prelude.{◌≡◌, ◌≢◌, ◌⊎◌, ℕ, ◌+◌, ◌-◌, ◌<◌, ◌≤◌, ◌==◌, List, take, position, IfSome, AllPairs, Some, slice_get}
use Rattle.std.specs.Int.{div_ceil}
use Rattle.nl_field.specs.CrashStates.{Earlier, saturated, top}
use Rattle.nl_field.specs.Members as members
use Rattle.nl_tree.specs.Calls.{IsLine}
use Rattle.nl_tree.specs.Causes.{Counts, HasCause, IsSumSince, NeverFall, WriteFailed, eio_of, erofs_of}
use Rattle.nl_tree.specs.Order.{SyncPoint}
use Rattle.nl_tree.specs.declared.call.Call.{Call}
use Rattle.nl_tree.specs.declared.call.Line.{Line}
use Rattle.nl_tree.specs.declared.reply.FaultReply.{FaultReply}
use Rattle.nl_flight.specs.Flight.{InFlight, of_worker}
use Rattle.nl_flight.specs.declared.page.FlightPage.{FlightPage}
use Rattle.nl_iface.specs.declared.counts.Counts.{Ghosts}
use Rattle.nl_spec_image.specs.Crash.{Run}
use Rattle.nl_core.specs.Core.{IsCore}
use Rattle.nl_core.specs.declared.state.Core.{Core}
use Rattle.nl_spec_crashes.specs.Along.{FollowsRun}
use Rattle.nl_calls_write.specs.Calls.{IsStagedPage}
use Rattle.nl_calls_bytes.specs.Ranges.{from_of}
use Rattle.nl_turns.specs.History.{IsKnown, Opening, SyncsInRange, call_of, effects, fault_of, marked_calls, opening_counts, syncs_of}
use Rattle.nl_turns.specs.Served.{IsLineOf}
use Rattle.nl_turns.specs.declared.entry.Entry.{Entry}
use Rattle.nl_calls_steps.specs.Calls.{counts_of}

-- the run of the calls that had their effects, from the opening on
abbrev pub run_of : Opening → List Entry → Run
run_of opening history = record { shape = opening.shape; count = opening.count; tree = opening.tree; calls = marked_calls opening history; syncs = syncs_of history }

-- ---- what is in flight

-- the first index whose page lies wholly in the range of a call that writes
abbrev pub first_whole : Call → ℕ
first_whole call = div_ceil (from_of call) 4096

-- The line is one of the worker in the opening, and the pages of its call are staged one after the other. A number that its staging failed
-- with is the sum of both fault counts after a failure since the opening.
pub record IsInFlight {D : Type 0} (g : Ghosts D) (opening : Opening) (s : D) (worker : ℕ) (now : InFlight) : Type 0 where
  pub call : Call
  pub known : IsLineOf opening worker now.line call
  pub staged : (place : ℕ) (page : FlightPage) → slice_get now.pages place ≡ Some page → IsStagedPage g s call place page
  pub fault : now.fault ≢ 0 → IsSumSince (opening_counts opening) (counts_of g s) now.fault

-- The line of each worker stands in the opening, where it has one; else no failure of a staging is kept.
abbrev pub FlightIsOfLines : {D : Type 0} → Ghosts D → Opening → D → List InFlight → Type 0
FlightIsOfLines g opening s flight =
    (worker : ℕ) → (((of_worker flight worker).line ≡ 0) × ((of_worker flight worker).fault ≡ 0))
    ⊎ IsInFlight g opening s worker (of_worker flight worker)

-- The goal of a sync in flight: at least the calls that had their effects as the first staging of its line began, and no more than were
-- answered since.
pub record IsGoal (opening : Opening) (history : List Entry) (count line goal : ℕ) : Type 0 where
  pub begun : ℕ
  pub staged : position (λ (e : Entry). e.staged == line) history ≡ Some begun
  pub not_below_begin : saturated (opening.count + effects (take begun history)) ≤ goal
  pub not_beyond : goal ≤ count

abbrev pub GoalsAreKept : Opening → List Entry → ℕ → List InFlight → Type 0
GoalsAreKept opening history count flight =
    (worker : ℕ) → IfSome (of_worker flight worker).goal (IsGoal opening history count (of_worker flight worker).line)

-- ---- the numbers of failed lines

-- Below the greatest, a failed line has a number of its own: no two lines of the history, no line of the history and one in flight, and no
-- two in flight have the same. All lines that were refused as the volume was read-only have the number with which it became so.
pub record NumbersDiffer (history : List Entry) (flight : List InFlight) (stopped : ℕ) : Type 0 where
  pub past : AllPairs (λ a b. (n : ℕ) → eio_of (fault_of a.fault) ≡ Some n → eio_of (fault_of b.fault) ≡ Some n → n ≡ top) history
  pub kept : (worker : ℕ) (e : Entry) (n : ℕ) → members.Has history e → eio_of (fault_of e.fault) ≡ Some n
      → (of_worker flight worker).fault ≡ n → n ≡ top
  pub apart : (w w' : ℕ) → w ≢ w' → (of_worker flight w).fault ≢ 0 → (of_worker flight w).fault ≡ (of_worker flight w').fault
      → (of_worker flight w).fault ≡ top
  pub one : (e : Entry) (n : ℕ) → members.Has history e → erofs_of (fault_of e.fault) ≡ Some n → (n ≡ stopped) × (stopped ≢ 0)

-- ---- the whole

-- a fault reply of the history stands at the effect of a call, and has its cause since the opening
abbrev pub FaultReplyHasCause : Type 0 → Opening → Counts → Entry → FaultReply → Type 0
FaultReplyHasCause tells opening now entry fault =
    (call : Call) × (call_of opening entry ≡ Some call) × HasCause tells (opening_counts opening) now opening.next_stamp call fault

-- A commit page was finished since the opening, or as many calls are committed as then.
abbrev pub IsSinceOpening : Opening → (moment committed : ℕ) → Type 0
IsSinceOpening opening moment committed = Earlier opening.clock moment ⊎ (committed ≡ opening.count)

-- The moments of the syncs do not fall. Each is no earlier than the clock of the opening, and no later than the moment of the last commit;
-- one that is no later than the opening made no call durable that was not then. The same holds of the last commit.
pub record MomentsRise (opening : Opening) (syncs : List SyncPoint) (committed moment now : ℕ) : Type 0 where
  pub begins : opening.clock ≤ moment
  pub ends : moment ≤ now
  pub since : IsSinceOpening opening moment committed
  pub not_below : opening.count ≤ committed
  pub rising : AllPairs (λ a b. a.moment ≤ b.moment) syncs
  pub within : (s : SyncPoint) → members.Has syncs s
      → IsSinceOpening opening s.moment s.upto × (opening.clock ≤ s.moment) × (s.moment ≤ moment)

-- each is a line as a script has it
abbrev pub EachIsLine : List Line → Type 0
EachIsLine lines = (l : Line) → members.Has lines l → IsLine l

-- The volume is in order, and has answered the calls of the history since it was the origin, with which it was opened: it goes along their
-- run. Its next write sequence number has not fallen since. It is read-only only where a write failed since. Each fault that was answered
-- has its cause; each sync has made safe the calls before it.
pub record Serves {D : Type 0} (g : Ghosts D) (origin : Core D) (opening : Opening) (history : List Entry) (v : Core D) (done : ℕ) : Type 0 where
  pub few : opening.count ≤ top
  pub lines : EachIsLine opening.lines
  pub core : IsCore g v
  pub known : (e : Entry) → members.Has history e → IsKnown opening e
  pub along : FollowsRun g origin opening.clock (run_of opening history) v
  pub effects : done ≡ saturated (effects history)
  pub since : NeverFall (opening_counts opening) (counts_of g v.device)
  pub next_stamp : g.clock v.device < top → g.write_faults v.device < top
      → g.next_stamp v.device ≤ opening.next_stamp + (g.clock v.device - opening.clock) + (g.write_faults v.device - opening.write_faults)
  pub stamps_rise : opening.next_stamp ≤ g.next_stamp v.device
  pub read_only : v.stopped ≢ 0
      → WriteFailed (opening_counts opening) (counts_of g v.device) × IsSumSince (opening_counts opening) (counts_of g v.device) v.stopped
  pub marks : (e : Entry) → members.Has history e → IfSome (fault_of e.fault) (FaultReplyHasCause g.tells opening (counts_of g v.device) e)
  pub syncs : SyncsInRange opening history
  pub moments : MomentsRise opening (syncs_of history) v.committed v.moment (g.clock v.device)

-- The volume serves the history, what is in flight is of lines of the opening with the goals that these fixed, and each failed line has a
-- number of its own.
pub record RepresentsHistory {D : Type 0} (g : Ghosts D) (origin : Core D) (opening : Opening) (history : List Entry) (v : Core D) (done : ℕ) : Type 0 where
  pub serves : Serves g origin opening history v done
  pub flight : FlightIsOfLines g opening v.device v.flight
  pub goals : GoalsAreKept opening history v.count v.flight
  pub numbers : NumbersDiffer history v.flight v.stopped
