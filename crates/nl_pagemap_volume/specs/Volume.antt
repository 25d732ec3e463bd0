-- A volume on a page-mapped device: when it stands, which trees it shows, and what a call does to it.
use Rattle.std.specs.Prelude.{◌≡◌, ℕ, ◌+◌, ◌<◌, ◌≤◌, ◌^◌, ◌==◌, ◌&&◌, if◌then◌else◌, ⊤, Bool, true, false, [], List, length, is_none, Option, Some, None}
use Rattle.nl_field.specs.CrashStates.{saturated}
use Rattle.nl_field.specs.declared.shape.Shape.{Shape}
use Rattle.nl_tree.specs.Causes.{Counts, FaultIsDue, FaultRose, FaultState, NeverFall, fault_in}
use Rattle.nl_tree.specs.Replay.{step_marked}
use Rattle.nl_tree.specs.Step.{Outcome}
use Rattle.nl_tree.specs.Tree.{Tree, empty_tree}
use Rattle.nl_tree.specs.declared.call.Call.{Call}
use Rattle.nl_tree.specs.declared.call.Call.TheVariants.{Clean}
use Rattle.nl_tree.specs.declared.reply.Reply.{Reply}
use Rattle.nl_tree.specs.declared.reply.Reply.TheVariants.{Synced}
use Rattle.nl_iface.specs.declared.counts.Counts.{Ghosts}
use Rattle.nl_meta.specs.Consistent.{PageOfStamp}
use Rattle.nl_core.specs.Goes.{TurnsReadOnly}
use Rattle.nl_core.specs.Trees.{CoreRepresentsTree}
use Rattle.nl_core.specs.declared.state.Core.{Core}
use Rattle.nl_calls.specs.Answering.{AnswersOn, is_sync_call, is_synced}
use Rattle.nl_calls_steps.specs.Calls.{counts_of}
use Rattle.nl_pagemap.specs.declared.pagemap.Pagemap.{Pagemap}
use Rattle.nl_pagemap_volume.specs.Serving.{CoreServes, StampsPaid, TakesStep}
use Rattle.nl_pagemap_volume.specs.declared.volume.MapVolume.{MapVolume}

-- ---- a core that does the calls of one thread

abbrev pub some_number : ℕ → Option ℕ
some_number n = if n == 0 then None else Some n

-- what refuses a call before it is tried: the core is read-only, or its write sequence numbers are used up
abbrev pub refusing : {D : Type 0} → Ghosts D → Core D → FaultState
refusing g v = record { staged = None; read_only = some_number v.stopped; next_stamp = g.next_stamp v.device }

-- the call for cleaning
abbrev pub is_clean : Call → Bool
is_clean Clean = true
is_clean _ = false

-- a sync tells this count
abbrev pub TellsCount : ℕ → Reply → Type 0
TellsCount count (Synced upto moment) = upto ≡ count
TellsCount count reply = ⊤

-- A call was answered, and counted. On each tree as which the core ran, the reply and its bytes are those of the step, with the fault of the
-- reply if it is one, and the core runs as the tree after that step. A fault refused the call, or has its cause within it. Exactly a sync
-- without a fault has numbers, the first of which is the count of all calls before it. Counts of the medium do not fall, and the core is
-- read-only from the first failed write on.
pub record DoesCall {D : Type 0} (g : Ghosts D) (call : Call) (old new : Core D) (reply : Reply) (out : List ℕ) : Type 0 where
  pub answers : AnswersOn g call old reply out
  pub steps : TakesStep g call old new reply
  pub cause : FaultIsDue g.tells (refusing g old) (counts_of g old.device) (counts_of g new.device) call reply
  pub synced : is_synced reply ≡ (is_sync_call call && is_none (fault_in reply))
  pub upto : TellsCount old.count reply
  pub counted : new.count ≡ saturated (old.count + 1)
  pub counts : NeverFall (counts_of g old.device) (counts_of g new.device)
  pub same_shape : g.shape new.device ≡ g.shape old.device
  pub stops : TurnsReadOnly g old new
  pub stamps : StampsPaid g old.device new.device

-- Once such a call is done and its reply is no fault, no page awaits its free: where the medium tells its contents, no count of faults rose,
-- the core was not read-only, and the write sequence numbers are not used up.
abbrev pub FreesAll : {D : Type 0} → Ghosts D → Core D → Core D → Reply → Type 0
FreesAll g old new reply =
    g.tells → fault_in reply ≡ None → (FaultRose (counts_of g old.device) (counts_of g new.device) → ⊥) → old.stopped ≡ 0
    → g.next_stamp new.device < 2 ^ 62 → new.freeing.items ≡ []

-- ---- the volume

-- The volume stands: its core is in order and runs as some tree, no line is in flight, and its count of the pages of files is right.
abbrev pub Stands : {M : Type 0} → Ghosts (Pagemap M) → MapVolume M → Type 0
Stands g v = CoreServes g v.files v.core

-- The volume shows this tree.
abbrev pub Shows : {M : Type 0} → Ghosts (Pagemap M) → MapVolume M → Tree → Type 0
Shows g v tree = (page_of_stamp : ℕ → Option PageOfStamp) × CoreRepresentsTree g v.core page_of_stamp tree

-- how many pages await their free
abbrev pub awaiting : {M : Type 0} → MapVolume M → ℕ
awaiting v = length v.core.freeing.items

-- the device that it runs over
abbrev pub device_of : {M : Type 0} → MapVolume M → Pagemap M
device_of v = v.core.device

-- its numbers
abbrev pub shape_in : {M : Type 0} → Ghosts (Pagemap M) → MapVolume M → Shape
shape_in g v = g.shape (device_of v)

-- how many calls it has answered
abbrev pub calls_of : {M : Type 0} → MapVolume M → ℕ
calls_of v = v.core.count

-- It can be written to.
abbrev pub IsWritable : {M : Type 0} → MapVolume M → Type 0
IsWritable v = v.core.stopped ≡ 0

-- what refuses a call before it is tried: the volume is read-only, or its write sequence numbers are used up
abbrev pub refusing_in : {M : Type 0} → Ghosts (Pagemap M) → MapVolume M → FaultState
refusing_in g v = refusing g v.core

-- the counts of its medium, as its device shows them
abbrev pub counts_in : {M : Type 0} → Ghosts (Pagemap M) → MapVolume M → Counts
counts_in g v = counts_of g (device_of v)

-- what the call does to a tree of the volume, with the fault of the reply if it is one
abbrev pub outcome_on : {M : Type 0} → Ghosts (Pagemap M) → MapVolume M → Tree → Call → Reply → Outcome
outcome_on g v tree call reply = step_marked (shape_in g v) tree (call, fault_in reply)

-- Once such a call is done and its reply is no fault, no page awaits its free: where the medium tells its contents, no count of faults rose,
-- the volume could be written to, and the write sequence numbers are not used up.
abbrev pub LeavesNoneAwaiting : {M : Type 0} → Ghosts (Pagemap M) → MapVolume M → MapVolume M → Reply → Type 0
LeavesNoneAwaiting g old new reply = FreesAll g old.core new.core reply

-- From the first failed program or erase on it is read-only, and stays so with the faults that were counted then.
abbrev pub StopsWriting : {M : Type 0} → Ghosts (Pagemap M) → MapVolume M → MapVolume M → Type 0
StopsWriting g old new = TurnsReadOnly g old.core new.core

-- The volume has these numbers. It shows the tree with only the root, it has answered no call, it can be written to, no page awaits its
-- free, and at most two write sequence numbers were given.
pub record IsNewVolume {M : Type 0} (g : Ghosts (Pagemap M)) (shape : Shape) (v : MapVolume M) : Type 0 where
  pub same_shape : shape_in g v ≡ shape
  pub shows : g.tells → Shows g v empty_tree
  pub calls : calls_of v ≡ 0
  pub writes : IsWritable v
  pub none_awaits : awaiting v ≡ 0
  pub stamps : g.next_stamp (device_of v) ≤ 3
