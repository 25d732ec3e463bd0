-- When a fault may come in place of a call's own answer. These words are about numbers that the medium shows.
use Rattle.std.specs.Prelude.{◌≡◌, ◌≢◌, ◌⊎◌, ℕ, ◌+◌, ◌-◌, ◌^◌, ◌<◌, ◌≤◌, nat_le, Bool, true, false, if◌then◌else◌, IsTrue, List, AllPairs, Option, Some, None, MatchOption, IfSome}
use Rattle.nl_field.specs.CrashStates.{top, saturated, Rose}
use Rattle.nl_tree.specs.declared.call.Call.{Call}
use Rattle.nl_tree.specs.declared.call.Call.TheVariants.{Read, Stat, List as ListCall}
use Rattle.nl_tree.specs.declared.reply.FaultReply.{FaultReply}
use Rattle.nl_tree.specs.declared.reply.FaultReply.TheVariants.{Eio, Erofs, Eworn, Edamaged}
use Rattle.nl_tree.specs.declared.reply.Reply.{Reply}
use Rattle.nl_tree.specs.declared.reply.Reply.TheVariants.{Fault}

-- all calls but those that only look
abbrev pub is_changing : Call → Bool
is_changing (Read path from len) = false
is_changing (Stat path) = false
is_changing (ListCall path) = false
is_changing _ = true

-- the counts of a medium
pub record Counts : Type 0 where
  pub clock : ℕ
  pub read_faults : ℕ
  pub write_faults : ℕ

-- the sum of both counts of faults
abbrev pub fault_sum : Counts → ℕ
fault_sum counts = saturated (counts.read_faults + counts.write_faults)

-- ---- causes in one call, from the counts before it and now

-- clock and counts do not fall
pub record NeverFall (before now : Counts) : Type 0 where
  pub clock : before.clock ≤ now.clock
  pub read_faults : before.read_faults ≤ now.read_faults
  pub write_faults : before.write_faults ≤ now.write_faults

-- an operation of the medium failed
abbrev pub FaultRose : Counts → Counts → Type 0
FaultRose before now = Rose before.read_faults now.read_faults ⊎ Rose before.write_faults now.write_faults

-- a page did not hold the wanted stamp, which cannot be over a medium that tells its contents
abbrev pub LostHasCause : Type 0 → ℕ → ℕ → Type 0
LostHasCause tells wanted found = (tells → ⊥) × (wanted ≢ found)

-- what refuses a call before it is tried: the number that a staging of its line failed with, the number with which the volume
-- became read-only, and the next stamp
pub record FaultState : Type 0 where
  pub staged : Option ℕ
  pub read_only : Option ℕ
  pub next_stamp : ℕ

abbrev pub max_stamp : ℕ
max_stamp = 2 ^ 62

-- of a call that changes something
abbrev pub fault_of_change : Option ℕ → ℕ → Option FaultReply
fault_of_change (Some n) next_stamp = Some (Erofs n)
fault_of_change None next_stamp = if nat_le max_stamp next_stamp then Some Eworn else None

-- the first of: its line's staging failed, the volume is read-only, the stamps are exhausted
abbrev pub fault_before : Option ℕ → Option ℕ → ℕ → Call → Option FaultReply
fault_before (Some n) read_only next_stamp call = Some (Eio n)
fault_before None read_only next_stamp call = if is_changing call then fault_of_change read_only next_stamp else None

abbrev pub fault_due : FaultState → Call → Option FaultReply
fault_due state call = fault_before state.staged state.read_only state.next_stamp call

-- what failed within the call
abbrev pub FaultWithin : Type 0 → Counts → Counts → FaultReply → Type 0
FaultWithin tells before now (Eio n) = FaultRose before now × (n ≡ fault_sum now)
FaultWithin tells before now (Edamaged wanted found) = LostHasCause tells wanted found
FaultWithin tells before now (Erofs n) = ⊥
FaultWithin tells before now Eworn = ⊥

abbrev pub fault_in : Reply → Option FaultReply
fault_in (Fault fault) = Some fault
fault_in _ = None

-- A call that is refused before it is tried has that fault as its reply. Else a fault reply has its cause within the call.
abbrev pub FaultIsDue : Type 0 → FaultState → Counts → Counts → Call → Reply → Type 0
FaultIsDue tells state before now call reply =
    MatchOption (fault_due state call) (IfSome (fault_in reply) (FaultWithin tells before now)) (λ fault. reply ≡ Fault fault)

-- ---- causes since the opening

-- a program or an erase failed since
abbrev pub WriteFailed : Counts → Counts → Type 0
WriteFailed before now = (before.write_faults < now.write_faults) ⊎ (now.write_faults ≡ top)

-- the number is the sum of faults after some fault since
abbrev pub IsSumSince : Counts → Counts → ℕ → Type 0
IsSumSince before now n = ((fault_sum before < n) ⊎ (n ≡ top)) × (n ≤ fault_sum now)

-- the stamps may have reached their limit, from this next stamp on
abbrev pub MayBeExhausted : Counts → Counts → ℕ → Type 0
MayBeExhausted before now next_stamp =
    (max_stamp ≤ next_stamp + (now.clock - before.clock) + (now.write_faults - before.write_faults))
    ⊎ ((now.clock ≡ top) ⊎ (now.write_faults ≡ top))

-- A fault reply to a call has its cause since the opening, where the opening had these counts and this next stamp.
abbrev pub HasCause : Type 0 → Counts → Counts → ℕ → Call → FaultReply → Type 0
HasCause tells before now next_stamp call (Eio n) = IsSumSince before now n
HasCause tells before now next_stamp call (Erofs n) = IsTrue (is_changing call) × WriteFailed before now × IsSumSince before now n
HasCause tells before now next_stamp call Eworn = IsTrue (is_changing call) × MayBeExhausted before now next_stamp
HasCause tells before now next_stamp call (Edamaged wanted found) = LostHasCause tells wanted found

-- the number of a failed line, and of a line that a read-only volume refused
abbrev pub eio_of : Option FaultReply → Option ℕ
eio_of (Some (Eio n)) = Some n
eio_of _ = None

abbrev pub erofs_of : Option FaultReply → Option ℕ
erofs_of (Some (Erofs n)) = Some n
erofs_of _ = None

-- below the top no two lines fail with one number
abbrev pub DifferBelowTop : List ℕ → Type 0
DifferBelowTop sums = AllPairs (λ m n. m ≡ n → m ≡ top) sums

-- lines are refused with one number for the run
abbrev pub AreOneNumber : List ℕ → Type 0
AreOneNumber sums = AllPairs (λ m n. m ≡ n) sums
