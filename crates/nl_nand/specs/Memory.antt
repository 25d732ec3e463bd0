-- What a medium in memory is, and what its calls make of it.
use Rattle.std.specs.Prelude.{◌≡◌, ◌⊎◌, ◌↔◌, ℕ, ◌+◌, ◌≤◌, List, IsSome, None}
use Rattle.std.specs.Option.{option_map}
use Rattle.nl_field.specs.Page.{Page, Image}
use Rattle.nl_nand.specs.Nand.{Cut, OperationLeaves, OperationCounted, CrashLeaves, SameCrashStates}
use Rattle.nl_nand.specs.Plan.{Plan, OperationFails, begun}
use Rattle.nl_nand.specs.Stop.{CutShort}
use Rattle.nl_nand.specs.Record.{image_of, logged, IsCrashState, low_of_attempt, high_of_attempt, value_of_attempt}
use Rattle.nl_nand.specs.Room.{room_in}
use Rattle.nl_nand.specs.declared.geometry.Geometry.{Geometry}
use Rattle.nl_nand.specs.declared.interrupted.Interrupted.{Interrupted}
use Rattle.nl_nand.specs.declared.record.Entry.{Entry}
use Rattle.nl_nand.specs.declared.answers.FormAnswer.{FormAnswer}
use Rattle.nl_nand.specs.declared.answers.FormAnswer.TheVariants as form
use Rattle.nl_nand.specs.declared.answers.WriteAnswer.{WriteAnswer}
use Rattle.nl_nand.specs.declared.answers.WriteAnswer.TheVariants as write
use Rattle.nl_nand.specs.declared.mem_nand.MemNand.{MemNand}

abbrev pub geometry_of : MemNand → Geometry
geometry_of m = m.geometry

abbrev pub contents_of : MemNand → Image
contents_of m = image_of m.geometry m.cells.items

abbrev pub clock_of : MemNand → ℕ
clock_of m = m.clock

abbrev pub read_faults_of : MemNand → ℕ
read_faults_of m = m.read_faults

abbrev pub write_faults_of : MemNand → ℕ
write_faults_of m = m.write_faults

abbrev pub log_of : MemNand → List Entry
log_of m = logged m.stopped m.clock m.log.entries.items

-- the images that a crash at a moment may have left
abbrev pub memory_crash_states : MemNand → ℕ → Image → Type 0
memory_crash_states m = IsCrashState (log_of m) (contents_of m) m.clock

abbrev pub cut_short : Interrupted → CutShort
cut_short i = record { low = low_of_attempt i.attempt; high = high_of_attempt i.attempt; value = value_of_attempt i.attempt; how = i.cut }

-- which calls fail
abbrev pub plan_of : MemNand → Plan
plan_of m = record {
  reads = m.reads;
  writes = m.writes;
  stop = m.stop;
  read_calls = m.read_calls;
  operations = m.operations;
  stopped = option_map cut_short m.stopped;
}

-- the programs and erases for which there is room
abbrev pub room_of : MemNand → ℕ
room_of m = room_in m.log

-- the room after a forming: it is given back where the medium was formed
abbrev pub room_formed : FormAnswer → ℕ → ℕ
room_formed form.Done room = 0
room_formed form.Failed room = room
room_formed form.Memory room = room

-- a crash within a finished operation may have left all that a cut one leaves
abbrev pub CrashReaches : {M : Type 0} → (M → ℕ) → (M → Image) → (M → ℕ → Image → Type 0) → ℕ → ℕ → Page → M → M → WriteAnswer → Type 0
CrashReaches clock contents left low high value old new answer =
    answer ≡ write.Done → (c : Image) → Cut low high value (contents old) c → left new (clock old) c

-- An operation was not begun: the stop has come, or memory was wanting and no room was reserved.
pub record NotBegun (m n : MemNand) (answer : WriteAnswer) : Type 0 where
  pub why : IsSome (plan_of m).stopped ⊎ (room_of m ≡ 0)
  pub fails : answer ≡ write.Failed
  pub same_plan : plan_of n ≡ plan_of m
  pub same_contents : contents_of n ≡ contents_of m
  pub same_left : SameCrashStates memory_crash_states m n
  pub room : room_of m ≤ room_of n

-- An operation was begun: it fails exactly as planned, and then it changes no page. A stop within it may have left all that a
-- cut one leaves, whatever became of it.
pub record OperationBegun (low high : ℕ) (value : Page) (m n : MemNand) (answer : WriteAnswer) : Type 0 where
  pub runs : (plan_of m).stopped ≡ None
  pub plan : plan_of n ≡ begun low high value (plan_of m)
  pub fails : (answer ≡ write.Failed) ↔ OperationFails (plan_of m)
  pub changes_none : answer ≡ write.Failed → contents_of n ≡ contents_of m
  pub reached : (c : Image) → Cut low high value (contents_of m) c → memory_crash_states n m.clock c
  pub room : room_of m ≤ room_of n + 1

-- all that the trait says of an operation, and when it fails
pub record Operated (low high : ℕ) (value : Page) (m n : MemNand) (answer : WriteAnswer) : Type 0 where
  pub effect : OperationLeaves low high value (contents_of m) answer (contents_of n)
  pub crash : CrashLeaves clock_of contents_of memory_crash_states low high value m n
  pub reached : CrashReaches clock_of contents_of memory_crash_states low high value m n answer
  pub counted : OperationCounted geometry_of clock_of read_faults_of write_faults_of m n answer
  pub exact : NotBegun m n answer ⊎ OperationBegun low high value m n answer

-- nothing but the room changed
pub record SameButRoom (m n : MemNand) : Type 0 where
  pub same_geometry : n.geometry ≡ m.geometry
  pub same_contents : contents_of n ≡ contents_of m
  pub same_left : SameCrashStates memory_crash_states m n
  pub same_clock : n.clock ≡ m.clock
  pub same_read_faults : n.read_faults ≡ m.read_faults
  pub same_write_faults : n.write_faults ≡ m.write_faults
  pub same_plan : plan_of n ≡ plan_of m
