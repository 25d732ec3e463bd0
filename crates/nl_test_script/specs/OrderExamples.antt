-- Examples of orders, syncs, turns and faults.
use Rattle.std.specs.Prelude.{◌≡◌, ℕ, ◌^◌, List, [], ◌∷◌, AllPairs, Option, Some, None}
use Rattle.nl_tree.specs.Tree.{Tree, directory, file}
use Rattle.nl_tree.specs.Causes.{Counts, FaultState}
use Rattle.nl_tree.specs.Event.{Event, stage, effect, duty}
use Rattle.nl_tree.specs.Order.{LineSync}
use Rattle.nl_test_script.specs.Examples.{a, d, before_a_sync, the_sync}
use Rattle.nl_field.specs.FileContent.{empty_file}
use Rattle.nl_tree.specs.declared.call.Call.{Call}
use Rattle.nl_tree.specs.declared.call.Call.TheVariants.{Mkdir, Fill, Stat, Sync}
use Rattle.nl_tree.specs.declared.call.Line.{Line}
use Rattle.nl_tree.specs.declared.reply.FaultReply.{FaultReply}
use Rattle.nl_tree.specs.declared.reply.FaultReply.TheVariants.{Eio}
use Rattle.nl_tree.specs.declared.reply.Reply.{Reply}
use Rattle.nl_tree.specs.declared.reply.Reply.TheVariants.{Done, Synced}
use Rattle.nl_tree.specs.declared.turn.Duty.TheVariants.{Commit}

-- ---- orders

-- `stat /` of worker 0 in round 0, beside `mkdir /d` of worker 1, and then a sync in round 1
abbrev pub beside_it : Line
beside_it = record { line = 2; round = 0; worker = 0; call = Stat [] }

abbrev pub three_lines : List Line
three_lines = before_a_sync ∷ beside_it ∷ the_sync ∷ []

-- two lines of worker 0 in one round
abbrev pub line_before : Line
line_before = record { line = 1; round = 0; worker = 0; call = Mkdir d }

abbrev pub lines_of_one : List Line
lines_of_one = line_before ∷ beside_it ∷ []

abbrev pub two_answers : List (Line × Reply)
two_answers = (before_a_sync, Done) ∷ (the_sync, Synced 6 4) ∷ []

abbrev pub sync_under : ℕ → List LineSync
sync_under line = record { line = line; sync = record { upto = 6; moment = 4 } } ∷ []

-- a sync alone, with these numbers
abbrev pub one_sync : ℕ → ℕ → List (Line × Reply)
one_sync upto moment = (the_sync, Synced upto moment) ∷ []

abbrev pub sync_of : ℕ → ℕ → List LineSync
sync_of upto moment = record { line = 3; sync = record { upto = upto; moment = moment } } ∷ []

-- two syncs, of which the first has this moment, and the second 4
abbrev pub later_sync : Line
later_sync = record { line = 4; round = 2; worker = 0; call = Sync }

abbrev pub two_syncs : ℕ → List (Line × Reply)
two_syncs moment = (the_sync, Synced 5 moment) ∷ (later_sync, Synced 6 4) ∷ []

abbrev pub both_syncs : ℕ → List LineSync
both_syncs moment =
    record { line = 3; sync = record { upto = 5; moment = moment } } ∷ record { line = 4; sync = record { upto = 6; moment = 4 } } ∷ []

-- ---- turns

-- worker 0 stages for its line 2, the volume commits, and a worker brings that line to its effect
abbrev pub turns_of : ℕ → List Event
turns_of worker = stage 0 2 (Fill a 0 4096 97) ∷ duty Commit ∷ effect worker 2 (Fill a 0 4096 97) ∷ []

-- the root and a file with no bytes
abbrev pub one_file : Tree
one_file = ([], directory) ∷ (a, file empty_file) ∷ []

-- ---- faults

abbrev pub two_calls : List (Call × Option FaultReply)
two_calls = (Mkdir d, Some (Eio 1)) ∷ (Stat [], None) ∷ []

abbrev pub faults_so_far : ℕ → Counts
faults_so_far n = record { clock = 9; read_faults = n; write_faults = 0 }

abbrev pub no_state : FaultState
no_state = record { staged = None; read_only = None; next_stamp = 5 }

abbrev pub read_only_state : FaultState
read_only_state = record no_state { read_only = Some 3 }

abbrev pub worn_state : FaultState
worn_state = record no_state { next_stamp = 2 ^ 62 }

-- In an interleaving two turns of one line are of one worker and one call.
abbrev pub SameLine : ℕ → ℕ → Call → ℕ → ℕ → Call → Type 0
SameLine worker line call worker' line' call' = line ≡ line' → (worker ≡ worker') × (call ≡ call')

abbrev pub AgreeOnLine : Event → Event → Type 0
AgreeOnLine (stage w l c) (stage w' l' c') = SameLine w l c w' l' c'
AgreeOnLine (stage w l c) (effect w' l' c') = SameLine w l c w' l' c'
AgreeOnLine (effect w l c) (stage w' l' c') = SameLine w l c w' l' c'
AgreeOnLine (effect w l c) (effect w' l' c') = SameLine w l c w' l' c'
AgreeOnLine (duty d) event = Unit {0}
AgreeOnLine (stage w l c) (duty d) = Unit {0}
AgreeOnLine (effect w l c) (duty d) = Unit {0}

abbrev pub IsInterleaving : List Event → Type 0
IsInterleaving events = AllPairs AgreeOnLine events
