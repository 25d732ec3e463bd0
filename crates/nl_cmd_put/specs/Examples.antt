-- Calls of a put, and their course.
use Rattle.std.specs.Prelude.{[], ◌∷◌}
use Rattle.nl_tree.specs.Tree.{empty_tree}
use Rattle.nl_tree.specs.declared.call.Call.TheVariants.{Create, Rename, Sync}
use Rattle.nl_tree.specs.declared.reply.FaultReply.TheVariants.{Eio}
use Rattle.nl_tree.specs.declared.reply.Reply.TheVariants.{Done, Fault, Synced}
use Rattle.nl_turns.specs.History.{Opening}
use Rattle.nl_put_tree.specs.Examples.{a, own, small}
use Rattle.nl_cmd_course.specs.Asking.{Asked}

-- a volume of 32 blocks of 32 pages opened with only the root, after no call
abbrev pub opened_empty : Opening
opened_empty =
    record { shape = small; count = 0; tree = empty_tree; clock = 0; read_faults = 0; write_faults = 0; next_stamp = 1; lines = [] }

-- an empty file is put at `/a`
abbrev pub three_asked : Asked
three_asked = (Create own, Done) ∷ (Rename own a, Done) ∷ (Sync, Synced 2 9) ∷ []

-- the sync of it failed
abbrev pub sync_failed : Asked
sync_failed = (Create own, Done) ∷ (Rename own a, Done) ∷ (Sync, Fault (Eio 1)) ∷ []

-- a call behind a sync
abbrev pub sync_and_create : Asked
sync_and_create = (Sync, Synced 1 9) ∷ (Create own, Done) ∷ []
