-- A run from a count of 40: a directory is made, a read fails, and a sync is answered.
use Rattle.std.specs.Prelude.{List, [], ◌∷◌, codes}
use Rattle.nl_field.specs.Numbers.{shape_for}
use Rattle.nl_tree.specs.Tree.{empty_tree}
use Rattle.nl_tree.specs.declared.call.Call.TheVariants.{Mkdir, Stat, Sync}
use Rattle.nl_tree.specs.declared.reply.FaultReply.TheVariants.{Eio}
use Rattle.nl_tree.specs.declared.reply.Reply.TheVariants.{Done, Fault, Synced}
use Rattle.nl_spec_headline.specs.Course.{Course, RepliedLine}

abbrev pub three_answers : List RepliedLine
three_answers =
    record { line = record { line = 3; round = 0; worker = 0; call = Mkdir (codes "a" ∷ []) }; reply = Done; bytes = [] }
    ∷ record { line = record { line = 5; round = 0; worker = 1; call = Stat [] }; reply = Fault (Eio 1); bytes = [] }
    ∷ record { line = record { line = 6; round = 0; worker = 0; call = Sync }; reply = Synced 41 9; bytes = [] } ∷ []

abbrev pub three_lines : Course
three_lines = record { shape = shape_for 32 32; count = 40; tree = empty_tree; next_stamp = 7; answers = three_answers }

-- nothing of it failed
abbrev pub one_line : Course
one_line = record three_lines { answers = record { line = record { line = 3; round = 0; worker = 0; call = Sync }; reply = Synced 40 8; bytes = [] } ∷ [] }
