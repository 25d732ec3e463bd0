-- A history of five turns from a count of 5: a directory is made, the sync of another worker finds nothing to stage, a read of the root
-- fails, the sync is answered, and a background task runs.
use Rattle.std.specs.Prelude.{List, [], ◌∷◌, ℕ, codes}
use Rattle.nl_field.specs.Numbers.{shape_for}
use Rattle.nl_tree.specs.Tree.{empty_tree}
use Rattle.nl_tree.specs.declared.call.Line.{Line}
use Rattle.nl_tree.specs.declared.call.Call.TheVariants.{Mkdir, Stat, Sync}
use Rattle.nl_tree.specs.declared.reply.FaultReply.TheVariants.{Eio}
use Rattle.nl_tree.specs.declared.reply.Reply.TheVariants.{Done, Synced, Fault as FaultAnswer}
use Rattle.nl_tree.specs.declared.turn.DutyAnswer.TheVariants.{Did}
use Rattle.nl_tree.specs.declared.turn.Stage.TheVariants.{Whole}
use Rattle.nl_turns.specs.History.{Opening}
use Rattle.nl_turns.specs.Served.{stage_entry, effect_entry, duty_entry}
use Rattle.nl_turns.specs.declared.entry.Entry.{Entry}

abbrev pub dir_a : List (List ℕ)
dir_a = codes "a" ∷ []

abbrev pub three_lines : List Line
three_lines =
    record { line = 1; round = 0; worker = 0; call = Mkdir dir_a } ∷ record { line = 2; round = 0; worker = 1; call = Sync }
    ∷ record { line = 3; round = 0; worker = 0; call = Stat [] } ∷ []

abbrev pub from_five : Opening
from_five =
    record {
      shape = shape_for 32 32;
      count = 5;
      tree = empty_tree;
      clock = 30;
      read_faults = 0;
      write_faults = 0;
      next_stamp = 9;
      lines = three_lines;
    }

-- the sync answers this many calls made safe
abbrev pub five_turns : ℕ → List Entry
five_turns upto =
    effect_entry 1 Done ∷ stage_entry 2 Whole ∷ effect_entry 3 (FaultAnswer (Eio 1)) ∷ effect_entry 2 (Synced upto 40) ∷ duty_entry Did ∷ []
