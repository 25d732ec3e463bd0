use Rattle.std.proofs.Common.{◌≡◌, ◌≤◌, map, take}
use Rattle.nl_field.specs.CrashStates.{saturated}
use Rattle.nl_cmd_answers.specs.Rows.{ok_in, read_in, said, written_in}
use Rattle.nl_cmd_answers.proofs.summary.tally_of.Given as goal

-- the rows so far are counted
abbrev pub invariant-rows : goal.invariant-rows
invariant-rows l =
    record {
      ok : l.tally.ok ≡ ok_in (map said (take l.at l.answers.rows));
      few : l.tally.ok ≤ l.at;
      written : l.tally.written ≡ saturated (written_in (map said (take l.at l.answers.rows)));
      read : l.tally.read ≡ saturated (read_in (map said (take l.at l.answers.rows)));
    }
