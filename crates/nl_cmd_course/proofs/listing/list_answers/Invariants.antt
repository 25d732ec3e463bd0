use Rattle.std.proofs.Common.{◌≡◌, ◌≤◌, ◌+◌, length, take}
use Rattle.nl_cmd_course.specs.Rounds.{order_of_rows, syncs_of_rows}
use Rattle.nl_cmd_course.proofs.listing.list_answers.Given as goal

-- the rows so far are listed
abbrev pub invariant-rows : goal.invariant-rows
invariant-rows l =
    record {
      order : l.order.items ≡ order_of_rows (take l.at l.answers.rows);
      many : length l.order.items ≡ l.at;
      order_room : length l.answers.rows ≤ l.order.room + l.at;
      syncs : l.syncs.items ≡ syncs_of_rows (take l.at l.answers.rows);
      few : length l.syncs.items ≤ l.at;
      syncs_room : length l.answers.rows ≤ l.syncs.room + l.at;
    }
