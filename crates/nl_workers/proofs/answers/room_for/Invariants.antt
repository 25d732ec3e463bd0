use Rattle.std.proofs.Common.{◌≡◌, ◌≤◌, ◌*◌, take}
use Rattle.nl_workers.specs.Table.{lines_to_come, bytes_to_come}
use Rattle.nl_workers.proofs.answers.room_for.Given as goal

abbrev pub invariant-loop-at : goal.invariant-loop-at
invariant-loop-at l = (l.count ≡ lines_to_come l.worker (take l.at l.lines)) × (l.bytes ≡ bytes_to_come l.worker (take l.at l.lines)) × (l.count ≤ l.at) × (l.bytes ≤ l.at * 65536)
