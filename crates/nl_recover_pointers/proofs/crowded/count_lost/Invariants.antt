use Rattle.std.proofs.Common.{◌≡◌, ◌≤◌, ◌+◌, drop}
use Rattle.nl_recover_pointers.proofs.Crowding.{count_lost}
use Rattle.nl_recover_pointers.proofs.crowded.count_lost.Given as goal

abbrev pub invariant-held : goal.invariant-held
invariant-held l = record {
  few : l.lost ≤ l.at;
  rest : l.lost + count_lost l.fn.shape l.fn.scan.seen (drop l.at l.fn.held) ≡ count_lost l.fn.shape l.fn.scan.seen l.fn.held;
}
