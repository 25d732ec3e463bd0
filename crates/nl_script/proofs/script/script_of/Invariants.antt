use Rattle.std.proofs.Common.{◌≡◌, ◌≤◌, ◌+◌, length}
use Rattle.nl_script.specs.Reading.{IsReadScript, read_on}
use Rattle.nl_script.specs.Script.{script}
use Rattle.nl_script.specs.Words.{lines_of}
use Rattle.nl_script.proofs.script.script_of.Given as goal

abbrev pub invariant-script : goal.invariant-script
invariant-script l = record {
  so_far : read_on l.at l.lines (lines_of l.rest) ≡ script l.bytes;
  read : IsReadScript l.at l.lines;
  bound : l.at.number + length l.rest ≤ 16777216;
}

abbrev pub decreases-script : goal.decreases-script
decreases-script l = length l.rest
