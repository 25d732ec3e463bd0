use Rattle.std.proofs.Common.{◌≡◌, drop}
use Rattle.nl_meta.specs.Walk.{name_fault}
use Rattle.nl_recover_pointers.proofs.names.name_fault.Given as goal

abbrev pub invariant-held : goal.invariant-held
invariant-held l = name_fault l.shape l.scan.seen (drop l.at l.held) ≡ name_fault l.shape l.scan.seen l.held
