use Rattle.std.proofs.Common.{drop}
use Rattle.nl_field.specs.ScanList.{physical_seen}
use Rattle.nl_recover_pointers.proofs.Faults.{HasPassed}
use Rattle.nl_recover_pointers.proofs.pointers.pointer_fault.Given as goal

abbrev pub invariant-held : goal.invariant-held
invariant-held l = record { passed : HasPassed (physical_seen l.fn.shape l.fn.scan.seen) l.held (drop l.at l.held) l.earlier }
