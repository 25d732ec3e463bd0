use Rattle.std.proofs.Common.{◌≡◌}
use Rattle.nl_field.specs.Spelling.{u32s}
use Rattle.nl_field.proofs.header.addresses_from.Given as goal

abbrev pub invariant-loop-i : goal.invariant-loop-i
invariant-loop-i l = l.addresses ≡ u32s l.i l.bytes
