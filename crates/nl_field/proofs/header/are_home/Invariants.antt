use Rattle.std.proofs.Common.{◌≡◌, drop}
use Rattle.nl_field.specs.Journal.{are_home_addresses}
use Rattle.nl_field.proofs.header.are_home.Given as goal

abbrev pub invariant-loop-i : goal.invariant-loop-i
invariant-loop-i l = are_home_addresses l.addresses ≡ are_home_addresses (drop l.i l.addresses)
