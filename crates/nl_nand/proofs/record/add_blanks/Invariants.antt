use Rattle.std.proofs.Common.{◌≤◌, vec_len}
use Rattle.nl_nand.proofs.record.add_blanks.Given as goal

abbrev pub invariant-loop : goal.invariant-loop
invariant-loop l = record { more : vec_len l.initial.blanks ≤ vec_len l.blanks; count : l.counter ≤ vec_len l.blanks }
