use Rattle.std.proofs.Common.{◌≤◌, length}
use Rattle.nl_journal.proofs.due.frozen_len.Given as goal

abbrev pub invariant-loop-i : goal.invariant-loop-i
invariant-loop-i l = l.i ≤ length l.meta.frozen.addresses
