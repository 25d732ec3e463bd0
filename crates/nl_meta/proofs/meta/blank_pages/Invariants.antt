use Rattle.std.proofs.Common.{◌≡◌, length}
use Rattle.nl_meta.proofs.meta.blank_pages.Given as goal

abbrev pub invariant-loop-i : goal.invariant-loop-i
invariant-loop-i l = length l.pages.items ≡ l.i
