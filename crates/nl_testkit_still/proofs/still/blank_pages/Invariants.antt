use Rattle.std.proofs.Common.{◌≡◌, length}
use Rattle.nl_testkit_still.proofs.still.blank_pages.Given as goal

abbrev pub invariant-loop-made : goal.invariant-loop-made
invariant-loop-made l = length l.pages.items ≡ l.made
