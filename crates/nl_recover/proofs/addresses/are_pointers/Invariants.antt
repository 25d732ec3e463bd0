use Rattle.std.proofs.Common.{◌≡◌, true, false}
use Rattle.nl_recover.proofs.PointerPages.{NoneBefore, SomeBefore, SpelledBefore}
use Rattle.nl_recover.proofs.addresses.are_pointers.Given as goal

abbrev pub invariant-loop-slot : goal.invariant-loop-slot
invariant-loop-slot l = record {
  spelled : SpelledBefore l.shape l.page.main l.slot;
  none : l.some ≡ false → NoneBefore l.page.main l.slot;
  some : l.some ≡ true → SomeBefore l.page.main l.slot;
}
