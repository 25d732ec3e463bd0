use Rattle.std.proofs.Common.{◌≡◌, take}
use Rattle.nl_meta.specs.Pages.{touched}
use Rattle.nl_meta.proofs.addresses.moved_front.Given as goal

abbrev pub invariant-loop-address : goal.invariant-loop-address
invariant-loop-address l = l.out ≡ touched l.vaddr (take l.address-index l.address-items)
