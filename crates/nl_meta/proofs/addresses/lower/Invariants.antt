use Rattle.std.proofs.Common.{◌≡◌, take}
use Rattle.nl_meta.specs.Pages.{below}
use Rattle.nl_meta.proofs.addresses.lower.Given as goal

abbrev pub invariant-loop-address : goal.invariant-loop-address
invariant-loop-address l = l.out ≡ below l.vaddr (take l.address-index l.address-items)
