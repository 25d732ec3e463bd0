use Rattle.std.proofs.Common.{◌≡◌, ◌++◌, take}
use Rattle.nl_meta.specs.Pages.{above}
use Rattle.nl_meta.proofs.addresses.push_higher.Given as goal

abbrev pub invariant-loop-address : goal.invariant-loop-address
invariant-loop-address l = l.out ≡ l.fn.out ++ above l.vaddr (take l.address-index l.address-items)
