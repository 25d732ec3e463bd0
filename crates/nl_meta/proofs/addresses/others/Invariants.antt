use Rattle.std.proofs.Common.{◌≡◌, length, take}
use Rattle.nl_meta.specs.Pages.{besides_0}
use Rattle.nl_meta.proofs.addresses.others.Given as goal

abbrev pub invariant-loop-address : goal.invariant-loop-address
invariant-loop-address l = l.count ≡ length (besides_0 (take l.address-index l.address-items))
