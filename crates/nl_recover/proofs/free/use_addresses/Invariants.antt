use Rattle.std.proofs.Common.{take}
use Rattle.nl_recover.specs.Freeing.{TakesAddresses}
use Rattle.nl_recover.proofs.free.use_addresses.Given as goal

abbrev pub invariant-loop-address : goal.invariant-loop-address
invariant-loop-address l = TakesAddresses l.shape (take l.address-index l.addresses) l.initial.nodes l.nodes
