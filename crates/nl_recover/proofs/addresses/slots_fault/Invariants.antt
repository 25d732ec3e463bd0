use Rattle.std.proofs.Common.{◌≡◌, length, take, None}
use Rattle.nl_meta.specs.Pages.{page_of}
use Rattle.nl_recover.specs.Addresses.{PassesAddresses, listed}
use Rattle.nl_recover.proofs.addresses.slots_fault.Given as goal

abbrev pub invariant-loop-address : goal.invariant-loop-address
invariant-loop-address l = record {
  size : length l.used.items ≡ length l.initial.used.items;
  passes : PassesAddresses l.shape (page_of l.meta) l.initial.used.items l.used.items (listed l.of_file (take l.address-index l.addresses)) None;
}
