use Rattle.std.proofs.Common.{◌≡◌, length, None}
use Rattle.nl_meta.specs.Pages.{page_of}
use Rattle.nl_recover.specs.Addresses.{PassesAddresses}
use Rattle.nl_recover.proofs.AddressFacts.{of_number}
use Rattle.nl_recover.proofs.Scans.{upto}
use Rattle.nl_recover.proofs.addresses.first_fault.Given as goal

abbrev pub invariant-loop-ino : goal.invariant-loop-ino
invariant-loop-ino l = record {
  size : length l.used.items ≡ length l.initial.used.items;
  passes : PassesAddresses l.shape (page_of l.meta) l.initial.used.items l.used.items (upto (of_number l.shape (page_of l.meta)) l.ino) None;
}
