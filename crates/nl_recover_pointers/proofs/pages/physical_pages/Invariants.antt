use Rattle.std.proofs.Common.{◌≡◌, ◌++◌, drop}
use Rattle.nl_field.specs.ScanList.{physical_seen}
use Rattle.nl_recover_pointers.proofs.pages.physical_pages.Given as goal

abbrev pub invariant-seen : goal.invariant-seen
invariant-seen l = l.pages.items ++ physical_seen l.shape (drop l.at l.scan.seen) ≡ physical_seen l.shape l.scan.seen
