use Rattle.std.proofs.Common.{◌≡◌, ◌++◌, drop}
use Rattle.nl_field.specs.ScanList.{virtual_seen}
use Rattle.nl_map_pages.proofs.virtuals.virtual_pages.Given as goal

abbrev pub invariant-seen : goal.invariant-seen
invariant-seen l = l.pages.items ++ virtual_seen l.shape (drop l.at l.scan.seen) ≡ virtual_seen l.shape l.scan.seen
