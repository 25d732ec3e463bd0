use Rattle.std.proofs.Common.{◌≡◌, ℕ, drop}
use Rattle.std.specs.Prelude.{fold}
use Rattle.nl_field.specs.ScanList.{physical_seen}
use Rattle.nl_field.specs.declared.pointer.Tag.{Tag}
use Rattle.nl_recover_pointers.specs.Owners.{greatest_zeros, with_page, zeros_at}
use Rattle.nl_recover_pointers.proofs.owners.owners.Given as goal

abbrev pub invariant-seen : goal.invariant-seen
invariant-seen l = (stamp : ℕ) (tag : Tag)
    → fold (with_page stamp tag) (zeros_at l.zeros stamp tag) (physical_seen l.shape (drop l.at l.scan.seen)) ≡ greatest_zeros (physical_seen l.shape l.scan.seen) stamp tag
