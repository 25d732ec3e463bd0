use Rattle.std.proofs.Common.{◌≡◌, ◌||◌, ℕ, drop}
use Rattle.nl_field.specs.ScanList.{on_list, physical_seen}
use Rattle.nl_field.specs.Space.{holds_among, is_among}
use Rattle.nl_recover_pointers.specs.Places.{has_place, is_at}
use Rattle.nl_recover_pointers.proofs.places.Places.of.Given as goal

abbrev pub invariant-seen : goal.invariant-seen
invariant-seen l = record {
  pages_are : (page : ℕ) → (has_place l.places page || is_among on_list (physical_seen l.shape (drop l.at l.scan.seen)) page) ≡ is_among on_list (physical_seen l.shape l.scan.seen) page;
  stamped_are : (page stamp : ℕ)
      → (is_at l.places page stamp || holds_among on_list (physical_seen l.shape (drop l.at l.scan.seen)) page stamp) ≡ holds_among on_list (physical_seen l.shape l.scan.seen) page stamp;
}
