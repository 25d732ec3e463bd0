use Rattle.std.proofs.Common.{◌≡◌, ◌+◌, ◌-◌, ◌≤◌, drop, vec_len}
use Rattle.std.specs.Ordering.{nat_cmp}
use Rattle.nl_tree_content.specs.Places.{place_in}
use Rattle.nl_tree_content.proofs.pages.place_of.Given as goal

abbrev pub invariant-pages : goal.invariant-pages
invariant-pages l = (l.at + place_in nat_cmp l.index (drop l.at l.pages.items) ≡ place_in nat_cmp l.index l.pages.items) × (l.at ≤ vec_len l.pages)

abbrev pub decreases-pages : goal.decreases-pages
decreases-pages l = vec_len l.pages - l.at
