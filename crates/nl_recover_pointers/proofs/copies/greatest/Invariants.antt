use Rattle.std.proofs.Common.{◌≡◌, ℕ, drop, unwrap_or}
use Rattle.std.specs.Prelude.{fold}
use Rattle.std.specs.BTreeMap.{get}
use Rattle.std.specs.Ordering.{nat_cmp}
use Rattle.nl_recover_pointers.specs.Copies.{greatest_stamp, with_stamp}
use Rattle.nl_recover_pointers.proofs.copies.greatest.Given as goal

abbrev pub invariant-pages : goal.invariant-pages
invariant-pages l = (address : ℕ) → fold (with_stamp address) (unwrap_or (get nat_cmp l.greatest address) 0) (drop l.at l.pages.items) ≡ greatest_stamp l.pages.items address
