use Rattle.std.proofs.Common.{◌≡◌, ◌++◌, drop}
use Rattle.nl_recover_pointers.specs.Copies.{physical_copies}
use Rattle.nl_recover_pointers.proofs.copies.physical_copies.Given as goal

abbrev pub invariant-pages : goal.invariant-pages
invariant-pages l = l.copies.items ++ physical_copies l.shape.pages l.held (drop l.at l.pages.items) ≡ physical_copies l.shape.pages l.held l.pages.items
