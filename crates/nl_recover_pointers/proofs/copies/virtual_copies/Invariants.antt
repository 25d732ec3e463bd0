use Rattle.std.proofs.Common.{◌≡◌, ◌++◌, drop, map}
use Rattle.nl_field.specs.ScanList.{on_list}
use Rattle.nl_field.specs.Space.{has_greatest_among}
use Rattle.nl_recover_pointers.specs.Copies.{virtual_copies, virtual_copy}
use Rattle.nl_recover_pointers.proofs.copies.virtual_copies.Given as goal

abbrev pub invariant-pages : goal.invariant-pages
invariant-pages l = l.copies.items ++ map (λ s. virtual_copy l.shape.pages (has_greatest_among on_list l.pages.items s) s) (drop l.at l.pages.items) ≡ virtual_copies l.shape.pages l.pages.items
