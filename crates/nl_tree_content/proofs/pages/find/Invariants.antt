use Rattle.std.proofs.Common.{◌≡◌, drop}
use Rattle.std.specs.Ordering.{nat_cmp}
use Rattle.std.specs.FinMap.{find as value_at}
use Rattle.nl_tree_content.specs.Pages.{AreWhole}
use Rattle.nl_tree_content.proofs.pages.find.Given as goal

abbrev pub invariant-pages : goal.invariant-pages
invariant-pages l = (value_at nat_cmp l.index (drop l.page-index l.pages) ≡ value_at nat_cmp l.index l.pages) × AreWhole (drop l.page-index l.pages)
