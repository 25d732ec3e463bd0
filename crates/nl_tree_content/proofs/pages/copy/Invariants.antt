use Rattle.std.proofs.Common.{◌≡◌, take}
use Rattle.nl_tree_content.proofs.pages.copy.Given as goal

abbrev pub invariant-pages : goal.invariant-pages
invariant-pages l = l.copied.items ≡ take l.page-index l.pages
