use Rattle.std.proofs.Common.{◌≡◌, ◌++◌, nat_lt, map, filter, drop}
use Rattle.std.specs.Int.{div_ceil}
use Rattle.nl_tree_content.specs.Pages.{AreWhole, cut_entry}
use Rattle.nl_tree_content.proofs.file_ops.cut_pages.Given as goal

abbrev pub invariant-pages : goal.invariant-pages
invariant-pages l =
    (l.kept.items ++ map (cut_entry l.size) (filter (λ page. nat_lt page.0 (div_ceil l.size 4096)) (drop l.page-index l.pages))
    ≡ map (cut_entry l.size) (filter (λ page. nat_lt page.0 (div_ceil l.size 4096)) l.pages)) × AreWhole l.kept.items × AreWhole (drop l.page-index l.pages)
