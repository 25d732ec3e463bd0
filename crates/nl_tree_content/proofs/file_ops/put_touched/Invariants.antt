use Rattle.std.proofs.Common.{◌≡◌, ◌-◌, fold}
use Rattle.std.specs.List.{range_with_len}
use Rattle.std.specs.Ordering.{nat_cmp}
use Rattle.std.specs.FinMap.{put as with_entry}
use Rattle.nl_field.specs.FileContent.{overlaid, page_bytes}
use Rattle.nl_tree_content.specs.Pages.{AreWhole}
use Rattle.nl_tree_content.proofs.file_ops.put_touched.Given as goal

abbrev pub invariant-pages : goal.invariant-pages
invariant-pages l =
    (l.pages.items ≡ fold (λ pages index. with_entry nat_cmp index (overlaid (page_bytes l.file index) index l.from l.bytes) pages) l.initial.pages.items (range_with_len l.first (l.index - l.first))) × AreWhole l.pages.items
