use Rattle.std.proofs.Common.{arith, ◌∙◌, ◌/◌, ◌+◌, ◌-◌, ◌≡◌, ap, sym, fold, List, ℕ, length}
use Rattle.std.specs.List.{range_with_len}
use Rattle.std.specs.Ordering.{nat_cmp}
use Rattle.std.specs.FinMap.{put as with_entry}
use Rattle.nl_field.specs.FileContent.{overlaid, page_bytes}
use Rattle.nl_tree_content.proofs.ContentProofs.{touched_some}
use Rattle.nl_tree_content.proofs.FileProofs.{touched_step}
use Rattle.nl_tree_content.proofs.file_ops.put_touched.Goals as goal

pub pages-preserved : goal.pages-preserved
pages-preserved c =
    (touched_step (λ pages index. with_entry nat_cmp index (overlaid (page_bytes c.args.file.now index) index c.args.from c.args.bytes.now) pages) _ _ _ _ c.pages.index (omega arith) c.pages.invariant.0 c.in_ok-put_overlaid.ensures.pages, c.in_ok-put_overlaid.ensures.whole)

pub returns-clause-pages : goal.returns-clause-pages
returns-clause-pages c =
    let many : c.pages.index - c.args.from / 4096 ≡ (c.args.from + length c.args.bytes.now - 1) / 4096 + 1 - c.args.from / 4096 = omega arith in
    c.pages.invariant.0
    ∙ ap (λ (xs : List ℕ). fold (λ pages index. with_entry nat_cmp index (overlaid (page_bytes c.args.file.now index) index c.args.from c.args.bytes.now) pages) c.args.pages.now.items xs)
    (ap (range_with_len (c.args.from / 4096)) many ∙ sym (touched_some c.args.from (length c.args.bytes.now) c.requires.some))
