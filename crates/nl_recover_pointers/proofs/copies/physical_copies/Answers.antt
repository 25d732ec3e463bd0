use Rattle.std.proofs.Common.{List, ap, arith, drop, map, ◌++◌, ◌+◌, ◌∙◌}
use Rattle.nl_field.specs.SpareRecord.{stamp_of}
use Rattle.nl_field.specs.declared.seen.Seen.{Seen}
use Rattle.nl_recover_pointers.specs.Copies.{is_stamp_of, physical_copies, physical_copy}
use Rattle.nl_recover_pointers.specs.declared.spare.PageCopy.{PageCopy}
use Rattle.nl_recover_pointers.proofs.Rests.{drop_read, mapped_all, mapped_more}
use Rattle.nl_recover_pointers.proofs.copies.physical_copies.Goals as goal

pub pages-preserved : goal.pages-preserved
unfolding physical_copies
pages-preserved c =
    let size = c.args.shape.now.pages in
    let pages = c.in_ok-pages.pages.items in
    let page = c.index.result.now in
    let f : Seen → PageCopy = λ s. physical_copy size (is_stamp_of c.args.held.now (stamp_of s.rec)) s in
    ap (λ (l : List PageCopy). l ++ map f (drop (c.pages.at + 1) pages)) c.in_ok-push.ensures.items
    ∙ mapped_more f pages c.pages.at page c.physical_copy.result c.pages.copies.items (map f pages)
    (drop_read pages c.pages.at page (omega arith) c.index.ensures)
    (c.physical_copy.ensures ∙ ap (λ b. physical_copy size b page) (c.in_ok-stamps.ensures (stamp_of page.rec))) c.pages.invariant

pub returns : goal.returns
unfolding physical_copies
returns c =
    let size = c.args.shape.now.pages in
    let pages = c.in_ok-pages.pages.items in
    let f : Seen → PageCopy = λ s. physical_copy size (is_stamp_of c.args.held.now (stamp_of s.rec)) s in
    mapped_all f pages c.pages.at c.pages.copies.items (map f pages) (omega arith) c.pages.invariant ∙ ap (physical_copies size c.args.held.now) c.in_ok-pages.ensures
