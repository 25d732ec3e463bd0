use Rattle.std.proofs.Common.{List, ap, arith, drop, map, not, ◌++◌, ◌+◌, ◌∙◌}
use Rattle.std.specs.Prelude.{nat_lt}
use Rattle.nl_field.specs.Medium.{address_of}
use Rattle.nl_field.specs.ScanList.{on_list}
use Rattle.nl_field.specs.Space.{has_greatest_among}
use Rattle.nl_field.specs.SpareRecord.{stamp_of}
use Rattle.nl_field.specs.declared.seen.Seen.{Seen}
use Rattle.nl_recover_pointers.specs.Copies.{virtual_copies, virtual_copy}
use Rattle.nl_recover_pointers.specs.declared.spare.PageCopy.{PageCopy}
use Rattle.nl_recover_pointers.proofs.Copying.{greatest_test}
use Rattle.nl_recover_pointers.proofs.Rests.{drop_read, mapped_more}
use Rattle.nl_recover_pointers.proofs.copies.virtual_copies.Goals as goal

pub pages-init : goal.pages-init
unfolding virtual_copies
pages-init c =
    let size = c.args.shape.now.pages in
    let pages = c.in_ok-pages.pages.items in
    ap (λ (l : List PageCopy). l ++ map (λ s. virtual_copy size (has_greatest_among on_list pages s) s) pages) c.new-copies.ensures.items

pub pages-preserved : goal.pages-preserved
pages-preserved c =
    let size = c.args.shape.now.pages in
    let pages = c.in_ok-pages.pages.items in
    let page = c.index.result.now in
    let f : Seen → PageCopy = λ s. virtual_copy size (has_greatest_among on_list pages s) s in
    let needed = ap (λ n. not (nat_lt (stamp_of page.rec) n)) (c.in_ok-greatest.ensures (address_of page.rec)) ∙ greatest_test pages page in
    ap (λ (l : List PageCopy). l ++ map f (drop (c.pages.at + 1) pages)) c.in_ok-push.ensures.items
    ∙ mapped_more f pages c.pages.at page c.virtual_copy.result c.pages.copies.items (virtual_copies size pages)
    (drop_read pages c.pages.at page (omega arith) c.index.ensures)
    (c.virtual_copy.ensures ∙ ap (λ b. virtual_copy size b page) needed) c.pages.invariant
