use Rattle.std.proofs.Common.{◌∙◌, cond, sym, ap}
use Rattle.nl_map_pages.specs.Looks.{is_outdated_seen, read_under}
use Rattle.nl_map_pages.specs.Marks.{is_page}
use Rattle.nl_map_pages.specs.declared.look.Mark.TheVariants as marks
use Rattle.nl_map_pages.proofs.Reading.{virtual_mark_is}
use Rattle.nl_map_pages.proofs.judge.Live.virtual_mark.Goals as goal

pub returns-then-is_page : goal.returns-then-is_page
returns-then-is_page c = λ image is.
    let live = c.args.self.now in
    let here = ap (λ l. is_page c.args.page (read_under l live.shape.pages live.spare c.args.address)) (sym c.deref.ensures.value) ∙ ap (is_page c.args.page) (sym c.read_under-read.ensures) ∙ sym c.is_page.ensures ∙ c.if-is_page.true in
    (λ i. cond (sym here i) marks.Live (cond (is_outdated_seen live.virtuals.items c.args.address c.args.stamp) marks.Dead marks.OldCopy))
    ∙ virtual_mark_is image c.args.address live is c.args.page c.args.stamp

pub returns-then-is_outdated : goal.returns-then-is_outdated
returns-then-is_outdated c = λ image is.
    let live = c.args.self.now in
    let there = ap (λ l. is_page c.args.page (read_under l live.shape.pages live.spare c.args.address)) (sym c.deref.ensures.value) ∙ ap (is_page c.args.page) (sym c.read_under-read.ensures) ∙ sym c.is_page.ensures ∙ c.if-is_page.false in
    let old = ap (λ l. is_outdated_seen l c.args.address c.args.stamp) (sym c.deref-2.ensures.value) ∙ sym c.is_outdated.ensures ∙ c.if-is_outdated.true in
    (λ i. cond (sym there i) marks.Live (cond (sym old i) marks.Dead marks.OldCopy)) ∙ virtual_mark_is image c.args.address live is c.args.page c.args.stamp

pub returns : goal.returns
returns c = λ image is.
    let live = c.args.self.now in
    let there = ap (λ l. is_page c.args.page (read_under l live.shape.pages live.spare c.args.address)) (sym c.deref.ensures.value) ∙ ap (is_page c.args.page) (sym c.read_under-read.ensures) ∙ sym c.is_page.ensures ∙ c.if-is_page.false in
    let young = ap (λ l. is_outdated_seen l c.args.address c.args.stamp) (sym c.deref-2.ensures.value) ∙ sym c.is_outdated.ensures ∙ c.if-is_outdated.false in
    (λ i. cond (sym there i) marks.Live (cond (sym young i) marks.Dead marks.OldCopy)) ∙ virtual_mark_is image c.args.address live is c.args.page c.args.stamp
