use Rattle.std.proofs.Common.{◌∙◌, cond, sym}
use Rattle.std.specs.BTreeSet.{contains}
use Rattle.std.specs.Ordering.{nat_cmp}
use Rattle.nl_map_pages.specs.declared.look.Mark.TheVariants as marks
use Rattle.nl_map_pages.proofs.Reading.{physical_mark_is}
use Rattle.nl_map_pages.proofs.judge.Live.physical_mark.Goals as goal

pub returns-then-contains : goal.returns-then-contains
returns-then-contains c = λ image is.
    let live = c.args.self.now in
    let has = sym c.contains.ensures ∙ c.if-contains.true in
    (λ i. cond (sym has i) marks.Live (cond (contains nat_cmp live.stamps c.args.stamp) marks.OldCopy marks.Dead)) ∙ physical_mark_is image live is c.args.page c.args.stamp

pub returns-then-contains-2 : goal.returns-then-contains-2
returns-then-contains-2 c = λ image is.
    let live = c.args.self.now in
    let none = sym c.contains.ensures ∙ c.if-contains.false in
    let has = sym c.contains-else-contains.ensures ∙ c.if-contains-2.true in
    (λ i. cond (sym none i) marks.Live (cond (sym has i) marks.OldCopy marks.Dead)) ∙ physical_mark_is image live is c.args.page c.args.stamp

pub returns-else-contains-2 : goal.returns-else-contains-2
returns-else-contains-2 c = λ image is.
    let live = c.args.self.now in
    let none = sym c.contains.ensures ∙ c.if-contains.false in
    let no = sym c.contains-else-contains.ensures ∙ c.if-contains-2.false in
    (λ i. cond (sym none i) marks.Live (cond (sym no i) marks.OldCopy marks.Dead)) ∙ physical_mark_is image live is c.args.page c.args.stamp
