use Rattle.std.proofs.Common.{sym, ◌+◌, ◌∙◌}
use Rattle.nl_recover_pointers.proofs.Sparing.{by_spreads, nowhere, spare_by_marks, spare_by_need}
use Rattle.nl_recover_pointers.proofs.spare.has_spare.Goals as goal

pub returns-then-has_unmarked : goal.returns-then-has_unmarked
returns-then-has_unmarked c =
    let pages = c.args.pages.now.items in
    sym (spare_by_need pages c.args.first c.args.count c.in_ok-needed.needed.items c.in_ok-needed.ensures.count_is
    (λ i within. c.in_ok-needed.ensures.each i within ∙ nowhere c.new-none.result c.new-none.ensures.empty pages (c.args.first + i)) (sym c.has_unmarked.ensures ∙ c.if-has_unmarked.true))

pub returns : goal.returns
returns c =
    let pages = c.args.pages.now.items in
    c.has_unmarked-2.ensures
    ∙ spare_by_marks pages c.args.first c.args.count c.in_ok-alone.alone.items c.in_ok-alone.ensures.count_is
    (λ i within. c.in_ok-alone.ensures.each i within ∙ by_spreads pages c.in_ok-spreads.spreads c.in_ok-spreads.ensures (c.args.first + i) pages)
