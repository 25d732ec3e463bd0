use Rattle.std.proofs.Common.{◌/◌, ◌%◌, refl, sym, ◌∙◌, ap, subst}
use Rattle.nl_blocks.specs.declared.states.PageState.TheVariants.{Dead}
use Rattle.nl_blocks.specs.Table.{block_at, with_mark}
use Rattle.nl_vseg.specs.Layout.{wears_of}
use Rattle.nl_vseg.specs.Used.{UsesNext}
use Rattle.nl_vseg.proofs.Using.{next_is, next_left, uses_next}
use Rattle.nl_vseg.proofs.Wears.{wears_kept}
use Rattle.nl_vseg.proofs.used.use_next.Goals as goal

pub unreachable-requires : goal.unreachable-requires
unreachable-requires c =
    let old = c.args.blocks.now in
    next_left old c.count.ensures.table c.args.block c.requires.first c.requires.within c.requires.room (c.in-None.ensures.full.0 refl)

pub returns-clause-page : goal.returns-clause-page
returns-clause-page c =
    let old = c.args.blocks.now in
    next_is old c.count.ensures.table c.args.block c.requires.first c.requires.within c.requires.room c.in-Some.page c.in-Some.ensures.some

pub returns-clause-used : goal.returns-clause-used
returns-clause-used c =
    let old = c.args.blocks.now in
    subst (UsesNext c.args.block old) (sym c.mark_dead.ensures)
    (uses_next old c.count.ensures.table c.args.block c.requires.first c.requires.within c.requires.room c.requires.rising c.in-Some.page Dead c.in-Some.ensures.some)

pub returns-clause-wears : goal.returns-clause-wears
returns-clause-wears c =
    let old = c.args.blocks.now in
    let page = c.in-Some.page in
    ap wears_of c.mark_dead.ensures ∙ wears_kept old (page / old.size) (with_mark (block_at old (page / old.size)) (page % old.size) Dead) refl
