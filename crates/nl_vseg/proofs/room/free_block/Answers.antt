use Rattle.std.proofs.Common.{set, refl, sym, ◌∙◌, ap, subst}
use Rattle.nl_blocks.specs.declared.states.BlockState.TheVariants.{Free}
use Rattle.nl_blocks.specs.Table.{block_at, erased_row, in_state, worn}
use Rattle.nl_vseg.specs.Layout.{wears_of}
use Rattle.nl_vseg.specs.Used.{IsClosed}
use Rattle.nl_vseg.proofs.Using.{closed_with}
use Rattle.nl_vseg.proofs.Views.{wear_at}
use Rattle.nl_vseg.proofs.Wears.{wears_kept, wears_with}
use Rattle.nl_vseg.proofs.room.free_block.Goals as goal

pub returns-then-soiled-clause-kept : goal.returns-then-soiled-clause-kept
returns-then-soiled-clause-kept c _ =
    let old = c.args.blocks.now in
    ap wears_of c.freed.ensures ∙ wears_kept old c.args.block (in_state (block_at old c.args.block) Free) refl

pub returns-clause-worn : goal.returns-clause-worn
returns-clause-worn c _ =
    let old = c.args.blocks.now in
    ap wears_of c.erased.ensures ∙ (wears_with old c.args.block (erased_row (block_at old c.args.block) 0) c.requires.first
    ∙ ap (λ n. set (wears_of old) c.args.block (worn n)) (sym (wear_at old c.args.block c.requires.first)))

pub returns-then-soiled-clause-used : goal.returns-then-soiled-clause-used
returns-then-soiled-clause-used c =
    let old = c.args.blocks.now in
    subst (IsClosed c.args.block old) (sym c.freed.ensures) (closed_with old c.args.block (in_state (block_at old c.args.block) Free) c.requires.first c.requires.within refl)

pub returns-clause-used : goal.returns-clause-used
returns-clause-used c =
    let old = c.args.blocks.now in
    subst (IsClosed c.args.block old) (sym c.erased.ensures) (closed_with old c.args.block (erased_row (block_at old c.args.block) 0) c.requires.first c.requires.within refl)
