use Rattle.std.proofs.Common.{set, refl, sym, ◌∙◌, ap, subst}
use Rattle.nl_blocks.specs.Table.{block_at, worn, worn_row}
use Rattle.nl_vseg.specs.Copying.{SameFreeBlocks}
use Rattle.nl_vseg.specs.Layout.{wears_of}
use Rattle.nl_vseg.specs.Used.{KeepsUsed}
use Rattle.nl_vseg.proofs.Using.{kept_with}
use Rattle.nl_vseg.proofs.Blocks.{restated, restated_same}
use Rattle.nl_vseg.proofs.Views.{wear_at}
use Rattle.nl_vseg.proofs.Wears.{wears_with}
use Rattle.nl_vseg.proofs.room.wear_out.Goals as goal

pub returns-clause-states : goal.returns-clause-states
returns-clause-states c =
    let old = c.args.blocks.now in
    subst (SameFreeBlocks old) (sym c.reerased.ensures) (restated_same refl (restated old c.args.block (worn_row (block_at old c.args.block)) c.requires.first c.requires.within))

pub returns-clause-worn : goal.returns-clause-worn
returns-clause-worn c =
    let old = c.args.blocks.now in
    ap wears_of c.reerased.ensures ∙ (wears_with old c.args.block (worn_row (block_at old c.args.block)) c.requires.first
    ∙ ap (λ n. set (wears_of old) c.args.block (worn n)) (sym (wear_at old c.args.block c.requires.first)))

pub returns-clause-used : goal.returns-clause-used
returns-clause-used c =
    let old = c.args.blocks.now in
    subst (KeepsUsed old) (sym c.reerased.ensures) (kept_with old c.args.block (worn_row (block_at old c.args.block)) c.requires.first c.requires.within refl refl)
