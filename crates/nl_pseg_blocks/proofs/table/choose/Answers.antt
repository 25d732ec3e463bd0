use Rattle.std.proofs.Common.{refl, sym, ap, subst}
use Rattle.nl_blocks.specs.declared.states.BlockState.{BlockState}
use Rattle.nl_blocks.specs.declared.states.BlockState.TheVariants.{Victim}
use Rattle.nl_blocks.specs.Table.{block_at, in_state}
use Rattle.nl_pseg_blocks.specs.Uses.{use_of, SameFill, SameMarks, SameUse}
use Rattle.nl_pseg_blocks.proofs.Tables.{fill_shut, same_marks, same_row, shut_risen, shut_sealed, shut_victim}
use Rattle.nl_pseg_blocks.proofs.table.choose.Goals as goal

pub returns-clause-same : goal.returns-clause-same
returns-clause-same c =
    let t = c.args.blocks.now in
    let row = block_at t c.args.block in
    subst (SameUse t) (sym c.choose.ensures) (same_row t c.args.block (in_state row Victim) c.requires.has
    (ap (λ (s : BlockState). use_of (in_state row s)) (sym c.requires.sealed)))

pub returns-clause-marks : goal.returns-clause-marks
returns-clause-marks c =
    let t = c.args.blocks.now in
    subst (SameMarks t) (sym c.choose.ensures) (same_marks t c.args.block (in_state (block_at t c.args.block) Victim) c.requires.has (λ k. refl) (λ rising. shut_risen (in_state (block_at t c.args.block) Victim) (shut_victim Victim refl)))

pub returns-clause-fill : goal.returns-clause-fill
returns-clause-fill c =
    let t = c.args.blocks.now in
    let row = in_state (block_at t c.args.block) Victim in
    subst (SameFill t) (sym c.choose.ensures) (fill_shut t c.args.block row c.requires.has (shut_sealed (block_at t c.args.block).state c.requires.sealed) (shut_victim Victim refl))
