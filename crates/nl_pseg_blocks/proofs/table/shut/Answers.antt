use Rattle.std.proofs.Common.{false, refl, sym, ap, subst}
use Rattle.nl_blocks.specs.declared.states.BlockState.TheVariants.{Sealed}
use Rattle.nl_blocks.specs.Table.{HasBlock, block_at, in_state}
use Rattle.nl_pseg_blocks.specs.Uses.{Use, use_in, use_with, SetsUse}
use Rattle.nl_pseg_blocks.proofs.Tables.{restated, shut_risen, shut_sealed, use_here}
use Rattle.nl_pseg_blocks.proofs.table.shut.Goals as goal

pub returns-clause-restated : goal.returns-clause-restated
returns-clause-restated c =
    let t = c.args.blocks.now in
    let b = c.args.block in
    let has : HasBlock t b = record { from = c.requires.from; below = c.requires.below } in
    subst (SetsUse b false (use_in t b).wear t) (sym c.seal.ensures)
    (restated t b (in_state (block_at t b) Sealed) false (use_in t b).wear has (ap (λ (u : Use). use_with false u.wear) (sym (use_here t b has))) (λ k. refl) (λ rising. shut_risen (in_state (block_at t b) Sealed) (shut_sealed Sealed refl)))
