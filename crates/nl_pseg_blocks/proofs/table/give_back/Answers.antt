use Rattle.std.proofs.Common.{true, refl, sym, ap, subst}
use Rattle.nl_blocks.specs.Table.{HasBlock, after_erase, block_at, in_state}
use Rattle.nl_pseg_blocks.specs.Uses.{Use, use_in, use_with, SetsUse}
use Rattle.nl_pseg_blocks.proofs.Tables.{restated, shut_after, shut_risen, use_here}
use Rattle.nl_pseg_blocks.proofs.table.give_back.Goals as goal

pub returns : goal.returns
returns c =
    let t = c.args.blocks.now in
    let b = c.args.block in
    let has : HasBlock t b = record { from = c.requires.from; below = c.requires.below } in
    subst (SetsUse b true (use_in t b).wear t) (sym c.freed.ensures)
    (restated t b (in_state (block_at t b) (after_erase 0)) true (use_in t b).wear has (ap (λ (u : Use). use_with true u.wear) (sym (use_here t b has))) (λ k. refl) (λ rising. shut_risen (in_state (block_at t b) (after_erase 0)) (shut_after 0)))
