use Rattle.std.proofs.Common.{true, refl, sym, subst}
use Rattle.nl_blocks.specs.Table.{BlockRow, after_erase, block_at}
use Rattle.nl_pseg_blocks.specs.Uses.{SetsUse}
use Rattle.nl_pseg_blocks.proofs.Tables.{restated, shut_after, shut_risen}
use Rattle.nl_pseg_blocks.proofs.table.free_with.Goals as goal

pub returns : goal.returns
returns c =
    let t = c.args.blocks.now in
    let b = c.args.block in
    let row : BlockRow = record { state = after_erase 0; wear = c.args.wear; pages = (block_at t b).pages } in
    subst (SetsUse b true c.args.wear t) (sym c.found.ensures) (restated t b row true c.args.wear c.requires.has refl (λ k. refl) (λ rising. shut_risen row (shut_after 0)))
