use Rattle.std.proofs.Common.{true, false, refl, sym, ◌∙◌, ap, subst}
use Rattle.nl_blocks.specs.declared.states.BlockState.TheVariants.{Sealed}
use Rattle.nl_blocks.specs.Table.{HasBlock, after_erase, block_at, in_state}
use Rattle.nl_pseg_blocks.specs.Uses.{Use, use_with, SetsUse}
use Rattle.nl_pseg_blocks.proofs.Tables.{has_same, restated, restated_again, shut_after, shut_risen, shut_sealed, use_here}
use Rattle.nl_pseg_blocks.proofs.table.shut_with.Goals as goal

pub returns-clause-restated : goal.returns-clause-restated
returns-clause-restated c =
    let t = c.args.blocks.now in
    let b = c.args.block in
    let has : HasBlock t b = record { from = c.requires.from; below = c.requires.below } in
    let row = in_state (block_at t b) (after_erase 0) in
    let first : SetsUse b true row.wear t c.freed.new.self = subst (SetsUse b true row.wear t) (sym c.freed.ensures) (restated t b row true row.wear has refl (λ k. refl) (λ rising. shut_risen row (shut_after 0))) in
    let mid = c.freed.new.self in
    let mid_has = has_same b first.numbers has in
    let second : SetsUse b true c.args.wear mid c.found.new.self =
    subst (SetsUse b true c.args.wear mid) (sym c.found.ensures)
    (restated mid b (record { state = after_erase 0; wear = c.args.wear; pages = (block_at mid b).pages }) true c.args.wear mid_has refl (λ k. refl) (λ rising. shut_risen (record { state = after_erase 0; wear = c.args.wear; pages = (block_at mid b).pages }) (shut_after 0))) in
    let both = restated_again first second in
    let now = c.found.new.self in
    let now_has = has_same b both.numbers has in
    let wear_is = ap (λ (u : Use). u.wear) (sym (use_here now b now_has) ∙ both.here) in
    let third : SetsUse b false c.args.wear now c.seal.new.self =
    subst (SetsUse b false c.args.wear now) (sym c.seal.ensures)
    (restated now b (in_state (block_at now b) Sealed) false c.args.wear now_has (ap (use_with false) wear_is) (λ k. refl) (λ rising. shut_risen (in_state (block_at now b) Sealed) (shut_sealed Sealed refl))) in
    restated_again both third
