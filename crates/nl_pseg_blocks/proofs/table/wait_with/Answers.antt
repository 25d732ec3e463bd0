use Rattle.std.proofs.Common.{◌≡◌, ◌<◌, refl, sym, ◌∙◌, ap, subst, arith, ◌-◌}
use Rattle.nl_blocks.specs.declared.states.BlockState.TheVariants.{Retired}
use Rattle.nl_blocks.specs.Table.{BlockRow, after_erase, block_at, is_retired_state, names_of, no_row}
use Rattle.nl_blocks.specs.declared.states.BlockState.{BlockState}
use Rattle.nl_pseg_blocks.specs.Uses.{use_of, SetsWear}
use Rattle.nl_pseg_blocks.proofs.Tables.{after_some, row_here, shut_after, shut_risen, told_block, use_here}
use Rattle.nl_pseg_blocks.proofs.table.wait_with.Goals as goal

pub returns-clause-told : goal.returns-clause-told
returns-clause-told c =
    let t = c.args.blocks.now in
    let has = c.requires.has in
    let b = c.args.block in
    let row : BlockRow = record { state = after_erase c.args.names; wear = c.args.wear; pages = (block_at t b).pages } in
    let some : 0 < c.args.names = subst (λ (st : BlockState). 0 < names_of st) c.requires.retired ((c.count.ensures.table.each (b - t.first) no_row (let w = has.from in let v = has.below in omega (arith, w, v))).names (ap is_retired_state c.requires.retired)) in
    let now : after_erase c.args.names ≡ Retired c.args.names = after_some c.args.names some in
    let was = use_here t b has in
    let state : (block_at t b).state ≡ Retired c.args.names = c.requires.retired in
    subst (SetsWear b c.args.wear t) (sym c.found.ensures)
    (told_block t b row c.args.wear has
    ((λ i. use_of (record row { state = (now ∙ sym state) i })) ∙ (λ i. record { is_free = (sym was i).is_free; is_kept = (sym was i).is_kept; wear = c.args.wear }))
    (λ k. refl) (λ rising. shut_risen row (shut_after c.args.names)))

pub returns-clause-state : goal.returns-clause-state
returns-clause-state c =
    let t = c.args.blocks.now in
    let has = c.requires.has in
    let b = c.args.block in
    let some : 0 < c.args.names = subst (λ (st : BlockState). 0 < names_of st) c.requires.retired ((c.count.ensures.table.each (b - t.first) no_row (let w = has.from in let v = has.below in omega (arith, w, v))).names (ap is_retired_state c.requires.retired)) in
    ap (λ n. (block_at n b).state) c.found.ensures ∙ (ap (λ (r : BlockRow). r.state) (row_here t b _ has) ∙ after_some c.args.names some)
