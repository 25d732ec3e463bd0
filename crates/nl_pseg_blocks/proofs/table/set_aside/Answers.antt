use Rattle.std.proofs.Common.{◌≡◌, ⊎_elim, ◌+◌, refl, sym, ◌∙◌, ap, arith, ◌<◌}
use Rattle.nl_blocks.specs.declared.states.BlockState.{BlockState}
use Rattle.nl_blocks.specs.declared.states.BlockState.TheVariants.{Active, Free, Retired, Sealed, Target, Victim}
use Rattle.nl_blocks.specs.Table.{after_erase, block_at, is_free_state}
use Rattle.nl_pseg_blocks.specs.Uses.{is_kept_state, aside_state}
use Rattle.nl_pseg_blocks.proofs.Tables.{after_some, put_block, put_same, shut_after, shut_sealed}
use Rattle.nl_pseg_blocks.proofs.table.set_aside.Goals as goal

pub returns-in-Free : goal.returns-in-Free
returns-in-Free c =
    let t = c.args.blocks.now in
    let b = c.args.block in
    let st : (block_at t b).state ≡ Free = sym c.state.ensures ∙ c.in-Free.is in
    put_block t c.freed.new.self b _ (after_erase 1) c.requires.has c.freed.ensures (sym (ap aside_state st)) (sym (ap is_kept_state st)) (shut_after 1)

pub returns-in-Retired : goal.returns-in-Retired
returns-in-Retired c =
    let t = c.args.blocks.now in
    let b = c.args.block in
    let k = c.in-Retired.names in
    let st : (block_at t b).state ≡ Retired k = sym c.state.ensures ∙ c.in-Retired.is in
    let some : 0 < k + 1 = omega arith in
    let now = after_some (k + 1) some in
    put_block t c.freed-in-Retired.new.self b _ (after_erase (k + 1)) c.requires.has c.freed-in-Retired.ensures (now ∙ sym (ap aside_state st)) (ap is_kept_state now ∙ sym (ap is_kept_state st)) (shut_after (k + 1))

pub returns-in-Active : goal.returns-in-Active
returns-in-Active c =
    let t = c.args.blocks.now in
    let b = c.args.block in
    ⊎_elim
    (λ is. let st : (block_at t b).state ≡ Active = sym c.state.ensures ∙ is in put_block t c.seal.new.self b _ Sealed c.requires.has c.seal.ensures (sym (ap aside_state st)) (sym (ap is_kept_state st)) (shut_sealed Sealed refl))
    (λ is. let st : (block_at t b).state ≡ Target = sym c.state.ensures ∙ is in put_block t c.seal.new.self b _ Sealed c.requires.has c.seal.ensures (sym (ap aside_state st)) (sym (ap is_kept_state st)) (shut_sealed Sealed refl))
    c.in-Active.is

pub returns-in-Sealed : goal.returns-in-Sealed
returns-in-Sealed c =
    let t = c.args.blocks.now in
    let b = c.args.block in
    ⊎_elim
    (λ is. let st : (block_at t b).state ≡ Sealed = sym c.state.ensures ∙ is in put_same t b _ c.requires.has (st ∙ sym (ap aside_state st)) (ap (λ (q : BlockState). is_free_state (aside_state q)) st))
    (λ is. let st : (block_at t b).state ≡ Victim = sym c.state.ensures ∙ is in put_same t b _ c.requires.has (st ∙ sym (ap aside_state st)) (ap (λ (q : BlockState). is_free_state (aside_state q)) st))
    c.in-Sealed.is
