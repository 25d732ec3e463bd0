use Rattle.std.proofs.Common.{◌≡◌, true, false, sym, ◌∙◌, ap}
use Rattle.nl_blocks.specs.declared.states.BlockState.{BlockState}
use Rattle.nl_blocks.specs.declared.states.BlockState.TheVariants.{Free}
use Rattle.nl_blocks.specs.Table.{block_at, is_free_state}
use Rattle.nl_pseg_blocks.specs.Uses.{Use, is_kept_state, use_in, told_state}
use Rattle.nl_pseg_blocks.proofs.Tables.{free_state_is, has_same, told_restated, use_here, used_state}
use Rattle.nl_pseg_blocks.proofs.table.tell.Goals as goal

pub returns-in-Free-clause-told : goal.returns-in-Free-clause-told
returns-in-Free-clause-told c =
    let t = c.args.blocks.now in
    let b = c.args.block in
    let has = c.requires in
    let state : (block_at t b).state ≡ Free = sym c.state.ensures ∙ c.in-Free.is in
    let free : (use_in t b).is_free ≡ true = ap (λ (u : Use). u.is_free) (use_here t b has) ∙ ap (λ (st : BlockState). is_free_state st) state in
    let kept : (use_in t b).is_kept ≡ true = ap (λ (u : Use). u.is_kept) (use_here t b has) ∙ ap (λ (st : BlockState). is_kept_state st) state in
    told_restated t c.free_with.new.blocks b c.args.wear true free kept c.free_with.ensures

pub returns-in-Free-clause-state : goal.returns-in-Free-clause-state
returns-in-Free-clause-state c =
    let t = c.args.blocks.now in
    let b = c.args.block in
    let state : (block_at t b).state ≡ Free = sym c.state.ensures ∙ c.in-Free.is in
    free_state_is c.free_with.new.blocks b (has_same b c.free_with.ensures.numbers c.requires) (ap (λ (u : Use). u.is_free) c.free_with.ensures.here) ∙ sym (ap told_state state)

pub returns-in_default : goal.returns-in_default
returns-in_default c =
    let t = c.args.blocks.now in
    let b = c.args.block in
    let has = c.requires in
    let used = used_state (block_at t b).state (λ e. c.in_default.not-Free (c.state.ensures ∙ e)) (λ n e. c.in_default.not-Retired n (c.state.ensures ∙ e)) in
    let free : (use_in t b).is_free ≡ false = ap (λ (u : Use). u.is_free) (use_here t b has) ∙ used.0 in
    let kept : (use_in t b).is_kept ≡ false = ap (λ (u : Use). u.is_kept) (use_here t b has) ∙ used.1 in
    record { told = told_restated t c.shut_with.new.blocks b c.args.wear false free kept c.shut_with.ensures.restated; state = c.shut_with.ensures.state ∙ sym used.2 }
