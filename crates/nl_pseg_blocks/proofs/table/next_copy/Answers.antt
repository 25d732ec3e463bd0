use Rattle.std.proofs.Common.{◌≡◌, false, refl, sym, ◌∙◌, ap}
use Rattle.nl_blocks.specs.declared.states.BlockState.{BlockState}
use Rattle.nl_blocks.specs.declared.states.BlockState.TheVariants as the
use Rattle.nl_blocks.specs.Used.{is_target_state}
use Rattle.nl_blocks.proofs.UsedLaws.{used-full}
use Rattle.nl_pseg_blocks.proofs.Marking.{next_none, next_some}
use Rattle.nl_pseg_blocks.proofs.table.next_copy.Goals as goal

other_state : (state : BlockState) → (state ≡ the.Target → ⊥) → is_target_state state ≡ false
other_state the.Free ne = refl
other_state the.Active ne = refl
other_state the.Target ne = absurd (ne refl)
other_state the.Sealed ne = refl
other_state the.Victim ne = refl
other_state (the.Retired names) ne = refl

pub returns-in-Target-clause-some : goal.returns-in-Target-clause-some
returns-in-Target-clause-some c =
    next_some is_target_state c.args.blocks.now c.count.ensures.table c.args.block c.requires (ap is_target_state (sym c.state.ensures ∙ c.in-Target.is)) c.next_page.result c.next_page.ensures.some

pub returns-in-Target-clause-none : goal.returns-in-Target-clause-none
returns-in-Target-clause-none c =
    next_none is_target_state c.args.blocks.now c.count.ensures.table c.args.block c.requires (ap is_target_state (sym c.state.ensures ∙ c.in-Target.is)) c.next_page.result c.next_page.ensures.full.0

pub returns-in_default : goal.returns-in_default
returns-in_default c =
    let t = c.args.blocks.now in
    record { some = tt; none = used-full is_target_state t c.args.block (ap is_target_state (sym c.state.ensures) ∙ other_state c.state.result (λ e. c.in_default.not-Target e)) }
