use Rattle.std.proofs.Common.{◌≡◌, false, refl, sym, ◌∙◌, ap}
use Rattle.nl_blocks.specs.declared.states.BlockState.{BlockState}
use Rattle.nl_blocks.specs.declared.states.BlockState.TheVariants as the
use Rattle.nl_blocks.specs.Used.{is_active_state}
use Rattle.nl_blocks.proofs.UsedLaws.{used-full}
use Rattle.nl_pseg_blocks.proofs.Marking.{next_none, next_some}
use Rattle.nl_pseg_blocks.proofs.table.next_page.Goals as goal

other_state : (state : BlockState) → (state ≡ the.Active → ⊥) → is_active_state state ≡ false
other_state the.Free ne = refl
other_state the.Active ne = absurd (ne refl)
other_state the.Target ne = refl
other_state the.Sealed ne = refl
other_state the.Victim ne = refl
other_state (the.Retired names) ne = refl

pub returns-in-Active-clause-some : goal.returns-in-Active-clause-some
returns-in-Active-clause-some c =
    next_some is_active_state c.args.blocks.now c.count.ensures.table c.args.block c.requires (ap is_active_state (sym c.state.ensures ∙ c.in-Active.is)) c.next_page.result c.next_page.ensures.some

pub returns-in-Active-clause-none : goal.returns-in-Active-clause-none
returns-in-Active-clause-none c =
    next_none is_active_state c.args.blocks.now c.count.ensures.table c.args.block c.requires (ap is_active_state (sym c.state.ensures ∙ c.in-Active.is)) c.next_page.result c.next_page.ensures.full.0

pub returns-in_default : goal.returns-in_default
returns-in_default c =
    let t = c.args.blocks.now in
    record { some = tt; none = used-full is_active_state t c.args.block (ap is_active_state (sym c.state.ensures) ∙ other_state c.state.result (λ e. c.in_default.not-Active e)) }
