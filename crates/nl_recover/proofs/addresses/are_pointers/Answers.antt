use Rattle.std.proofs.Common.{◌∙◌, ◌||◌, not, Bool, length, sym, ap, arith}
use Rattle.nl_recover.proofs.PointerPages.{bad-page, none-more, page-answer, some-more, spelled-more}
use Rattle.nl_recover.proofs.addresses.are_pointers.Goals as goal

pub returns-in-None : goal.returns-in-None
returns-in-None c = sym (bad-page c.args.shape.now c.args.page.now.main c.loop-slot.slot c.loop-slot-test.true c.in-None.ensures)

pub loop-slot-preserved : goal.loop-slot-preserved
loop-slot-preserved c = record {
  spelled = spelled-more c.args.shape.now c.args.page.now.main c.loop-slot.slot c.loop-slot.invariant.spelled c.in-Some.ensures.0;
  none = λ e. none-more c.args.page.now.main c.loop-slot.slot c.loop-slot.some c.in-Some.pointer c.in-Some.ensures.1 c.loop-slot.invariant.none
      (ap (λ (b : Bool). c.loop-slot.some || not b) (sym c.is_none.ensures) ∙ sym c.either-some.ensures ∙ e);
  some = λ e. some-more c.args.page.now.main c.loop-slot.slot c.loop-slot.some c.in-Some.pointer c.in-Some.ensures.1 c.loop-slot.invariant.some
      (ap (λ (b : Bool). c.loop-slot.some || not b) (sym c.is_none.ensures) ∙ sym c.either-some.ensures ∙ e);
}

pub returns : goal.returns
returns c =
    let past = c.loop-slot-test.false in
    let most = c.loop-slot.auto.slot-end in
    page-answer c.args.shape.now c.args.page.now.main c.loop-slot.slot c.loop-slot.some (omega (arith, past, most)) (ap length (sym c.main-whole.ensures.bytes) ∙ c.main-whole.ensures.len) c.loop-slot.invariant.spelled c.loop-slot.invariant.none c.loop-slot.invariant.some
