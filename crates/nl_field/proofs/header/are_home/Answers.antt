use Rattle.std.proofs.Common.{◌≡◌, ◌∙◌, ◌+◌, drop, false, sym, refl, arith}
use Rattle.nl_field.specs.Journal.{are_home_addresses}
use Rattle.nl_field.proofs.JournalHeader.{home-step, home-end}
use Rattle.nl_field.proofs.header.are_home.Goals as goal

pub returns-then-not-is_next : goal.returns-then-not-is_next
returns-then-not-is_next c =
    let step : are_home_addresses (drop c.loop-i.i c.args.addresses.now) ≡ false = home-step c.args.addresses.now c.loop-i.i c.loop-i-test.true ∙ rw (sym c.is_next.ensures ∙ c.if-not-is_next.true) refl in
    sym (c.loop-i.invariant ∙ step)

pub loop-i-preserved : goal.loop-i-preserved
loop-i-preserved c =
    let step : are_home_addresses (drop c.loop-i.i c.args.addresses.now) ≡ are_home_addresses (drop (c.loop-i.i + 1) c.args.addresses.now) = home-step c.args.addresses.now c.loop-i.i c.loop-i-test.true ∙ rw (sym c.is_next.ensures ∙ c.if-not-is_next.false) refl in
    c.loop-i.invariant ∙ step

pub returns : goal.returns
returns c = sym (c.loop-i.invariant ∙ home-end c.args.addresses.now c.loop-i.i (omega arith))
