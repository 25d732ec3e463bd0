use Rattle.std.proofs.Common.{◌∙◌, ℕ, inl, inr, sym, subst}
use Rattle.nl_core_open.proofs.OnlyRead.{then_read, was_read}
use Rattle.nl_device.specs.Medium.{medium_of}
use Rattle.nl_field.specs.CrashStates.{Rose}
use Rattle.nl_map.proofs.drawing.draw_formed.Goals as goal

pub returns-in-Ready-clause-medium : goal.returns-in-Ready-clause-medium
returns-in-Ready-clause-medium g c =
    let N = g.M.Nand in
    let s = medium_of c.in-Ready.device in
    let middle = c.judge-judged.result.1 in
    then_read N c.args.media middle c.draw_judged.result.1
    (then_read N c.args.media s middle (was_read N c.args.media s c.in-Ready.ensures.kept) c.judge-judged.ensures.medium) c.draw_judged.ensures.medium

pub returns-in-Ready-clause-fault : goal.returns-in-Ready-clause-fault
returns-in-Ready-clause-fault g c = λ is.
    let N = g.M.Nand in
    let counts = c.in-Ready.ensures.counts.1 in
    elim (c.draw_judged.ensures.fault is) [
      | inl f ↦ subst (λ (n : ℕ × ℕ). Rose n.0 n.1) (λ i. (counts i, sym f.1 i)) (c.judge-judged.ensures.fault f.0)
      | inr f ↦ subst (λ (n : ℕ). Rose n (N.read_faults c.draw_judged.result.1)) (c.judge-judged.ensures.no_fault f.0 ∙ counts) f.1
    ]

pub returns-in-Ready-clause-no_fault : goal.returns-in-Ready-clause-no_fault
returns-in-Ready-clause-no_fault g c = λ no.
    let e = c.draw_judged.ensures.no_fault no in
    e.1 ∙ c.judge-judged.ensures.no_fault e.0 ∙ c.in-Ready.ensures.counts.1
