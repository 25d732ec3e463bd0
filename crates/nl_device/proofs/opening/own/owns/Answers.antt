use Rattle.std.proofs.Common.{◌<◌, ◌++◌, ◌∙◌, [], sym, ap, subst, arith}
use Rattle.std.specs.Prelude.{All}
use Rattle.std.specs.List.{cons_option}
use Rattle.std.proofs.lemmas.List.{take_all}
use Rattle.nl_device.specs.Opening.{owns_of}
use Rattle.nl_device.specs.declared.opening.own.Own.{Own}
use Rattle.nl_device.proofs.Owns.{owns_below, owns_more}
use Rattle.nl_device.proofs.opening.own.owns.Goals as goal

pub loop-at-preserved : goal.loop-at-preserved
loop-at-preserved c =
    let shape = c.args.shape.now in
    let seen = c.args.tables.now.seen in
    c.in_ok-put.ensures ∙ ((λ i. c.loop-at.invariant i ++ cons_option (c.own_of.ensures i) []) ∙ sym (owns_more shape seen c.loop-at.at c.get.result.now c.get.ensures))

pub returns-clause-items : goal.returns-clause-items
returns-clause-items c = c.loop-at.invariant ∙ ap (owns_of c.args.shape.now) (take_all c.loop-at.at c.args.tables.now.seen (omega arith))

pub returns-clause-below : goal.returns-clause-below
returns-clause-below c =
    let e = c.loop-at.invariant ∙ ap (owns_of c.args.shape.now) (take_all c.loop-at.at c.args.tables.now.seen (omega arith)) in
    subst (All (λ (o : Own). o.vaddr < c.args.shape.now.vaddrs)) (sym e) (owns_below c.args.shape.now c.args.tables.now.seen)
