use Rattle.std.proofs.Common.{ap, arith, sym, ◌∙◌}
use Rattle.std.proofs.lemmas.List.{drop_all}
use Rattle.nl_meta.specs.Walk.{name_fault}
use Rattle.nl_recover_pointers.specs.Held.{held_of}
use Rattle.nl_recover_pointers.proofs.Placing.{name_none, name_owned, name_taken, owns_test}
use Rattle.nl_recover_pointers.proofs.Rests.{drop_got}
use Rattle.nl_recover_pointers.proofs.names.name_fault.Goals as goal

pub returns-then-not-owns : goal.returns-then-not-owns
returns-then-not-owns c =
    let shape = c.args.shape.now in
    let seen = c.args.scan.now.seen in
    let one = held_of c.get.result.now in
    let owns = sym (owns_test shape seen c.in_ok-places.places one.pointer c.in_ok-places.ensures) ∙ sym c.owns.ensures in
    sym (sym c.held.invariant ∙ ap (name_fault shape seen) (drop_got c.args.held.now c.held.at one c.get.ensures) ∙ name_taken shape seen one _ (owns ∙ c.if-not-owns.true))

pub held-preserved : goal.held-preserved
held-preserved c =
    let shape = c.args.shape.now in
    let seen = c.args.scan.now.seen in
    let one = held_of c.get.result.now in
    let owns = sym (owns_test shape seen c.in_ok-places.places one.pointer c.in_ok-places.ensures) ∙ sym c.owns.ensures in
    sym (ap (name_fault shape seen) (drop_got c.args.held.now c.held.at one c.get.ensures) ∙ name_owned shape seen one _ (owns ∙ c.if-not-owns.false)) ∙ c.held.invariant

pub returns : goal.returns
returns c =
    let shape = c.args.shape.now in
    let seen = c.args.scan.now.seen in
    sym (name_none shape seen) ∙ ap (name_fault shape seen) (sym (drop_all c.held.at c.args.held.now (omega arith))) ∙ c.held.invariant
