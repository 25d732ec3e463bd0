use Rattle.std.proofs.Common.{◌<◌, ◌++◌, ◌∷◌, ◌∙◌, [], get_or, length, sym, ap, subst, arith}
use Rattle.std.specs.Prelude.{All, filter}
use Rattle.std.proofs.lemmas.List.{take_all}
use Rattle.std.proofs.lemmas.List.Elements.{All-filter, filter_more}
use Rattle.nl_device.specs.Opening.{is_newest}
use Rattle.nl_device.specs.declared.opening.own.Own.{Own}
use Rattle.nl_device.proofs.opening.own.needed.Goals as goal

pub loop-own-preserved : goal.loop-own-preserved
loop-own-preserved c =
    let owns = c.args.owns.now.items in
    let index = c.loop-own.own-index in
    let test = is_newest c.args.greatest.now.items in
    let none : Own = record { page = 0; vaddr = 0; stamp = 0 } in
    c.in_ok-add_newest.ensures
    ∙ ((λ i. c.loop-own.invariant i ++ filter test (get_or (c.deref-own-items.ensures.value i) index none ∷ []))
    ∙ sym (filter_more test owns index none (omega arith)))

pub returns-clause-items : goal.returns-clause-items
returns-clause-items c = c.loop-own.invariant ∙ ap (filter (is_newest c.args.greatest.now.items)) (take_all c.loop-own.own-index c.args.owns.now.items (omega arith))

pub returns-clause-below : goal.returns-clause-below
returns-clause-below c =
    let test = is_newest c.args.greatest.now.items in
    let is_below : Own → Type 0 = λ o. o.vaddr < length c.args.greatest.now.items in
    let e = c.loop-own.invariant ∙ ap (filter test) (take_all c.loop-own.own-index c.args.owns.now.items (omega arith)) in
    subst (All is_below) (sym e) (All-filter test is_below c.args.owns.now.items c.requires)
