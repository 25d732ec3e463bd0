use Rattle.std.proofs.Common.{◌+◌, ◌/◌, List, get_or, set, take, sym, subst, arith}
use Rattle.nl_device.specs.Opening.{Tabulates, spread_in}
use Rattle.nl_device.specs.Spread.{by_key, spread_more}
use Rattle.nl_device.specs.declared.opening.own.Own.{Own}
use Rattle.nl_device.specs.declared.opening.spare.Spread.{Spread}
use Rattle.nl_device.specs.declared.opening.spare.Spread.TheVariants.{Nowhere}
use Rattle.nl_device.proofs.Keys.{keys_all, keys_more}
use Rattle.nl_device.proofs.opening.own.spreads.Goals as goal

pub returns : goal.returns
unfolding spread_in
returns c = keys_all (λ (o : Own). o.vaddr) (λ s o. spread_more s (o.page / c.args.pages)) (λ v. Nowhere) c.args.count Nowhere c.args.needed.now.items c.loop-own.own-index c.loop-own.spreads.items (omega arith) c.loop-own.invariant

pub loop-own-preserved : goal.loop-own-preserved
loop-own-preserved c =
    let needed = c.args.needed.now.items in
    let index = c.loop-own.own-index in
    let spreads = c.loop-own.spreads.items in
    let none : Own = record { page = 0; vaddr = 0; stamp = 0 } in
    let next : List Spread → Type 0 = λ ys. Tabulates c.args.count Nowhere (λ v. by_key (λ (o : Own). o.vaddr) (λ s o. spread_more s (o.page / c.args.pages)) Nowhere v (take (index + 1) needed)) ys in
    let noted : Own → List Spread = λ o. set spreads o.vaddr (spread_more (get_or spreads o.vaddr Nowhere) (o.page / c.args.pages)) in
    subst next (sym c.note.ensures)
    (subst (λ (l : List Own). next (noted (get_or l index none))) (sym c.deref-own-items.ensures.value)
    (keys_more (λ (o : Own). o.vaddr) (λ s o. spread_more s (o.page / c.args.pages)) (λ v. Nowhere) c.args.count Nowhere needed index none spreads (omega arith) c.loop-own.invariant
    (c.requires.below index none (omega arith))))
