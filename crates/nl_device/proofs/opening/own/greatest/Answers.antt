use Rattle.std.proofs.Common.{ℕ, ◌+◌, List, get_or, max, set, take, sym, subst, arith}
use Rattle.nl_device.specs.Opening.{Tabulates, greatest_of}
use Rattle.nl_device.specs.Spread.{by_key}
use Rattle.nl_device.specs.declared.opening.own.Own.{Own}
use Rattle.nl_device.proofs.Keys.{keys_all, keys_more}
use Rattle.nl_device.proofs.opening.own.greatest.Goals as goal

pub loop-own-preserved : goal.loop-own-preserved
loop-own-preserved c =
    let owns = c.args.owns.now.items in
    let index = c.loop-own.own-index in
    let greatest = c.loop-own.greatest.items in
    let none : Own = record { page = 0; vaddr = 0; stamp = 0 } in
    let next : List ℕ → Type 0 = λ ys. Tabulates c.args.count 0 (λ v. by_key (λ (o : Own). o.vaddr) (λ (best : ℕ) o. max best o.stamp) 0 v (take (index + 1) owns)) ys in
    let raised : Own → List ℕ = λ o. set greatest o.vaddr (max (get_or greatest o.vaddr 0) o.stamp) in
    subst next (sym c.raise.ensures)
    (subst (λ (l : List Own). next (raised (get_or l index none))) (sym c.deref-own-items.ensures.value)
    (keys_more (λ (o : Own). o.vaddr) (λ (best : ℕ) o. max best o.stamp) (λ v. 0) c.args.count 0 owns index none greatest (omega arith) c.loop-own.invariant (c.requires index none (omega arith))))

pub returns : goal.returns
unfolding greatest_of
returns c = keys_all (λ (o : Own). o.vaddr) (λ (best : ℕ) o. max best o.stamp) (λ v. 0) c.args.count 0 c.args.owns.now.items c.loop-own.own-index c.loop-own.greatest.items (omega arith) c.loop-own.invariant
