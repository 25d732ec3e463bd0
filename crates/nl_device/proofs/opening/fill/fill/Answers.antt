use Rattle.std.proofs.Common.{None, get_or, length, arith}
use Rattle.nl_device.specs.Opening.{with_offers, with_pick}
use Rattle.nl_device.specs.declared.opening.own.Own.{Own}
use Rattle.nl_device.proofs.Keys.{keys_all}
use Rattle.nl_device.proofs.opening.fill.fill.Goals as goal

pub returns : goal.returns
unfolding with_offers
returns c = keys_all (λ (o : Own). o.vaddr) (with_pick c.args.pages c.args.spare) (λ v. get_or c.args.picks.now.items v None) (length c.args.picks.now.items) None c.args.needed.now.items c.loop-own.own-index c.loop-own.picks.items (omega arith) c.loop-own.invariant
