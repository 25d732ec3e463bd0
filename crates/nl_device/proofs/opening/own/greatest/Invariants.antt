use Rattle.std.proofs.Common.{take, max}
use Rattle.nl_device.specs.Opening.{Tabulates}
use Rattle.nl_device.specs.Spread.{by_key}
use Rattle.nl_device.specs.declared.opening.own.Own.{Own}
use Rattle.nl_device.proofs.opening.own.greatest.Given as goal

abbrev pub invariant-loop-own : goal.invariant-loop-own
invariant-loop-own l = Tabulates l.fn.count 0 (λ v. by_key (λ (o : Own). o.vaddr) (λ best o. max best o.stamp) 0 v (take l.own-index l.fn.owns.items)) l.greatest.items
