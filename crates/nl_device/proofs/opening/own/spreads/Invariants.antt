use Rattle.std.proofs.Common.{◌/◌, take}
use Rattle.nl_device.specs.Opening.{Tabulates}
use Rattle.nl_device.specs.Spread.{by_key, spread_more}
use Rattle.nl_device.specs.declared.opening.own.Own.{Own}
use Rattle.nl_device.specs.declared.opening.spare.Spread.TheVariants.{Nowhere}
use Rattle.nl_device.proofs.opening.own.spreads.Given as goal

abbrev pub invariant-loop-own : goal.invariant-loop-own
invariant-loop-own l = Tabulates l.fn.count Nowhere (λ v. by_key (λ (o : Own). o.vaddr) (λ s o. spread_more s (o.page / l.fn.pages)) Nowhere v (take l.own-index l.fn.needed.items)) l.spreads.items
