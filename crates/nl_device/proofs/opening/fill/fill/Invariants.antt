use Rattle.std.proofs.Common.{None, get_or, length, take}
use Rattle.nl_device.specs.Opening.{Tabulates, with_pick}
use Rattle.nl_device.specs.Spread.{by_key}
use Rattle.nl_device.specs.declared.opening.own.Own.{Own}
use Rattle.nl_device.proofs.opening.fill.fill.Given as goal

abbrev pub invariant-loop-own : goal.invariant-loop-own
invariant-loop-own l = Tabulates (length l.initial.picks.items) None (λ v. by_key (λ (o : Own). o.vaddr) (with_pick l.fn.pages l.fn.spare) (get_or l.initial.picks.items v None) v (take l.own-index l.fn.needed.items)) l.picks.items
