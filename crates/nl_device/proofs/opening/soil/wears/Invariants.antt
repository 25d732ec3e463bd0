use Rattle.std.proofs.Common.{◌/◌, max, take}
use Rattle.nl_field.specs.SpareRecord.{wear_of}
use Rattle.nl_field.specs.declared.seen.Seen.{Seen}
use Rattle.nl_device.specs.Opening.{Tabulates}
use Rattle.nl_device.specs.Spread.{by_key}
use Rattle.nl_device.proofs.opening.soil.wears.Given as goal

abbrev pub invariant-loop-at : goal.invariant-loop-at
invariant-loop-at l = Tabulates l.fn.count 0 (λ block. by_key (λ (s : Seen). s.page / l.fn.pages) (λ worst s. max worst (wear_of s.rec)) 0 block (take l.at l.fn.tables.seen)) l.wears.items
