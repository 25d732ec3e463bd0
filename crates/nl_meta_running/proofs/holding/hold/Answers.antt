use Rattle.std.proofs.Common.{◌≡◌, refl, ◌∙◌}
use Rattle.nl_iface.specs.Stored.{Value}
use Rattle.nl_inode.specs.declared.answer.Fetch.TheVariants as fetch
use Rattle.nl_meta.proofs.Lists.{map_none}
use Rattle.nl_meta_running.proofs.Holds.{fetched-holds, fetched-runs, missed-runs, within-volume, written-or-nodes}
use Rattle.nl_meta_running.proofs.holding.hold.Goals as goal

pub fetch-requires-clause-within : goal.fetch-requires-clause-within
fetch-requires-clause-within g c =
    within-volume g.D.Counts c.args.device.now c.args.meta.now c.requires.runs c.args.vaddr c.requires.needed (g.met.D.VirtualPages.numbers c.args.device.now c.requires.formed)

pub fetch-requires-clause-stored : goal.fetch-requires-clause-stored
fetch-requires-clause-stored g c gone unwritten =
    written-or-nodes g.D.Counts c.args.device.now c.args.meta.now c.requires.runs c.args.vaddr c.requires.needed gone
    (map_none (λ (x : Value). x.0) _ (g.met.D.VirtualPages.stamps_of_map c.args.device.now c.args.vaddr ∙ unwritten))

pub returns-in-Ready-clause-kept : goal.returns-in-Ready-clause-kept
returns-in-Ready-clause-kept g c =
    fetched-runs g.D.Counts c.args.device.now c.args.meta.now c.requires.runs c.args.vaddr c.requires.needed c.fetch.new.device c.fetch.new.meta c.in-Ready.ensures.device (c.in-Ready.ensures.ready refl)

pub returns-in-Ready-clause-there : goal.returns-in-Ready-clause-there
returns-in-Ready-clause-there g c = fetched-holds _ _ c.args.vaddr c.args.meta.now c.fetch.new.meta (c.in-Ready.ensures.ready refl)

pub returns-in-Fault-clause-kept : goal.returns-in-Fault-clause-kept
returns-in-Fault-clause-kept g c =
    missed-runs g.D.Counts c.args.device.now c.args.meta.now c.requires.runs c.args.vaddr c.requires.needed c.fetch.new.device c.fetch.new.meta c.in-Fault.ensures.device
    (c.in-Fault.ensures.refused fault-ready)
  where
    fault-ready : fetch.Fault ≡ fetch.Ready → ⊥
    fault-ready e = cc
