use Rattle.std.proofs.Common.{refl, ◌∙◌}
use Rattle.nl_files.proofs.Keeping.{address-below, address-written, fault-not-ready, fetched-keeps, fetched-others, fetched-pointers, keeps-missed}
use Rattle.nl_files.proofs.pages.load.Goals as goal

pub fetch-requires-clause-within : goal.fetch-requires-clause-within
fetch-requires-clause-within g c =
    address-below (g.D.Counts.shape c.args.device.now) (g.D.Counts.map c.args.device.now) c.args.meta.now c.args.vaddr c.requires.count c.requires.page

pub fetch-requires-clause-stored : goal.fetch-requires-clause-stored
fetch-requires-clause-stored g c = λ gone none.
    address-written (g.D.Counts.shape c.args.device.now) (g.D.Counts.map c.args.device.now) c.args.meta.now c.args.vaddr c.requires.page gone
    (g.met.D.VirtualPages.stamps_of_map c.args.device.now c.args.vaddr ∙ none)

pub returns-in-Ready-clause-pages : goal.returns-in-Ready-clause-pages
returns-in-Ready-clause-pages g c =
    fetched-keeps g.D.Counts c.args.device.now c.args.meta.now c.fetch.new.meta c.args.vaddr c.requires.clean c.requires.at_hand (c.in-Ready.ensures.ready refl)

pub returns-in-Ready-clause-others : goal.returns-in-Ready-clause-others
returns-in-Ready-clause-others g c = fetched-others _ _ c.args.meta.now c.fetch.new.meta c.args.vaddr (c.in-Ready.ensures.ready refl)

pub returns-in-Ready-clause-ready : goal.returns-in-Ready-clause-ready
returns-in-Ready-clause-ready g c = λ e.
    fetched-pointers g.D.Counts c.args.device.now c.args.meta.now c.fetch.new.meta c.args.vaddr c.requires.at_hand c.requires.page (c.in-Ready.ensures.ready refl)

pub returns-in-Fault-clause-pages : goal.returns-in-Fault-clause-pages
returns-in-Fault-clause-pages g c =
    let none = c.in-Fault.ensures.refused fault-not-ready in
    keeps-missed g.D.Counts c.args.device.now c.args.meta.now c.fetch.new.meta c.args.vaddr c.requires.clean c.requires.at_hand none.0 none.1
