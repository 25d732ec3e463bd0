use Rattle.std.proofs.Common.{◌∙◌, refl, sym}
use Rattle.nl_meta.specs.Pages.{page_of}
use Rattle.nl_recover.specs.Entries.{named_by}
use Rattle.nl_recover.proofs.EntryFacts.{place-bad, place-good, places-none}
use Rattle.nl_recover.proofs.PlacesThere.{place-absent}
use Rattle.nl_recover.proofs.entries.place_fault.Goals as goal

pub returns-then-not-resident-clause-passes : goal.returns-then-not-resident-clause-passes
returns-then-not-resident-clause-passes c =
    places-none c.args.shape.now (page_of c.args.meta.now) (named_by c.args.nodes.now.items c.args.names.now.items) _ _
    (place-absent (page_of c.args.meta.now) c.args.ino c.args.rec.now c.args.place c.address_at-address.result c.address_at-address.ensures (sym c.resident.ensures ∙ c.if-not-resident.true)) refl

pub returns-in-Ok-true-clause-passes : goal.returns-in-Ok-true-clause-passes
returns-in-Ok-true-clause-passes c =
    place-bad c.args.shape.now (page_of c.args.meta.now) c.args.ino c.args.rec.now c.args.place c.address_at-address.result c.page.result.now.main
    (named_by c.args.nodes.now.items c.args.names.now.items) (named_by c.slot_fault.new.nodes.items c.slot_fault.new.names.items) c.address_at-address.ensures c.page.ensures
    (rw c.in-Ok-true.field-0-test at c.in-Ok-true.ensures.slot)

pub returns-in-Ok-false-clause-passes : goal.returns-in-Ok-false-clause-passes
returns-in-Ok-false-clause-passes c =
    place-good c.args.shape.now (page_of c.args.meta.now) c.args.ino c.args.rec.now c.args.place c.address_at-address.result c.page.result.now.main
    (named_by c.args.nodes.now.items c.args.names.now.items) (named_by c.slot_fault.new.nodes.items c.slot_fault.new.names.items) c.address_at-address.ensures c.page.ensures
    (rw c.in-Ok-false.field-0-test at c.in-Ok-false.ensures.slot)
