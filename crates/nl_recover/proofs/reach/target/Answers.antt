use Rattle.std.proofs.Common.{◌∙◌, Some, None, sym}
use Rattle.nl_meta.specs.Pages.{page_of}
use Rattle.nl_recover.proofs.PlacesThere.{entry-here, none-here}
use Rattle.nl_recover.proofs.reach.target.Goals as goal

pub returns-then-not-resident : goal.returns-then-not-resident
returns-then-not-resident c =
    none-here (page_of c.args.meta.now) c.args.dir c.args.rec.now c.args.place c.address_at-address.result c.address_at-address.ensures (sym c.resident.ensures ∙ c.if-not-resident.true)

pub returns-in-Some : goal.returns-in-Some
returns-in-Some c =
    entry-here (page_of c.args.meta.now) c.args.dir c.args.rec.now c.args.place c.address_at-address.result c.address_at-address.ensures c.page.result.now.main (Some c.in-Some.entry) c.page.ensures c.if-rec-place.false c.in-Some.ensures.value

pub returns-in-None : goal.returns-in-None
returns-in-None c =
    entry-here (page_of c.args.meta.now) c.args.dir c.args.rec.now c.args.place c.address_at-address.result c.address_at-address.ensures c.page.result.now.main None c.page.ensures c.if-rec-place.false c.in-None.ensures.value
