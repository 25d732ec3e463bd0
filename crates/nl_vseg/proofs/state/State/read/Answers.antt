use Rattle.nl_vseg.specs.Seen.{seen}
use Rattle.nl_vseg.proofs.Places.{named_by}
use Rattle.nl_vseg.proofs.ReadPlaces.{within_medium, reads_value}
use Rattle.nl_vseg.proofs.Views.{fits_of}
use Rattle.nl_vseg.proofs.state.State.read.Goals as goal

pub read_page-requires-clause-within : goal.read_page-requires-clause-within
read_page-requires-clause-within g c =
    let named = named_by c.args.self.now.places.items c.args.vaddr c.index.result.now c.in-Some.place c.requires.vaddr c.index.ensures c.in-Some.is in
    within_medium (g.M.Nand.geometry c.args.media.now) (seen c.args.self.now) (fits_of c.requires.formed.segment.some c.requires.fits) c.in-Some.place.page (c.requires.formed.segment.places_are.each c.args.vaddr c.in-Some.place named).within

pub read_page-requires-clause-spelled : goal.read_page-requires-clause-spelled
read_page-requires-clause-spelled g c =
    let named = named_by c.args.self.now.places.items c.args.vaddr c.index.result.now c.in-Some.place c.requires.vaddr c.index.ensures c.in-Some.is in
    (c.requires.formed.segment.places_are.each c.args.vaddr c.in-Some.place named).spelled

pub returns-in-Some-clause-value : goal.returns-in-Some-clause-value
returns-in-Some-clause-value g c t =
    let named = named_by c.args.self.now.places.items c.args.vaddr c.index.result.now c.in-Some.place c.requires.vaddr c.index.ensures c.in-Some.is in
    reads_value c.args.self.now.places.items (g.M.Nand.contents c.args.media.now) c.args.vaddr c.in-Some.place c.read_page.new.buf c.read_page.result named ((c.requires.segment t).holds c.args.vaddr c.in-Some.place named)
    (c.read_page.ensures.answer t) c.read_page.ensures.stamp c.read_page.ensures.lost
