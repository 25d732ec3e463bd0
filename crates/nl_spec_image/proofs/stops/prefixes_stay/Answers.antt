use Rattle.nl_spec_image.proofs.StopsKept.{prefixes_stay}
use Rattle.nl_spec_image.proofs.stops.prefixes_stay.Goals as goal

pub returns : goal.returns
returns g c = prefixes_stay g.I.Stops.opens
