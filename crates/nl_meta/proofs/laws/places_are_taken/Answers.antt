use Rattle.nl_meta.proofs.FindingProofs.{places_are_taken}
use Rattle.nl_meta.proofs.laws.places_are_taken.Goals as goal

pub returns : goal.returns
returns c = places_are_taken
