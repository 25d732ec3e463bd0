use Rattle.nl_spec_crashes.proofs.Along.{call_goes_along, effect_goes_along, ends_standing, opening_goes_along, opens_sound, sync_goes_along}
use Rattle.nl_spec_crashes.proofs.laws.crashes_follow.Goals as goal

pub returns-clause-opening : goal.returns-clause-opening
returns-clause-opening g c = opening_goes_along g.D.Counts

pub returns-clause-call : goal.returns-clause-call
returns-clause-call g c = call_goes_along g.D.Counts

pub returns-clause-effect : goal.returns-clause-effect
returns-clause-effect g c = effect_goes_along g.D.Counts

pub returns-clause-sync : goal.returns-clause-sync
returns-clause-sync g c = sync_goes_along g.D.Counts

pub returns-clause-ends : goal.returns-clause-ends
returns-clause-ends g c = ends_standing g.D.Counts

pub returns-clause-sound : goal.returns-clause-sound
returns-clause-sound g c = opens_sound g.D.Counts
