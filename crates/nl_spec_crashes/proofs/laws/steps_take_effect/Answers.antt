use Rattle.nl_spec_crashes.proofs.Effects.{step_takes_effect}
use Rattle.nl_spec_crashes.proofs.laws.steps_take_effect.Goals as goal

pub returns : goal.returns
returns g c = step_takes_effect g.D.Counts
