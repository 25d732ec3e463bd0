use Rattle.std.proofs.Common.{sym, ◌∙◌, ap, is_some}
use Rattle.nl_pseg.proofs.state.State.place_of.Goals as goal

pub returns-then-held-at-clause-within : goal.returns-then-held-at-clause-within
returns-then-held-at-clause-within c = (c.requires.places.each c.resolve-place.result c.in-Some.held (sym c.live_on.ensures ∙ c.in-Some.is)).within

pub returns-then-held-at-clause-held : goal.returns-then-held-at-clause-held
returns-then-held-at-clause-held c = ap is_some (sym c.live_on.ensures ∙ c.in-Some.is)
