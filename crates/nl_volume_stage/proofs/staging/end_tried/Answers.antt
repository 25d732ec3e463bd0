use Rattle.std.proofs.Common.{inl, inr, refl}
use Rattle.nl_volume_stage.proofs.staging.end_tried.Goals as goal

pub returns-then-core-ne0 : goal.returns-then-core-ne0
returns-then-core-ne0 g c = inr (refl, c.note_failure.ensures.noted, c.if-core-ne0.true, c.note_failure.ensures.lines)

pub returns : goal.returns
returns g c = inl (refl, refl, c.if-core-ne0.false)
