use Rattle.std.proofs.Common.{◌≡◌, subst}
use Rattle.std.specs.Prelude.{IfSome, Option}
use Rattle.nl_field.specs.Numbers.{shape_for}
use Rattle.nl_field.specs.declared.shape.Shape.{Shape}
use Rattle.nl_test_core_still.proofs.Firm.{least}
use Rattle.nl_test_core_still.proofs.opening.open_least.Goals as goal

pub open-requires-clause-volume : goal.open-requires-clause-volume
open-requires-clause-volume c = least c.in-Some.shape (subst (λ (o : Option Shape). IfSome o (λ (s : Shape). s ≡ shape_for 32 32)) c.in-Some.is c.shape_of.ensures.numbers)
