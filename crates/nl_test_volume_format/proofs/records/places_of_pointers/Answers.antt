use Rattle.std.proofs.Common.{refl}
use Rattle.nl_field.proofs.OnLiterals.{field_on_literals}
use Rattle.nl_test_volume_format.proofs.records.places_of_pointers.Goals as goal

pub returns-clause-spare : goal.returns-clause-spare
unfolding field_on_literals
returns-clause-spare c = refl

pub returns-clause-other : goal.returns-clause-other
unfolding field_on_literals
returns-clause-other c = refl

pub returns-clause-own : goal.returns-clause-own
unfolding field_on_literals
returns-clause-own c = refl

pub returns-clause-least : goal.returns-clause-least
unfolding field_on_literals
returns-clause-least c = refl

pub returns-clause-none : goal.returns-clause-none
unfolding field_on_literals
returns-clause-none c = refl
