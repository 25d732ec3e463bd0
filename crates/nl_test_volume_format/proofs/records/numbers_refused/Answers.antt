use Rattle.std.proofs.Common.{refl}
use Rattle.nl_field.proofs.OnLiterals.{field_on_literals}
use Rattle.nl_test_volume_format.proofs.records.numbers_refused.Goals as goal

pub returns-clause-few_blocks : goal.returns-clause-few_blocks
unfolding field_on_literals
returns-clause-few_blocks c = refl

pub returns-clause-many_blocks : goal.returns-clause-many_blocks
unfolding field_on_literals
returns-clause-many_blocks c = refl

pub returns-clause-few_pages : goal.returns-clause-few_pages
unfolding field_on_literals
returns-clause-few_pages c = refl

pub returns-clause-many_pages : goal.returns-clause-many_pages
unfolding field_on_literals
returns-clause-many_pages c = refl

pub returns-clause-too_large : goal.returns-clause-too_large
unfolding field_on_literals
returns-clause-too_large c = refl

pub returns-clause-largest : goal.returns-clause-largest
unfolding field_on_literals
returns-clause-largest c = refl

pub returns-clause-smallest : goal.returns-clause-smallest
unfolding field_on_literals
returns-clause-smallest c = refl
