use Rattle.std.proofs.Common.{refl}
use Rattle.nl_field.proofs.OnLiterals.{field_on_literals}
use Rattle.nl_test_volume_format.proofs.records.content_or_not.Goals as goal

pub returns-clause-hole : goal.returns-clause-hole
unfolding field_on_literals
returns-clause-hole c = refl

pub returns-clause-short : goal.returns-clause-short
unfolding field_on_literals
returns-clause-short c = refl

pub returns-clause-past : goal.returns-clause-past
unfolding field_on_literals
returns-clause-past c = refl

pub returns-clause-page : goal.returns-clause-page
unfolding field_on_literals
returns-clause-page c = refl

pub returns-clause-behind : goal.returns-clause-behind
unfolding field_on_literals
returns-clause-behind c = refl
