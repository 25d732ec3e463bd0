use Rattle.std.proofs.Common.{refl}
use Rattle.nl_field.proofs.OnLiterals.{field_on_literals}
use Rattle.nl_test_volume_format.proofs.records.others_back.Goals as goal

pub returns-clause-header : goal.returns-clause-header
unfolding field_on_literals
returns-clause-header c = refl

pub returns-clause-falling : goal.returns-clause-falling
unfolding field_on_literals
returns-clause-falling c = refl

pub returns-clause-commit : goal.returns-clause-commit
unfolding field_on_literals
returns-clause-commit c = refl

pub returns-clause-inode : goal.returns-clause-inode
unfolding field_on_literals
returns-clause-inode c = refl

pub returns-clause-unfilled : goal.returns-clause-unfilled
unfolding field_on_literals
returns-clause-unfilled c = refl

pub returns-clause-entry : goal.returns-clause-entry
unfolding field_on_literals
returns-clause-entry c = refl

pub returns-clause-dots : goal.returns-clause-dots
unfolding field_on_literals
returns-clause-dots c = refl

pub returns-clause-indirect : goal.returns-clause-indirect
unfolding field_on_literals
returns-clause-indirect c = refl

pub returns-clause-no_indirect : goal.returns-clause-no_indirect
unfolding field_on_literals
returns-clause-no_indirect c = refl
