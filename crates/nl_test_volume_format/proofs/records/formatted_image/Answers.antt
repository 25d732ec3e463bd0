use Rattle.std.proofs.Common.{refl}
use Rattle.nl_field.proofs.OnLiterals.{field_on_literals}
use Rattle.nl_test_volume_format.proofs.records.formatted_image.Goals as goal

pub returns-clause-super_page : goal.returns-clause-super_page
unfolding field_on_literals
returns-clause-super_page c = refl

pub returns-clause-root : goal.returns-clause-root
unfolding field_on_literals
returns-clause-root c = refl

pub returns-clause-unwritten : goal.returns-clause-unwritten
unfolding field_on_literals
returns-clause-unwritten c = refl

pub returns-clause-no_header : goal.returns-clause-no_header
unfolding field_on_literals
returns-clause-no_header c = refl

pub returns-clause-spares : goal.returns-clause-spares
unfolding field_on_literals
returns-clause-spares c = refl

pub returns-clause-data_spare : goal.returns-clause-data_spare
unfolding field_on_literals
returns-clause-data_spare c = refl
