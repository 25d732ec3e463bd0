use Rattle.std.proofs.Common.{refl}
use Rattle.nl_field.proofs.OnLiterals.{field_on_literals}
use Rattle.nl_test_volume_format.proofs.records.scanned.Goals as goal

pub returns-clause-next : goal.returns-clause-next
unfolding field_on_literals
returns-clause-next c = refl

pub returns-clause-version : goal.returns-clause-version
unfolding field_on_literals
returns-clause-version c = refl

pub returns-clause-junk : goal.returns-clause-junk
unfolding field_on_literals
returns-clause-junk c = refl

pub returns-clause-least : goal.returns-clause-least
unfolding field_on_literals
returns-clause-least c = refl

pub returns-clause-greatest : goal.returns-clause-greatest
unfolding field_on_literals
returns-clause-greatest c = refl

pub returns-clause-behind : goal.returns-clause-behind
unfolding field_on_literals
returns-clause-behind c = refl

pub returns-clause-all_zero : goal.returns-clause-all_zero
unfolding field_on_literals
returns-clause-all_zero c = refl

pub returns-clause-first : goal.returns-clause-first
unfolding field_on_literals
returns-clause-first c = refl

pub returns-clause-differs : goal.returns-clause-differs
unfolding field_on_literals
returns-clause-differs c = refl
