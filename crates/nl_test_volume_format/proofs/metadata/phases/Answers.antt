use Rattle.std.proofs.Common.{refl}
use Rattle.nl_meta.proofs.OnLiterals.{meta_on_literals}
use Rattle.nl_test_volume_format.proofs.metadata.phases.Goals as goal

pub returns-clause-none : goal.returns-clause-none
unfolding meta_on_literals
returns-clause-none c = refl

pub returns-clause-numbers : goal.returns-clause-numbers
unfolding meta_on_literals
returns-clause-numbers c = refl

pub returns-clause-stamps : goal.returns-clause-stamps
unfolding meta_on_literals
returns-clause-stamps c = refl

pub returns-clause-inodes : goal.returns-clause-inodes
unfolding meta_on_literals
returns-clause-inodes c = refl

pub returns-clause-addresses : goal.returns-clause-addresses
unfolding meta_on_literals
returns-clause-addresses c = refl

pub returns-clause-entries : goal.returns-clause-entries
unfolding meta_on_literals
returns-clause-entries c = refl

pub returns-clause-behind : goal.returns-clause-behind
unfolding meta_on_literals
returns-clause-behind c = refl

pub returns-clause-two : goal.returns-clause-two
unfolding meta_on_literals
returns-clause-two c = refl

pub returns-clause-reached : goal.returns-clause-reached
unfolding meta_on_literals
returns-clause-reached c = refl

pub returns-clause-pointers : goal.returns-clause-pointers
unfolding meta_on_literals
returns-clause-pointers c = refl

pub returns-clause-names : goal.returns-clause-names
unfolding meta_on_literals
returns-clause-names c = refl

pub returns-clause-moved : goal.returns-clause-moved
unfolding meta_on_literals
returns-clause-moved c = refl

pub returns-clause-two_pages : goal.returns-clause-two_pages
unfolding meta_on_literals
returns-clause-two_pages c = refl
