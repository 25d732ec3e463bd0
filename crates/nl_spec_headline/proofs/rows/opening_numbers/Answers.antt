use Rattle.std.proofs.Common.{arith}
use Rattle.nl_spec_headline.proofs.rows.opening_numbers.Goals as goal

pub returns-clause-spelled : goal.returns-clause-spelled
returns-clause-spelled c = record { count = omega arith; next_stamp = (omega arith, omega arith) }

pub returns-clause-many_calls : goal.returns-clause-many_calls
returns-clause-many_calls c begins = let k = begins.count in omega (arith, k)

pub returns-clause-no_stamp : goal.returns-clause-no_stamp
returns-clause-no_stamp c begins = let k = begins.next_stamp.0 in omega (arith, k)

pub returns-clause-great_stamp : goal.returns-clause-great_stamp
returns-clause-great_stamp c begins = let k = begins.next_stamp.1 in omega (arith, k)
