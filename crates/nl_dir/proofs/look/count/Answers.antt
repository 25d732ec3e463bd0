use Rattle.std.proofs.Common.{arith}
use Rattle.nl_dir.proofs.Records.{spelled-dir}
use Rattle.nl_dir.proofs.look.count.Goals as goal

pub overflow_cast-result : goal.overflow_cast-result
overflow_cast-result c = let few = (spelled-dir c.args.rec.now c.requires.dir c.requires.spelled).few in omega (arith, few)

pub returns-clause-few : goal.returns-clause-few
returns-clause-few c = (spelled-dir c.args.rec.now c.requires.dir c.requires.spelled).few
