use Rattle.std.proofs.Common.{arith}
use Rattle.nl_dir.proofs.Records.{spelled-dir}
use Rattle.nl_recover.proofs.entries.place_count.Goals as goal

pub overflow_cast-rec : goal.overflow_cast-rec
overflow_cast-rec c = let few = (spelled-dir c.args.rec.now c.requires.dir c.requires.spelled).few in omega (arith, few)

pub overflow_mul-result : goal.overflow_mul-result
overflow_mul-result c = let few = (spelled-dir c.args.rec.now c.requires.dir c.requires.spelled).few in let e = c.div_ceil.ensures in omega (arith, few, e)

pub returns-clause-few : goal.returns-clause-few
returns-clause-few c = let few = (spelled-dir c.args.rec.now c.requires.dir c.requires.spelled).few in let e = c.div_ceil.ensures in omega (arith, few, e)
