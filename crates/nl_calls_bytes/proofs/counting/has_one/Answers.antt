use Rattle.std.proofs.Common.{arith, refl}
use Rattle.std.proofs.lemmas.Bool.Decides.{nat_tests}
use Rattle.nl_calls_bytes.proofs.counting.has_one.Goals as goal
use Rattle.nl_calls_bytes.proofs.Free.{none-counted, pool-given, pool-taken}

pub returns-in-Some-clause-same : goal.returns-in-Some-clause-same
returns-in-Some-clause-same c = pool-given c.in-Some.first c.args.nodes.now c.take_pool.new.self c.take_pool.new.self c.give_pool.new.self c.in-Some.ensures.least c.in-Some.ensures.taken refl c.give_pool.ensures

pub returns-in-Some-clause-free : goal.returns-in-Some-clause-free
returns-in-Some-clause-free c = let e = pool-taken c.in-Some.first c.args.nodes.now c.take_pool.new.self c.in-Some.ensures.least c.in-Some.ensures.taken in grind (arith, nat_tests)

pub returns-in-None-clause-free : goal.returns-in-None-clause-free
returns-in-None-clause-free c = let e = none-counted c.args.nodes.now.pool c.in-None.ensures.least in grind (arith, nat_tests)
