use Rattle.std.proofs.Common.{arith, ◌∙◌}
use Rattle.std.proofs.lemmas.Bool.Decides.{nat_tests}
use Rattle.nl_calls_bytes.proofs.counting.has_free.Goals as goal
use Rattle.nl_calls_bytes.proofs.Free.{none-counted, pool-given, pool-taken}
use Rattle.nl_calls_bytes.proofs.counting.has_free.Goals.{else-count-eq1, then-count-eq1}

pub returns-after-count-eq1-clause-same : goal.returns-after-count-eq1-clause-same
returns-after-count-eq1-clause-same c =
    pool-given c.in-Some.first c.args.nodes.now c.take_pool.new.self c.if-count-eq1.nodes c.give_pool.new.self c.in-Some.ensures.least c.in-Some.ensures.taken
    (elim c.if-count-eq1.branch [ then-count-eq1 w ↦ w.nodes-is | else-count-eq1 w ↦ w.nodes-is ∙ w.has_one-has.ensures.same ]) c.give_pool.ensures

pub returns-after-count-eq1-clause-free : goal.returns-after-count-eq1-clause-free
returns-after-count-eq1-clause-free c =
    let e = pool-taken c.in-Some.first c.args.nodes.now c.take_pool.new.self c.in-Some.ensures.least c.in-Some.ensures.taken in
    elim c.if-count-eq1.branch [
      | then-count-eq1 w ↦ grind (arith, nat_tests)
      | else-count-eq1 w ↦ w.has-is ∙ (w.has_one-has.ensures.free ∙ grind (arith, nat_tests))
    ]

pub returns-in-None-clause-free : goal.returns-in-None-clause-free
returns-in-None-clause-free c = let e = none-counted c.args.nodes.now.pool c.in-None.ensures.least in grind (arith, nat_tests)
