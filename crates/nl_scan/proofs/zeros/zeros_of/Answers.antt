use Rattle.std.proofs.Common.{inl, inr, sym, ◌∙◌, arith}
use Rattle.nl_scan.proofs.ZerosAtEnd.{zero_before, ends_there}
use Rattle.nl_scan.proofs.zeros.zeros_of.Goals as goal
use Rattle.nl_scan.proofs.zeros.zeros_of.Goals.{then-loop-end-test+else-bytes-end-eq0, else-loop-end-test}

pub loop-end-preserved : goal.loop-end-preserved
loop-end-preserved c =
    record {
      within = omega arith;
      same = zero_before c.args.bytes.now c.loop-end.end c.loop-end-test.true c.loop-end.invariant.within c.if-bytes-end-eq0.true ∙ c.loop-end.invariant.same;
    }

pub returns-clause-value : goal.returns-clause-value
returns-clause-value c =
    sym (ends_there c.args.bytes.now c.loop-end.end c.loop-end.invariant.within
    (elim c.loop-end-test.branch [ then-loop-end-test+else-bytes-end-eq0 w ↦ inr w.if-bytes-end-eq0.false | else-loop-end-test w ↦ inl (omega arith) ]))
    ∙ c.loop-end.invariant.same
