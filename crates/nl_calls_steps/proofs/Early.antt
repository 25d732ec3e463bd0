-- How parts of a call end early, one after the other.
use Rattle.std.proofs.Common.{inl, inr, ◌≤◌, Option, Some, None, arith}
use Rattle.nl_iface.specs.declared.counts.Counts.{Ghosts}
use Rattle.nl_meta_running.specs.Reading.{ReadsExplainStop}
use Rattle.nl_meta_running.specs.declared.answer.Stop.{Stop}
use Rattle.nl_meta_running.specs.declared.answer.Stop.TheVariants as stop
use Rattle.nl_core.specs.declared.state.Core.{Core}
use Rattle.nl_calls_steps.specs.Steps.{ReadsOn}
use Rattle.nl_calls_steps.specs.Answers.{EndsEarly}

-- a read
pub read-early : {D : Type 0} (g : Ghosts D) (old new : Core D) (o : Option Stop) → ReadsExplainStop g old.device new.device o → EndsEarly g old new o
read-early g old new None r = tt
read-early g old new (Some stop.Fault) r = inl (r.cause tt)
read-early g old new (Some (stop.Lost w f)) r = (r.2, r.3)

-- a part before which and after which counts of failures do not fall
pub within-early : {D : Type 0} (g : Ghosts D) (old start end new : Core D) (o : Option Stop) → g.read_faults old.device ≤ g.read_faults start.device → g.write_faults old.device ≤ g.write_faults start.device
    → g.read_faults end.device ≤ g.read_faults new.device → g.write_faults end.device ≤ g.write_faults new.device → EndsEarly g start end o → EndsEarly g old new o
within-early g old start end new None a b c d e = tt
within-early g old start end new (Some stop.Fault) a b c d (inl e) = inl (omega (arith, a, c, e))
within-early g old start end new (Some stop.Fault) a b c d (inr e) = inr (omega (arith, b, d, e))
within-early g old start end new (Some (stop.Lost w f)) a b c d e = e

-- a part after one that only read
pub early-then : {D : Type 0} (g : Ghosts D) (u v w : Core D) (o : Option Stop) → ReadsOn g u v → EndsEarly g v w o → EndsEarly g u w o
early-then g u v w o a e =
    let same = a.runs.reads.medium.write_faults in
    let reads = a.read_faults in
    within-early g u v w w o reads (omega (arith, same)) (omega arith) (omega arith) e
