use Rattle.std.proofs.Common.{ap, ◌∙◌, arith}
use Rattle.std.proofs.lemmas.List.Edits.{map_over_more}
use Rattle.std.specs.Prelude.{slice_set}
use Rattle.nl_flight.specs.Flight.{renamed_line}
use Rattle.nl_flight.proofs.flight.rename_lines.Goals as goal

pub loop-worker-preserved : goal.loop-worker-preserved
loop-worker-preserved c =
    ap (λ line. slice_set c.loop-worker.lines.items c.loop-worker.worker line) c.rename.ensures
    ∙ map_over_more (renamed_line c.args.stamp c.args.to) c.args.lines.now.items c.loop-worker.lines.items c.loop-worker.worker c.index_mut.result.now (omega arith) c.loop-worker.invariant c.index_mut.ensures.value
