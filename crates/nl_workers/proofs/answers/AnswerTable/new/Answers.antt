use Rattle.std.proofs.Common.{rules, refl, ap}
use Rattle.nl_workers.specs.Spots.{rows_at}
use Rattle.nl_workers.proofs.Rooms.{table_for}
use Rattle.nl_workers.proofs.answers.AnswerTable.new.Goals as goal

pub returns : goal.returns
returns c =
    table_for c.args.lines.now c.in_ok-stations.stations.items _ c.in_ok-stations.ensures (ap (rows_at c.in_ok-stations.stations.items) c.new.ensures.items) refl refl refl (search rules)
