use Rattle.std.proofs.Common.{rules, arith}
use Rattle.nl_workers.proofs.Rooms.{fresh_more}
use Rattle.nl_workers.proofs.answers.stations_for.Goals as goal

pub loop-worker-preserved : goal.loop-worker-preserved
loop-worker-preserved c =
    let i = c.loop-worker.invariant in
    let below = c.loop-worker-test.true in (
      search rules,
      search rules,
      omega arith,
      fresh_more c.args.lines.now c.loop-worker.stations.items c.push_reserved.new.self.items c.in_ok-station_for.field-0 c.loop-worker.worker (search rules) c.push_reserved.ensures.items i.3 c.in_ok-station_for.ensures,
    )
