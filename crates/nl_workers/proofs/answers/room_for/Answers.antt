use Rattle.std.proofs.Common.{arith}
use Rattle.nl_workers.proofs.Rooms.{room_more}
use Rattle.nl_workers.proofs.answers.room_for.Goals as goal

pub loop-at-preserved : goal.loop-at-preserved
loop-at-preserved c =
    let i = c.loop-at.invariant in
    let m = room_more c.args.worker c.loop-at.at c.args.lines.now c.get-line.result.now c.get-line.ensures.line in
    let a = i.0 in
    let b = i.1 in
    let d = i.2 in
    let e = i.3 in
    let one = c.own_line-count.ensures in
    let bytes = c.own_bytes-bytes.ensures.bytes in
    let few = c.own_bytes-bytes.ensures.few in
    let f = m.0 in
    let g = m.1 in
    (omega arith, omega arith, grind arith, omega arith)
