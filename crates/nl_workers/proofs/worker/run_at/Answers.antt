use Rattle.std.proofs.Common.{rules, ◌∙◌, ◌||◌, ap}
use Rattle.nl_workers.proofs.Hearing.{skips_heard, runs_heard}
use Rattle.nl_workers.proofs.Working.{skips, room_here, works}
use Rattle.nl_workers.proofs.Serving.{none_either}
use Rattle.nl_workers.proofs.worker.run_at.Goals as goal

pub returns-then-line-worker-clause-worked : goal.returns-then-line-worker-clause-worked
returns-then-line-worker-clause-worked g c =
    skips g.V.Served.tells c.args.lines.now c.args.worker c.args.at c.args.seat.now c.args.station.now c.get-line.result.now c.requires.may c.get-line.ensures.line (search rules)

pub add-requires-clause-lines : goal.add-requires-clause-lines
add-requires-clause-lines g c =
    (room_here g.V.Served.tells c.args.lines.now c.args.worker c.args.at c.args.seat.now c.args.station.now c.get-line.result.now c.requires.may c.get-line.ensures.line (search rules)).0

pub add-requires-clause-bytes : goal.add-requires-clause-bytes
add-requires-clause-bytes g c =
    (room_here g.V.Served.tells c.args.lines.now c.args.worker c.args.at c.args.seat.now c.args.station.now c.get-line.result.now c.requires.may c.get-line.ensures.line (search rules)).1

pub returns-clause-worked : goal.returns-clause-worked
returns-clause-worked g c =
    works g.V.Served.tells c.args.lines.now c.args.worker c.args.at c.args.seat.now c.args.station.now c.get-line.result.now c.requires.may c.get-line.ensures.line
    c.run_line-ran.new.seat _ c.run_line-ran.result.answered c.run_line-ran.new.out (search rules) c.add.ensures.out c.run_line-ran.ensures.answered c.add.ensures.rows c.add.ensures.lines c.add.ensures.bytes
    (λ t. c.either-station.ensures ∙ none_either c.args.station.now.lost c.run_line-ran.result.lost (c.requires.may.station_is.none_lost t) (c.run_line-ran.ensures.lost t))
    (record { none_gone = c.run_line-ran.ensures.knows.none_gone; after_is = c.either-station.ensures ∙ ap (λ b. c.args.station.now.lost || b) c.run_line-ran.ensures.knows.after_is })

pub returns-then-line-worker-clause-heard : goal.returns-then-line-worker-clause-heard
returns-then-line-worker-clause-heard g c =
    skips_heard (g.G.Gate.heard c.args.gate.now) c.args.lines.now c.args.worker c.args.at c.get-line.result.now c.get-line.ensures.line c.args.seat.now c.args.seat.now (search rules)

pub returns-clause-heard : goal.returns-clause-heard
returns-clause-heard g c =
    runs_heard (g.G.Gate.heard c.args.gate.now) c.args.lines.now c.args.worker c.args.at c.get-line.result.now c.get-line.ensures.line c.args.seat.now c.run_line-ran.new.seat c.requires.may.lines_are.are c.run_line-ran.ensures.heard
