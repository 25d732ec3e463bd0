use Rattle.nl_workers.proofs.Serving.{no_lost_stage}
use Rattle.nl_workers.proofs.Turned.{passes}
use Rattle.nl_workers.proofs.turn.stage_turn.Goals as goal

pub returns-clause-passed : goal.returns-clause-passed
returns-clause-passed g c =
    let t = c.take-turn.ensures in
    let p = c.pass.ensures in
    (passes c.args.seat.now c.take-turn.new.seat _ _ _ c.of_stage.ensures t.seat t.grows t.own t.joined p.seat p.joined p.numbers c.requires.idle).0

pub returns-clause-lost : goal.returns-clause-lost
returns-clause-lost g c = no_lost_stage g.V.Served.tells c.stage-answer.result c.stage-answer.ensures.lost
