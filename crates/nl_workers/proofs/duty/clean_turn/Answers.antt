use Rattle.nl_workers.proofs.Turned.{passes}
use Rattle.nl_workers.proofs.duty.clean_turn.Goals as goal

pub returns-clause-passed : goal.returns-clause-passed
returns-clause-passed g c =
    let t = c.take-turn.ensures in
    let p = c.pass.ensures in
    (passes c.args.seat.now c.take-turn.new.seat _ _ _ c.of_duty.ensures t.seat t.grows t.own t.joined p.seat p.joined p.numbers c.requires.idle).0
