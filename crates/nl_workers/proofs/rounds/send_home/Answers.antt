use Rattle.nl_workers.proofs.Homing.{both_home}
use Rattle.nl_workers.proofs.rounds.send_home.Goals as goal

pub returns-clause-home : goal.returns-clause-home
returns-clause-home g c =
    let one = c.join.ensures in
    let two = c.join-2.ensures in
    both_home c.args.crew.seat c.args.crew.cleaner.seat c.args.crew.handler.seat c.join.new.seat c.join-2.new.seat one.seat one.grows one.own one.theirs one.joined two.seat two.grows two.own two.theirs two.joined two.numbers
