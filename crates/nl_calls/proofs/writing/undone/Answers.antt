use Rattle.std.proofs.Common.{◌<◌, length, arith}
use Rattle.nl_calls.proofs.Ended.{ends_dropped}
use Rattle.nl_core.proofs.LastCommits.{drops_room}
use Rattle.nl_calls.proofs.writing.undone.Goals as goal

pub returns-clause-line : goal.returns-clause-line
returns-clause-line g c =
    let u = c.args.core.now in
    let eight = c.requires.core.flight.eight in
    let low = c.requires.known in
    let known : c.args.worker < length u.flight = omega (arith, eight, low) in
    ends_dropped c.args.worker u.flight c.drop_line.new.self.flight known c.drop_line.ensures.dropped.flight

pub returns-clause-commit : goal.returns-clause-commit
returns-clause-commit g c = (drops_room g.D.Counts c.args.worker c.args.core.now c.drop_line.new.self c.drop_line.ensures.dropped).commit
