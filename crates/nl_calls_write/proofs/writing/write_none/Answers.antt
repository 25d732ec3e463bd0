use Rattle.nl_calls_write.proofs.Nothing.{ends_none}
use Rattle.nl_core.proofs.LastCommits.{drops_room}
use Rattle.nl_calls_write.proofs.writing.write_none.Goals as goal

pub returns-clause-ends : goal.returns-clause-ends
returns-clause-ends g c =
    let G = g.D.Counts in
    let r = c.requires in
    ends_none G c.args.core.now c.drop_line.new.self c.args.worker c.args.ino c.args.files c.args.call.now r.core c.drop_line.ensures.core r.known c.drop_line.ensures.goes c.drop_line.ensures.dropped
    r.writing r.none r.short r.leads r.file r.files c.looks_refuse.ensures

pub returns-clause-commit : goal.returns-clause-commit
returns-clause-commit g c = (drops_room g.D.Counts c.args.worker c.args.core.now c.drop_line.new.self c.drop_line.ensures.dropped).commit
