use Rattle.nl_calls_write.proofs.Staged.{line_dropped, line_kept}
use Rattle.nl_core.proofs.LastCommits.{drops_room, room_none}
use Rattle.nl_calls_write.proofs.writing.keep_line.Goals as goal

pub returns-then-all_of_file-clause-keeps : goal.returns-then-all_of_file-clause-keeps
returns-then-all_of_file-clause-keeps g c =
    let G = g.D.Counts in
    let r = c.requires in
    line_kept G c.args.core.now c.args.ino c.args.generation c.args.worker c.args.line c.args.call.now r.writing r.core r.known r.runs r.line r.others r.staged c.flight_leads.ensures r.some (c.all_of_file.ensures c.if-all_of_file.true) r.file r.leads

pub returns-clause-keeps : goal.returns-clause-keeps
returns-clause-keeps g c =
    let G = g.D.Counts in
    let r = c.requires in
    line_dropped G c.args.core.now c.args.ino c.args.generation c.args.worker c.args.line c.args.call.now r.writing r.core r.known r.runs r.line r.others c.drop_line.new.self c.drop_line.ensures.goes c.drop_line.ensures.dropped

pub returns-then-all_of_file-clause-room : goal.returns-then-all_of_file-clause-room
returns-then-all_of_file-clause-room g c = room_none g.D.Counts 0 c.args.core.now

pub returns-clause-room : goal.returns-clause-room
returns-clause-room g c = drops_room g.D.Counts c.args.worker c.args.core.now c.drop_line.new.self c.drop_line.ensures.dropped
