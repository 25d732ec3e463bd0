use Rattle.std.proofs.Common.{arith}
use Rattle.nl_calls_write.proofs.Installed.{has_room, install_ends, line_fits, size_low, some_pages, taken}
use Rattle.nl_calls_steps.proofs.LastCommitOn.{steps_commit}
use Rattle.nl_calls_write.proofs.writing.install_ready.Goals as goal

pub install_line-requires-clause-some : goal.install_line-requires-clause-some
install_line-requires-clause-some g c =
    let G = g.D.Counts in
    let r = c.requires in
    some_pages G c.args.core.now c.args.worker c.args.ino c.args.files c.args.rec c.args.call.now r.core r.known c.flight_leads.ensures r.write.writing r.write.some r.write.few r.write.within r.write.short r.leads r.ready r.files r.pages r.all

pub install_line-requires-clause-line : goal.install_line-requires-clause-line
install_line-requires-clause-line g c =
    let G = g.D.Counts in
    let r = c.requires in
    let at = c.max-size.ensures in
    line_fits G c.args.core.now c.args.worker c.args.ino c.args.files c.args.rec c.args.call.now r.core r.known c.flight_leads.ensures r.write.writing r.write.some r.write.few r.write.within r.write.short r.leads r.ready r.files r.pages r.all
    c.max-size.result (omega arith)

pub install_line-requires-clause-room : goal.install_line-requires-clause-room
install_line-requires-clause-room g c =
    let G = g.D.Counts in
    let r = c.requires in
    has_room G c.args.core.now c.args.worker c.args.ino c.args.files c.args.rec c.args.call.now r.core r.known c.flight_leads.ensures r.write.writing r.write.some r.write.few r.write.within r.write.short r.leads r.ready r.files r.pages r.all r.room

pub install_line-requires-clause-size : goal.install_line-requires-clause-size
install_line-requires-clause-size g c =
    let G = g.D.Counts in
    let r = c.requires in
    let at = c.max-size.ensures in
    size_low G c.args.core.now c.args.worker c.args.ino c.args.files c.args.rec c.args.call.now r.core r.known c.flight_leads.ensures r.write.writing r.write.some r.write.few r.write.within r.write.short r.leads r.ready r.files r.pages r.all c.max-size.result (omega arith)

pub files_after-requires-clause-taken : goal.files_after-requires-clause-taken
files_after-requires-clause-taken g c =
    let G = g.D.Counts in
    let r = c.requires in
    let count = c.len-waiting.ensures.count in
    let all =
    taken G c.args.core.now c.args.worker c.args.ino c.args.files c.args.rec c.args.call.now r.core r.known c.flight_leads.ensures r.write.writing r.write.some r.write.few r.write.within r.write.short r.leads r.ready r.files r.pages r.all
    c.max-size.result c.install_line.new.core c.install_line.new.rec c.install_line.ensures.installs c.install_line.ensures.core in
    omega (arith, all, count)

pub returns-clause-ends : goal.returns-clause-ends
returns-clause-ends g c =
    let G = g.D.Counts in
    let r = c.requires in
    install_ends G c.args.core.now c.args.worker c.args.ino c.args.files c.args.rec c.args.call.now r.core r.known c.flight_leads.ensures r.write.writing r.write.some r.write.few r.write.within r.write.short r.leads r.ready r.files r.pages r.all
    r.written c.looks_refuse.ensures c.max-size.result (omega arith) c.install_line.new.core c.install_line.new.rec c.install_line.ensures.installs c.files_after.result c.files_after.ensures

pub returns-clause-commit : goal.returns-clause-commit
returns-clause-commit g c = steps_commit g.D.Counts c.args.core.now c.install_line.new.core c.install_line.ensures.installs.steps
