use Rattle.std.proofs.Common.{Some, refl, arith}
use Rattle.nl_meta_running.specs.declared.answer.Stop.TheVariants as stop
use Rattle.nl_calls_steps.proofs.Early.{early-then}
use Rattle.nl_calls_write.proofs.OnePage.{adds_page, not_stopped, puts_no_page, puts_page, puts_read}
use Rattle.nl_core.proofs.LastCommits.{room_more}
use Rattle.nl_calls_steps.proofs.LastCommitOn.{reads_at_once, reads_room}
use Rattle.nl_calls_write.proofs.putting.put_page.Goals as goal

pub returns-in-InFlight-clause-puts : goal.returns-in-InFlight-clause-puts
returns-in-InFlight-clause-puts g c =
    let G = g.D.Counts in
    puts_page G c.args.core.now c.make_page-made.new.core c.requires.core c.device_stands.ensures.volume c.make_page-made.ensures.core.formed c.device_stands.ensures.pages c.make_page-made.ensures.same c.args.worker c.args.call.now c.program.new.self c.program.ensures.goes
    c.args.line c.args.tag c.make_page-made.new.page.main c.requires.can.known c.in-InFlight.ensures.programs c.in-Ok.ensures.made c.requires.can.leads

pub returns-in-InFlight-clause-added : goal.returns-in-InFlight-clause-added
returns-in-InFlight-clause-added g c =
    let G = g.D.Counts in
    adds_page G c.args.core.now c.make_page-made.new.core c.requires.core c.device_stands.ensures.volume c.make_page-made.ensures.core.formed c.device_stands.ensures.pages c.make_page-made.ensures.same c.args.worker c.args.call.now
    c.program.new.self c.program.ensures.goes c.args.line c.args.tag c.make_page-made.new.page.main c.requires.can.known c.in-InFlight.ensures.programs c.program.ensures.core

pub returns-in-Lost-clause-puts : goal.returns-in-Lost-clause-puts
returns-in-Lost-clause-puts g c =
    let G = g.D.Counts in
    puts_no_page G c.args.core.now c.make_page-made.new.core c.requires.core c.device_stands.ensures.volume c.make_page-made.ensures.core.formed c.device_stands.ensures.pages c.make_page-made.ensures.same c.args.worker c.args.call.now c.program.new.self c.program.ensures.goes
    c.in-Lost.ensures.programs.0

pub returns-in-Fault-clause-puts : goal.returns-in-Fault-clause-puts
returns-in-Fault-clause-puts g c =
    let G = g.D.Counts in
    puts_no_page G c.args.core.now c.make_page-made.new.core c.requires.core c.device_stands.ensures.volume c.make_page-made.ensures.core.formed c.device_stands.ensures.pages c.make_page-made.ensures.same c.args.worker c.args.call.now c.program.new.self c.program.ensures.goes
    c.in-Fault.ensures.programs

pub returns-in-Fault-clause-early : goal.returns-in-Fault-clause-early
returns-in-Fault-clause-early g c =
    let G = g.D.Counts in
    early-then G c.args.core.now c.make_page-made.new.core c.program.new.self (Some stop.Fault) c.make_page-made.ensures.same (c.in-Fault.ensures.faults refl)

pub returns-in-Err-clause-puts : goal.returns-in-Err-clause-puts
returns-in-Err-clause-puts g c =
    let G = g.D.Counts in
    puts_read G c.args.core.now c.make_page-made.new.core c.requires.core c.device_stands.ensures.volume c.make_page-made.ensures.core.formed c.device_stands.ensures.pages c.make_page-made.ensures.same c.args.worker c.args.call.now

pub unreachable-requires : goal.unreachable-requires
unreachable-requires g c =
    let G = g.D.Counts in
    not_stopped G c.args.core.now c.make_page-made.new.core c.make_page-made.ensures.same c.requires.can.writes c.requires.stamp (c.program.ensures.stopped.0 c.in-Stopped.is)

pub returns-in-InFlight-clause-at_once : goal.returns-in-InFlight-clause-at_once
returns-in-InFlight-clause-at_once g c =
    reads_at_once g.D.Counts c.args.core.now c.make_page-made.new.core c.program.new.self c.make_page-made.ensures.same c.program.ensures.at_once

pub returns-in-Lost-clause-at_once : goal.returns-in-Lost-clause-at_once
returns-in-Lost-clause-at_once g c =
    reads_at_once g.D.Counts c.args.core.now c.make_page-made.new.core c.program.new.self c.make_page-made.ensures.same c.program.ensures.at_once

pub returns-in-Fault-clause-at_once : goal.returns-in-Fault-clause-at_once
returns-in-Fault-clause-at_once g c =
    reads_at_once g.D.Counts c.args.core.now c.make_page-made.new.core c.program.new.self c.make_page-made.ensures.same c.program.ensures.at_once

pub returns-in-Err-clause-at_once : goal.returns-in-Err-clause-at_once
returns-in-Err-clause-at_once g c has =
    let G = g.D.Counts in
    let u = c.args.core.now in
    let v = c.make_page-made.new.core in
    room_more G 0 1 u v (omega arith) (reads_room G u v c.make_page-made.ensures.same)
