use Rattle.nl_flight.specs.Flight.{carried}
use Rattle.nl_calls_files.proofs.Fits.{files_lead, reads_run, stands}
use Rattle.nl_calls_steps.proofs.Stepping.{core_read, read_on}
use Rattle.nl_calls_steps.proofs.reading.read_file.Goals as goal

pub read-answer-requires-clause-stands : goal.read-answer-requires-clause-stands
read-answer-requires-clause-stands g c =
    let G = g.D.Counts in
    let v = c.args.core.now in
    stands G v.device v.meta c.args.ino c.args.rec.now c.requires.core.journaled.runs c.requires.file

pub read-answer-requires-clause-leads : goal.read-answer-requires-clause-leads
read-answer-requires-clause-leads g c =
    let G = g.D.Counts in
    let v = c.args.core.now in
    files_lead G v.device v.journal v.meta (carried v.flight) v.freeing.items c.args.ino c.args.rec.now _ c.requires.core.journaled.runs c.requires.core.held c.requires.file

pub returns-clause-core : goal.returns-clause-core
returns-clause-core g c =
    let G = g.D.Counts in
    let v = c.args.core.now in
    let e = c.read-answer.ensures in
    core_read G v c.read-answer.new.device c.read-answer.new.meta c.device_stands.ensures.volume c.read-answer.ensures.formed c.device_stands-2.ensures.pages c.requires.core
    (reads_run G v.device c.read-answer.new.device v.meta c.read-answer.new.meta c.args.ino c.args.rec.now c.requires.core.journaled.runs c.requires.file e.kept e.pages e.only) e.faults.never_falls

pub returns-clause-same : goal.returns-clause-same
returns-clause-same g c =
    let G = g.D.Counts in
    let v = c.args.core.now in
    let e = c.read-answer.ensures in
    read_on G v c.read-answer.new.device c.read-answer.new.meta
    (reads_run G v.device c.read-answer.new.device v.meta c.read-answer.new.meta c.args.ino c.args.rec.now c.requires.core.journaled.runs c.requires.file e.kept e.pages e.only) e.faults.never_falls
