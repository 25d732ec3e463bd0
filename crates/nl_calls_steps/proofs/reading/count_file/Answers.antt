use Rattle.nl_calls_files.proofs.Fits.{reads_run, stands}
use Rattle.nl_calls_steps.proofs.Stepping.{core_read, read_on}
use Rattle.nl_calls_steps.proofs.reading.count_file.Goals as goal

pub count_pages-answer-requires-clause-stands : goal.count_pages-answer-requires-clause-stands
count_pages-answer-requires-clause-stands g c =
    let G = g.D.Counts in
    let v = c.args.core.now in
    stands G v.device v.meta c.requires.file.0 c.args.rec.now c.requires.core.journaled.runs c.requires.file.1

pub returns-clause-core : goal.returns-clause-core
returns-clause-core g c =
    let G = g.D.Counts in
    let v = c.args.core.now in
    let e = c.count_pages-answer.ensures in
    core_read G v c.count_pages-answer.new.device c.count_pages-answer.new.meta c.device_stands.ensures.volume c.count_pages-answer.ensures.formed c.device_stands-2.ensures.pages c.requires.core
    (reads_run G v.device c.count_pages-answer.new.device v.meta c.count_pages-answer.new.meta c.requires.file.0 c.args.rec.now c.requires.core.journaled.runs c.requires.file.1 e.kept e.pages e.only) e.faults.never_falls

pub returns-clause-same : goal.returns-clause-same
returns-clause-same g c =
    let G = g.D.Counts in
    let v = c.args.core.now in
    let e = c.count_pages-answer.ensures in
    read_on G v c.count_pages-answer.new.device c.count_pages-answer.new.meta
    (reads_run G v.device c.count_pages-answer.new.device v.meta c.count_pages-answer.new.meta c.requires.file.0 c.args.rec.now c.requires.core.journaled.runs c.requires.file.1 e.kept e.pages e.only) e.faults.never_falls
