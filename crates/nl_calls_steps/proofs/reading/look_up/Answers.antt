use Rattle.nl_namespace.specs.Reading.{look_stop}
use Rattle.nl_calls_steps.proofs.Stepping.{core_read, read_on, reads_rise}
use Rattle.nl_calls_steps.proofs.reading.look_up.Goals as goal

pub returns-clause-core : goal.returns-clause-core
returns-clause-core g c =
    let G = g.D.Counts in
    let v = c.args.core.now in
    core_read G v c.look-answer.new.device c.look-answer.new.meta c.device_stands.ensures.volume c.look-answer.ensures.formed c.device_stands-2.ensures.pages c.requires.core c.look-answer.ensures.kept (reads_rise G v.device c.look-answer.new.device (look_stop c.look-answer.result) c.look-answer.ensures.reads)

pub returns-clause-same : goal.returns-clause-same
returns-clause-same g c =
    let G = g.D.Counts in
    let v = c.args.core.now in
    read_on G v c.look-answer.new.device c.look-answer.new.meta c.look-answer.ensures.kept (reads_rise G v.device c.look-answer.new.device (look_stop c.look-answer.result) c.look-answer.ensures.reads)
