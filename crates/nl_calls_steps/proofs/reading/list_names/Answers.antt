use Rattle.nl_namespace.specs.Reading.{listing_stop}
use Rattle.nl_calls_steps.proofs.Stepping.{core_read, read_on, reads_rise}
use Rattle.nl_calls_steps.proofs.reading.list_names.Goals as goal

pub returns-clause-core : goal.returns-clause-core
returns-clause-core g c =
    let G = g.D.Counts in
    let v = c.args.core.now in
    core_read G v c.list-answer.new.device c.list-answer.new.meta c.device_stands.ensures.volume c.list-answer.ensures.formed c.device_stands-2.ensures.pages c.requires.core c.list-answer.ensures.kept (reads_rise G v.device c.list-answer.new.device (listing_stop c.list-answer.result) c.list-answer.ensures.reads)

pub returns-clause-same : goal.returns-clause-same
returns-clause-same g c =
    let G = g.D.Counts in
    let v = c.args.core.now in
    read_on G v c.list-answer.new.device c.list-answer.new.meta c.list-answer.ensures.kept (reads_rise G v.device c.list-answer.new.device (listing_stop c.list-answer.result) c.list-answer.ensures.reads)
