use Rattle.nl_calls_steps.proofs.Stepping.{core_read, reads_rise}
use Rattle.nl_meta_running.specs.Reading.{stop_of}
use Rattle.nl_volume_list.proofs.next.place_of.Goals as goal

pub returns-clause-core : goal.returns-clause-core
returns-clause-core g c =
    let G = g.D.Counts in
    let v = c.args.core.now in
    let n = c.next_place-answer.new in
    core_read G v n.device n.meta c.device_stands.ensures.volume c.next_place-answer.ensures.formed c.device_stands-2.ensures.pages c.requires.core c.next_place-answer.ensures.kept (reads_rise G v.device n.device (stop_of c.next_place-answer.result) c.next_place-answer.ensures.reads)
