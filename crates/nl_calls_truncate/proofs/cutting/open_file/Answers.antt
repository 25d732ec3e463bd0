use Rattle.nl_meta_running.specs.Reading.{stop_of}
use Rattle.nl_calls_steps.proofs.Early.{read-early}
use Rattle.nl_calls_truncate.proofs.cutting.open_file.Goals as goal

pub returns-clause-early : goal.returns-clause-early
returns-clause-early g c =
    read-early g.D.Counts c.args.core.now c.open_node-opened.new.core (stop_of c.open_node-opened.result) c.open_node-opened.ensures.reads
