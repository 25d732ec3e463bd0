use Rattle.std.proofs.Common.{sym}
use Rattle.nl_calls_names.specs.Gathering.{graph_on}
use Rattle.nl_calls_names.proofs.Graphs.{refused_none}
use Rattle.nl_calls_names.proofs.finding.node_at.Goals as goal

pub returns-in-No-clause-node : goal.returns-in-No-clause-node
returns-in-No-clause-node g c =
    let G = g.D.Counts in
    sym (refused_none (graph_on G c.args.core.now) 0 c.args.path.now _ c.in-No.ensures.answer)
