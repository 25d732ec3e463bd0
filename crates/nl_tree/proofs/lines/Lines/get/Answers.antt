use Rattle.std.proofs.Common.{◌<◌, length}
use Rattle.nl_tree.proofs.LineProofs.{line_found}
use Rattle.nl_tree.proofs.lines.Lines.get.Goals as goal

pub returns-clause-found : goal.returns-clause-found
returns-clause-found c =
    let lines = c.self.inside.lines.items in
    let within : c.args.at < length lines = rw c.self.view_is c.requires in
    rw (← c.self.view_is) (line_found lines c.args.at c.index.result.now c.self.invariant.1 within c.index.ensures)
