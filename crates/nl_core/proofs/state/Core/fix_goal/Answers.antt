use Rattle.std.proofs.Common.{◌≡◌, ◌∙◌, refl, ap}
use Rattle.nl_flight.specs.Flight.{carried}
use Rattle.nl_core.specs.Lines.{with_goal}
use Rattle.nl_core.specs.Programming.{line_of}
use Rattle.nl_core.proofs.Lined.{lined_core, lined_goes}
use Rattle.nl_core.proofs.Lines.{carried_line}
use Rattle.nl_core.proofs.state.Core.fix_goal.Goals as goal

pub returns-clause-core : goal.returns-clause-core
returns-clause-core g c =
    let G = g.D.Counts in
    let v = c.args.self.now in
    lined_core G v c.keep_goal.new.flight c.requires.core
    (ap carried c.keep_goal.ensures.kept ∙ carried_line v.flight c.args.worker c.args.line (with_goal (line_of v.flight c.args.worker c.args.line) v.count) c.requires.core.flight c.requires.known refl) c.keep_goal.ensures.lines

pub returns-clause-goes : goal.returns-clause-goes
returns-clause-goes g c =
    let G = g.D.Counts in
    let v = c.args.self.now in
    lined_goes G v c.keep_goal.new.flight c.requires.core
    (ap carried c.keep_goal.ensures.kept ∙ carried_line v.flight c.args.worker c.args.line (with_goal (line_of v.flight c.args.worker c.args.line) v.count) c.requires.core.flight c.requires.known refl)
