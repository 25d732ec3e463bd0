use Rattle.std.proofs.Common.{◌-◌, length}
use Rattle.nl_calls_steps.specs.Lines.{worker_pages}
use Rattle.nl_calls_steps.proofs.LineGoes.{LineGoes}
use Rattle.nl_calls_steps.proofs.lines.install_line.Given as goal

abbrev pub invariant-pages : goal.invariant-pages
invariant-pages g l =
    let G = g.D.Counts in
    record { formed : G.formed l.core.device; goes : LineGoes G l.initial.core l.worker l.ino l.size l.initial.rec l.core l.rec l.place }

abbrev pub decreases-pages : goal.decreases-pages
decreases-pages g l = length (worker_pages l.initial.core l.worker) - l.place
