use Rattle.std.proofs.Common.{◌≡◌, ◌<◌}
use Rattle.nl_field.specs.declared.answers.Named.TheVariants as named
use Rattle.nl_core.specs.Core.{names_of}
use Rattle.nl_core.specs.LastCommit.{KeepsRoom}
use Rattle.nl_core.proofs.Nearer.{tries_left}
use Rattle.nl_core.proofs.Reclaiming.{Tries}
use Rattle.nl_core.proofs.state.Core.program_now.Given as goal

abbrev pub invariant-rounds : goal.invariant-rounds
invariant-rounds g l = record {
  formed : g.D.Counts.formed l.self.device;
  tries : Tries g.D.Counts l.worker l.line l.tag l.from.main l.fn.self l.self l.answer;
  at_once : 0 < (names_of g.D.Counts l.fn.self).space.room → KeepsRoom g.D.Counts 1 l.fn.self l.self × (l.answer ≡ named.NoPage → ⊥);
}

abbrev pub decreases-rounds : goal.decreases-rounds
decreases-rounds g l = tries_left l.answer (names_of g.D.Counts l.self).space
