use Rattle.nl_pseg.specs.Seen.{seen, IsPhysicalFormed, IsTied}
use Rattle.nl_pseg.specs.Steps.{AreGivenBack}
use Rattle.nl_pseg.specs.Kept.{kept}
use Rattle.nl_pseg.proofs.state.State.give_back_all.Given as goal

abbrev pub invariant-loop-block : goal.invariant-loop-block
invariant-loop-block l = record {
  formed : IsPhysicalFormed (kept l.self);
  tied : IsTied (kept l.self);
  given : AreGivenBack l.block (seen (kept l.initial.self)) (seen (kept l.self));
}
