use Rattle.std.proofs.Common.{inl, inr, subst}
use Rattle.nl_core_clean.specs.Laws.{IsOfReclaimPass}
use Rattle.nl_core_clean.specs.Spaces.{CleansVictim}
use Rattle.nl_core_clean.proofs.laws.a_cleaning_is_of_a_round.Goals as goal

of_a_round : IsOfReclaimPass
of_a_round answer s t (inl done) cleans = inl (subst (λ a. CleansVictim a s t) done cleans)
of_a_round answer s t (inr nothing) cleans = inr (subst (λ a. CleansVictim a s t) nothing cleans)

pub returns : goal.returns
returns c = of_a_round
