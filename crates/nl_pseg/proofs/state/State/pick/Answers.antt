use Rattle.std.proofs.Common.{Bool, IfNone, IfSome, sym, subst}
use Rattle.nl_pseg.specs.Cleaning.{IsChosen, NoneChosen}
use Rattle.nl_pseg.specs.Seen.{seen}
use Rattle.nl_pseg.proofs.Picked.{chosen_cold, chosen_dead, if_none, if_some, if_some_both, none_cold, none_dead}
use Rattle.nl_pseg.specs.Kept.{kept}
use Rattle.nl_pseg.proofs.state.State.pick.Goals as goal

pub returns-then-cold-clause-some : goal.returns-then-cold-clause-some
returns-then-cold-clause-some c =
    subst (λ (b : Bool). IfSome c.coldest.result (IsChosen b (seen (kept c.args.self.now)))) (sym c.if-cold.true) (if_some_both c.coldest.result (chosen_cold (kept c.args.self.now)) c.coldest.ensures.some c.coldest.ensures.worn)

pub returns-then-cold-clause-none : goal.returns-then-cold-clause-none
returns-then-cold-clause-none c = subst (λ (b : Bool). IfNone c.coldest.result (NoneChosen b (seen (kept c.args.self.now)))) (sym c.if-cold.true) (if_none c.coldest.result (none_cold (kept c.args.self.now)) c.coldest.ensures.none)

pub returns-else-cold-clause-some : goal.returns-else-cold-clause-some
returns-else-cold-clause-some c = subst (λ (b : Bool). IfSome c.most_dead.result (IsChosen b (seen (kept c.args.self.now)))) (sym c.if-cold.false) (if_some c.most_dead.result (chosen_dead (kept c.args.self.now)) c.most_dead.ensures.some)

pub returns-else-cold-clause-none : goal.returns-else-cold-clause-none
returns-else-cold-clause-none c = subst (λ (b : Bool). IfNone c.most_dead.result (NoneChosen b (seen (kept c.args.self.now)))) (sym c.if-cold.false) (if_none c.most_dead.result (none_dead (kept c.args.self.now)) c.most_dead.ensures.none)
