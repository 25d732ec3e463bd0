use Rattle.nl_pseg.proofs.Chooses.{can_begin, may_not}
use Rattle.nl_pseg.specs.Kept.{kept}
use Rattle.std.proofs.lemmas.Bool.{true≢false}
use Rattle.std.proofs.Common.{sym, refl, inr}
use Rattle.nl_pseg.proofs.state.State.begin.Goals as goal

pub returns-then-not-may_begin-clause-formed : goal.returns-then-not-may_begin-clause-formed
returns-then-not-may_begin-clause-formed c = c.requires.formed

pub returns-then-not-may_begin-clause-tied : goal.returns-then-not-may_begin-clause-tied
returns-then-not-may_begin-clause-tied c = c.requires.tied

pub returns-then-not-may_begin-clause-few : goal.returns-then-not-may_begin-clause-few
returns-then-not-may_begin-clause-few c = c.requires.few

pub returns-then-not-may_begin-clause-table : goal.returns-then-not-may_begin-clause-table
returns-then-not-may_begin-clause-table c = c.count.ensures.table

pub returns-then-not-may_begin-clause-cannot : goal.returns-then-not-may_begin-clause-cannot
returns-then-not-may_begin-clause-cannot c = (λ e. absurd (true≢false (sym e)), λ can. absurd (can (may_not (kept c.args.self.now) c.args.cold c.may_begin.ensures c.if-not-may_begin.true)))

pub returns-in_default-clause-formed : goal.returns-in_default-clause-formed
returns-in_default-clause-formed c = c.requires.formed

pub returns-in_default-clause-tied : goal.returns-in_default-clause-tied
returns-in_default-clause-tied c = c.requires.tied

pub returns-in_default-clause-few : goal.returns-in_default-clause-few
returns-in_default-clause-few c = c.requires.few

pub returns-in_default-clause-table : goal.returns-in_default-clause-table
returns-in_default-clause-table c = c.count.ensures.table

pub returns-in_default-clause-cannot : goal.returns-in_default-clause-cannot
returns-in_default-clause-cannot c = (λ e. absurd (true≢false (sym e)), λ can. absurd (can (inr (inr (inr c.in_default.ensures.none)))))

pub choose-requires-clause-formed : goal.choose-requires-clause-formed
choose-requires-clause-formed c = c.requires.formed

pub choose-requires-clause-tied : goal.choose-requires-clause-tied
choose-requires-clause-tied c = c.requires.tied

pub choose-requires-clause-none : goal.choose-requires-clause-none
choose-requires-clause-none c = (c.may_begin.ensures.0 c.if-not-may_begin.false).0

pub choose-requires-clause-few : goal.choose-requires-clause-few
choose-requires-clause-few c = (c.may_begin.ensures.0 c.if-not-may_begin.false).1

pub choose-requires-clause-some : goal.choose-requires-clause-some
choose-requires-clause-some c = (c.may_begin.ensures.0 c.if-not-may_begin.false).2

pub choose-requires-clause-has : goal.choose-requires-clause-has
choose-requires-clause-has c = c.in-Some.ensures.here.0

pub choose-requires-clause-sealed : goal.choose-requires-clause-sealed
choose-requires-clause-sealed c = c.in-Some.ensures.here.1

pub returns-clause-formed : goal.returns-clause-formed
returns-clause-formed c = c.choose.ensures.formed

pub returns-clause-tied : goal.returns-clause-tied
returns-clause-tied c = c.choose.ensures.tied

pub returns-clause-few : goal.returns-clause-few
returns-clause-few c = c.choose.ensures.few

pub returns-clause-table : goal.returns-clause-table
returns-clause-table c = c.choose.ensures.table

pub returns-clause-cannot : goal.returns-clause-cannot
returns-clause-cannot c = (λ e. can_begin c.in-Some.ensures.some c.choose.ensures.begins (c.may_begin.ensures.0 c.if-not-may_begin.false).2, λ can. refl)
