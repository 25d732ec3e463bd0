use Rattle.std.proofs.Common.{ℕ, IfNone, Contains, subst, IfSome}
use Rattle.nl_pseg.specs.Segment.{Physical}
use Rattle.nl_pseg.proofs.Holds.{link_is, link_told}
use Rattle.nl_pseg.proofs.Picked.{if_none, if_some}
use Rattle.nl_pseg.specs.Kept.{kept}
use Rattle.nl_pseg.proofs.pseg.PSeg.name_of.Goals as goal

pub returns-clause-none : goal.returns-clause-none
returns-clause-none c =
    subst (λ (s : Physical). IfNone c.name_of.result ((name : ℕ) → Contains s.pairs (name, c.args.target) → ⊥)) c.self.view_is
    (if_none c.name_of.result (λ none name has. none name (link_is (kept c.self.inside.state).names.pairs name c.args.target has)) c.name_of.ensures.none)

pub returns-clause-some : goal.returns-clause-some
returns-clause-some c =
    subst (λ (s : Physical). IfSome c.name_of.result (λ name. Contains s.pairs (name, c.args.target))) c.self.view_is
    (if_some c.name_of.result (λ name has. link_told (kept c.self.inside.state).names.pairs name c.args.target has) c.name_of.ensures.some)
