use Rattle.std.proofs.Common.{◌≡◌, None, ◌∙◌, ap, subst, sym, arith}
use Rattle.nl_pseg.specs.Kept.{kept}
use Rattle.nl_pseg.specs.Opened.{GivesAllBack}
use Rattle.nl_pseg.specs.Seen.{seen}
use Rattle.nl_pseg.specs.Segment.{Physical, held_at}
use Rattle.nl_pseg.proofs.Ended.{few_none}
use Rattle.nl_pseg.proofs.GivenBack.{all_given, free_counted, gives_all_back}
use Rattle.nl_pseg.proofs.Openings.{some_kept}
use Rattle.nl_pseg.proofs.Wrote.{free_spare}
use Rattle.nl_pseg.proofs.pseg.PSeg.give_back.Goals as goal

pub returns-clause-kept : goal.returns-clause-kept
returns-clause-kept c = some_kept (kept c.give_back_all.new.self) c.give_back_all.ensures.formed

pub whole-requires-clause-few : goal.whole-requires-clause-few
whole-requires-clause-few c = few_none (seen (kept c.give_back_all.new.self)) (c.give_back_all.ensures.given.victim ∙ (ap (λ (o : Physical). o.victim) c.self.view_is ∙ c.requires.no_victim))

pub returns-clause-spare : goal.returns-clause-spare
returns-clause-spare c =
    let x = kept c.give_back_all.new.self in
    let is = c.give_back_all.ensures.formed in
    let count = free_counted x is (all_given c.give_back_all.ensures.given) in
    let from = is.active_in.from in
    let below = is.active_in.below in
    free_spare x is (omega (arith, count, from, below))

pub give_back_all-requires-clause-formed : goal.give_back_all-requires-clause-formed
give_back_all-requires-clause-formed c = c.self.invariant.0

pub give_back_all-requires-clause-tied : goal.give_back_all-requires-clause-tied
give_back_all-requires-clause-tied c = c.self.invariant.1

pub give_back_all-requires-clause-none : goal.give_back_all-requires-clause-none
give_back_all-requires-clause-none c page = subst (λ (s : Physical). held_at s page ≡ None) (sym c.self.view_is) (c.requires.none page)

pub give_back_all-requires-clause-no_victim : goal.give_back_all-requires-clause-no_victim
give_back_all-requires-clause-no_victim c = ap (λ (s : Physical). s.victim) c.self.view_is ∙ c.requires.no_victim

pub whole-requires-clause-formed : goal.whole-requires-clause-formed
whole-requires-clause-formed c = c.give_back_all.ensures.formed

pub whole-requires-clause-tied : goal.whole-requires-clause-tied
whole-requires-clause-tied c = c.give_back_all.ensures.tied

pub returns-clause-whole : goal.returns-clause-whole
returns-clause-whole c = c.whole.ensures.whole

pub returns-clause-victim : goal.returns-clause-victim
returns-clause-victim c = c.give_back_all.ensures.given.victim ∙ (ap (λ (s : Physical). s.victim) c.self.view_is ∙ c.requires.no_victim)

pub returns-clause-given : goal.returns-clause-given
returns-clause-given c =
    subst (λ (s : Physical). GivesAllBack s (seen (kept c.give_back_all.new.self))) c.self.view_is
    (gives_all_back (kept c.self.inside.state) (kept c.give_back_all.new.self) c.self.invariant.0 c.give_back_all.ensures.formed c.give_back_all.ensures.tied c.give_back_all.ensures.given)
