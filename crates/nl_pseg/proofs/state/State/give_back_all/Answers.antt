use Rattle.nl_pseg.specs.declared.held.Held.{Held}
use Rattle.nl_pseg.specs.Kept.{kept}
use Rattle.nl_pseg.specs.Steps.{AreGivenBack}
use Rattle.nl_pseg.specs.Seen.{seen}
use Rattle.std.proofs.Common.{◌≡◌, arith, List, Option, None, get_or, sym, ◌∙◌, ap, subst}
use Rattle.nl_pseg.proofs.GivenBack.{given_more, given_none}
use Rattle.nl_pseg.proofs.state.State.give_back_all.Goals as goal

pub loop-block-preserved : goal.loop-block-preserved
loop-block-preserved c = record {
  formed = c.give_back.ensures.formed;
  tied = c.give_back.ensures.tied;
  given = given_more c.loop-block.block (omega (arith, c.first-first.ensures, c.loop-block.auto.block)) (omega (arith, c.loop-block-test.true, c.first-first.ensures, c.count.ensures.value)) c.loop-block.invariant.given c.give_back.ensures.given;
}

pub loop-block-init : goal.loop-block-init
loop-block-init c = record { formed = c.requires.formed; tied = c.requires.tied; given = subst (λ n. AreGivenBack n (seen (kept c.args.self.now)) (seen (kept c.args.self.now))) (sym c.first-first.ensures) (given_none (seen (kept c.args.self.now))) }

pub give_back-requires-clause-formed : goal.give_back-requires-clause-formed
give_back-requires-clause-formed c = c.loop-block.invariant.formed

pub give_back-requires-clause-tied : goal.give_back-requires-clause-tied
give_back-requires-clause-tied c = c.loop-block.invariant.tied

pub give_back-requires-clause-within : goal.give_back-requires-clause-within
give_back-requires-clause-within c =
    let first = c.loop-block.invariant.given.range.range_first in
    let blocks = c.loop-block.invariant.given.range.range_blocks in
    record { from = omega (arith, first, c.first-first.ensures, c.loop-block.auto.block); below = omega (arith, blocks, c.loop-block-test.true, c.first-first.ensures, c.count.ensures.value) }

pub give_back-requires-clause-none : goal.give_back-requires-clause-none
give_back-requires-clause-none c page = ap (λ (l : List (Option Held)). get_or l page None) c.loop-block.invariant.given.held ∙ c.requires.none page

pub give_back-requires-clause-no_victim : goal.give_back-requires-clause-no_victim
give_back-requires-clause-no_victim c = c.loop-block.invariant.given.victim ∙ c.requires.no_victim

pub returns-clause-formed : goal.returns-clause-formed
returns-clause-formed c = c.loop-block.invariant.formed

pub returns-clause-tied : goal.returns-clause-tied
returns-clause-tied c = c.loop-block.invariant.tied

pub returns-clause-given : goal.returns-clause-given
returns-clause-given c =
    let s = seen (kept c.args.self.now) in
    let past = c.loop-block-test.false in
    let most = c.loop-block.auto.block-end (omega arith) in
    let first = c.first-first.ensures in
    let count = c.count.ensures.value in
    let end : c.loop-block.block ≡ s.blocks = omega arith in
    subst (λ n. AreGivenBack n s (seen (kept c.loop-block.self))) end c.loop-block.invariant.given
