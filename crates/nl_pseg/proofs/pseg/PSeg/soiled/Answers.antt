use Rattle.std.proofs.Common.{◌∙◌, ◌<◌, ◌≤◌, ap, subst, sym}
use Rattle.nl_field.specs.Page.{Image}
use Rattle.nl_pseg.specs.Kept.{kept}
use Rattle.nl_pseg.specs.Opened.{Soils}
use Rattle.nl_pseg.specs.Seen.{seen}
use Rattle.nl_pseg.specs.Segment.{CanSpareBlock, KeepsBlock, Physical}
use Rattle.nl_pseg.proofs.Ended.{few_none}
use Rattle.nl_pseg.proofs.Soiled.{soils_kept, soils_spare}
use Rattle.nl_pseg.proofs.pseg.PSeg.soiled.Goals as goal

pub soil-requires-clause-formed : goal.soil-requires-clause-formed
soil-requires-clause-formed c =
    c.self.invariant.0

pub soil-requires-clause-tied : goal.soil-requires-clause-tied
soil-requires-clause-tied c =
    c.self.invariant.1

pub soil-requires-clause-none : goal.soil-requires-clause-none
soil-requires-clause-none c =
    ap (λ (o : Physical). o.victim) c.self.view_is ∙ c.requires.none

pub soil-requires-clause-within : goal.soil-requires-clause-within
soil-requires-clause-within c =
    record { from = subst (λ (s : Physical). s.first ≤ c.args.block) (sym c.self.view_is) c.requires.from; below = subst (λ (s : Physical). c.args.block < s.blocks) (sym c.self.view_is) c.requires.below }

pub whole-requires-clause-formed : goal.whole-requires-clause-formed
whole-requires-clause-formed c =
    c.soil.ensures.formed

pub whole-requires-clause-tied : goal.whole-requires-clause-tied
whole-requires-clause-tied c =
    c.soil.ensures.tied

pub whole-requires-clause-few : goal.whole-requires-clause-few
whole-requires-clause-few c =
    few_none (seen (kept c.soil.new.self)) (c.soil.ensures.soils.victim ∙ (ap (λ (o : Physical). o.victim) c.self.view_is ∙ c.requires.none))

pub returns-clause-whole : goal.returns-clause-whole
returns-clause-whole c =
    c.whole.ensures.whole

pub returns-clause-soils : goal.returns-clause-soils
returns-clause-soils c =
    subst (λ (s : Physical). Soils c.args.block c.args.wear s (seen (kept c.soil.new.self))) c.self.view_is c.soil.ensures.soils

pub returns-clause-victim : goal.returns-clause-victim
returns-clause-victim c =
    c.soil.ensures.soils.victim ∙ (ap (λ (o : Physical). o.victim) c.self.view_is ∙ c.requires.none)

pub returns-clause-kept : goal.returns-clause-kept
returns-clause-kept c =
    subst (λ (s : Physical). KeepsBlock s → KeepsBlock (seen (kept c.soil.new.self))) c.self.view_is (soils_kept c.soil.ensures.soils)

pub returns-clause-spare : goal.returns-clause-spare
returns-clause-spare c =
    subst (λ (s : Physical). (image : Image) → CanSpareBlock image s → CanSpareBlock image (seen (kept c.soil.new.self))) c.self.view_is (soils_spare c.soil.ensures.soils)
