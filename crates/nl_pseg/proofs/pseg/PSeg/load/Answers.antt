use Rattle.std.proofs.Common.{inl, ◌∙◌, ap, subst, sym}
use Rattle.nl_pseg.specs.Segment.{CanLead, IsDead, Physical}
use Rattle.nl_pseg.specs.Seen.{seen}
use Rattle.nl_pseg.specs.Steps.{LoadsHeldPage}
use Rattle.nl_pseg_blocks.specs.Uses.{Use}
use Rattle.nl_pseg.proofs.Ended.{few_none}
use Rattle.nl_pseg.proofs.Holds.{kept_some}
use Rattle.nl_pseg_blocks.proofs.Tables.{use_from}
use Rattle.nl_pseg.proofs.Wrote.{free_spare}
use Rattle.nl_pseg.specs.Kept.{kept}
use Rattle.nl_pseg.proofs.pseg.PSeg.load.Goals as goal

pub whole-requires-clause-few : goal.whole-requires-clause-few
whole-requires-clause-few c = few_none (seen (kept c.load_as.new.self)) (c.load_as.ensures.loads.victim ∙ (ap (λ (o : Physical). o.victim) c.self.view_is ∙ c.requires.none))

pub returns-clause-kept : goal.returns-clause-kept
returns-clause-kept c some =
    let x = kept c.load_as.new.self in
    let k = kept_some x c.load_as.ensures.formed some in
    record { block = k.0; from = k.1.from; below = k.1.below; kept = inl (ap (λ (u : Use). u.is_kept) (use_from x.blocks.first (seen x).uses k.0 k.1.from) ∙ k.2) }

pub returns-clause-spare : goal.returns-clause-spare
returns-clause-spare c image some = free_spare (kept c.load_as.new.self) c.load_as.ensures.formed some image

pub returns-clause-loads : goal.returns-clause-loads
returns-clause-loads c =
    subst (λ (s : Physical). LoadsHeldPage c.args.page c.args.at c.args.tag s (seen (kept c.load_as.new.self))) c.self.view_is c.load_as.ensures.loads

pub returns-clause-whole : goal.returns-clause-whole
returns-clause-whole c =
    c.whole.ensures.whole

pub returns-clause-victim : goal.returns-clause-victim
returns-clause-victim c =
    c.load_as.ensures.loads.victim ∙ (ap (λ (o : Physical). o.victim) c.self.view_is ∙ c.requires.none)

pub load_as-requires-clause-formed : goal.load_as-requires-clause-formed
load_as-requires-clause-formed c =
    c.self.invariant.0

pub load_as-requires-clause-tied : goal.load_as-requires-clause-tied
load_as-requires-clause-tied c =
    c.self.invariant.1

pub load_as-requires-clause-none : goal.load_as-requires-clause-none
load_as-requires-clause-none c =
    ap (λ (o : Physical). o.victim) c.self.view_is ∙ c.requires.none

pub load_as-requires-clause-dead : goal.load_as-requires-clause-dead
load_as-requires-clause-dead c =
    subst (λ (s : Physical). IsDead s c.args.page) (sym c.self.view_is) c.requires.dead

pub load_as-requires-clause-stamp : goal.load_as-requires-clause-stamp
load_as-requires-clause-stamp c =
    c.requires.stamp

pub load_as-requires-clause-away : goal.load_as-requires-clause-away
load_as-requires-clause-away c away =
    subst (λ (s : Physical). CanLead s c.args.at.name) (sym c.self.view_is) (c.requires.away away)

pub whole-requires-clause-formed : goal.whole-requires-clause-formed
whole-requires-clause-formed c =
    c.load_as.ensures.formed

pub whole-requires-clause-tied : goal.whole-requires-clause-tied
whole-requires-clause-tied c =
    c.load_as.ensures.tied
