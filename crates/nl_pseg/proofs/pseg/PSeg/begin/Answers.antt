use Rattle.nl_pseg.specs.Cleaning.{BeginsBlock, CannotBegin, IsChosen}
use Rattle.std.specs.Bool.{OnTrue, OnFalse}
use Rattle.std.proofs.Common.{sym, subst, ◌≡◌, ◌↔◌, ℕ, IsTrue}
use Rattle.nl_field.specs.Page.{Image}
use Rattle.nl_pseg.specs.Segment.{CanSpareBlock, IsClean, IsPhysicalOf, KeepsBlock, Physical}
use Rattle.nl_pseg.specs.Seen.{seen}
use Rattle.nl_pseg.proofs.Chooses.{begins_clean, begins_kept, begins_segment, begins_spare, by_answer}
use Rattle.nl_pseg.specs.Kept.{kept}
use Rattle.nl_pseg.proofs.pseg.PSeg.begin.Goals as goal

pub returns-clause-segment : goal.returns-clause-segment
returns-clause-segment c =
    let x = seen (kept c.begin-begun.new.self) in
    subst (λ (s : Physical). (image : Image) → IsPhysicalOf image s → IsPhysicalOf image x) c.self.view_is
    (by_answer c.begin-begun.result ((image : Image) → IsPhysicalOf image (seen (kept c.self.inside.state)) → IsPhysicalOf image x) c.begin-begun.ensures.begun c.begin-begun.ensures.none
    (λ b. begins_segment b.2) (λ same image is. subst (IsPhysicalOf image) (sym same) is))

pub returns-clause-spare : goal.returns-clause-spare
returns-clause-spare c =
    let x = seen (kept c.begin-begun.new.self) in
    subst (λ (s : Physical). (image : Image) → CanSpareBlock image s → CanSpareBlock image x) c.self.view_is
    (by_answer c.begin-begun.result ((image : Image) → CanSpareBlock image (seen (kept c.self.inside.state)) → CanSpareBlock image x) c.begin-begun.ensures.begun c.begin-begun.ensures.none
    (λ b. begins_spare b.2) (λ same image is. subst (CanSpareBlock image) (sym same) is))

pub returns-clause-clean : goal.returns-clause-clean
returns-clause-clean c =
    let x = seen (kept c.begin-begun.new.self) in
    subst (λ (s : Physical). IsClean s → IsClean x) c.self.view_is
    (by_answer c.begin-begun.result (IsClean (seen (kept c.self.inside.state)) → IsClean x) c.begin-begun.ensures.begun c.begin-begun.ensures.none
    (λ b. begins_clean b.2) (λ same is. subst IsClean (sym same) is))

pub returns-clause-kept : goal.returns-clause-kept
returns-clause-kept c =
    let x = seen (kept c.begin-begun.new.self) in
    subst (λ (s : Physical). KeepsBlock s → KeepsBlock x) c.self.view_is
    (by_answer c.begin-begun.result (KeepsBlock (seen (kept c.self.inside.state)) → KeepsBlock x) c.begin-begun.ensures.begun c.begin-begun.ensures.none
    (λ b. begins_kept b.2) (λ same is. subst KeepsBlock (sym same) is))

pub begin-begun-requires-clause-formed : goal.begin-begun-requires-clause-formed
begin-begun-requires-clause-formed c = c.self.invariant.0

pub begin-begun-requires-clause-tied : goal.begin-begun-requires-clause-tied
begin-begun-requires-clause-tied c = c.self.invariant.1

pub begin-begun-requires-clause-few : goal.begin-begun-requires-clause-few
begin-begun-requires-clause-few c = c.self.invariant.2

pub whole-requires-clause-formed : goal.whole-requires-clause-formed
whole-requires-clause-formed c = c.begin-begun.ensures.formed

pub whole-requires-clause-tied : goal.whole-requires-clause-tied
whole-requires-clause-tied c = c.begin-begun.ensures.tied

pub whole-requires-clause-few : goal.whole-requires-clause-few
whole-requires-clause-few c = c.begin-begun.ensures.few

pub returns-clause-whole : goal.returns-clause-whole
returns-clause-whole c = c.whole.ensures.whole

pub returns-clause-begun : goal.returns-clause-begun
returns-clause-begun c = subst (λ (s : Physical). OnTrue c.begin-begun.result ((block : ℕ) × IsChosen c.args.cold s block × BeginsBlock block s (seen (kept c.begin-begun.new.self)))) c.self.view_is c.begin-begun.ensures.begun

pub returns-clause-none : goal.returns-clause-none
returns-clause-none c = subst (λ (s : Physical). OnFalse c.begin-begun.result ((seen (kept c.begin-begun.new.self)) ≡ s)) c.self.view_is c.begin-begun.ensures.none

pub returns-clause-cannot : goal.returns-clause-cannot
returns-clause-cannot c = subst (λ (s : Physical). IsTrue c.begin-begun.result ↔ (CannotBegin c.args.cold s → ⊥)) c.self.view_is c.begin-begun.ensures.cannot
