use Rattle.std.proofs.Common.{ℕ, ◌-◌, ◌*◌, ◌<◌, ◌∙◌, ⊎_elim, min, sym, ap, subst}
use Rattle.std.proofs.lemmas.Bool.{cases_lt}
use Rattle.nl_meta.specs.Pages.{page_of}
use Rattle.nl_dir.proofs.LookProofs.{row-named, row-none}
use Rattle.nl_dir.proofs.look.place_of.Goals as goal

pub returns-in-Some : goal.returns-in-Some
returns-in-Some c =
    let size = c.count-count.ensures.value in
    let most = c.min.ensures ∙ ap (λ (n : ℕ). min (n - 64 * c.loop-row.row) 64) size in
    row-named (page_of c.args.meta.now) c.args.rec.now c.loop-row.row c.in-Some.slot c.args.name.now c.page_at.result.now.main c.requires c.page_at.ensures
    (subst (λ (n : ℕ). c.in-Some.slot < n) most c.in-Some.ensures.below) c.in-Some.ensures.some

pub loop-row-preserved : goal.loop-row-preserved
loop-row-preserved c = λ i e high below at same.
    let size = c.count-count.ensures.value in
    let most = c.min.ensures ∙ ap (λ (n : ℕ). min (n - 64 * c.loop-row.row) 64) size in
    ⊎_elim (λ before. c.loop-row.invariant i e before below at same)
    (λ low.
    row-none (page_of c.args.meta.now) c.args.rec.now c.loop-row.row c.args.name.now c.page_at.result.now.main c.page_at.ensures
    (λ slot under. c.in_default.ensures.none slot (subst (λ (n : ℕ). slot < n) (sym most) under)) i e low high below at same)
    (cases_lt i (64 * c.loop-row.row))
