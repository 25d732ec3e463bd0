use Rattle.std.proofs.Common.{sym, ap, ◌∷◌, ◌∙◌, ◌≡◌, ℕ}
use Rattle.std.proofs.lemmas.Bool.{not-true}
use Rattle.nl_meta.specs.Pages.{touched}
use Rattle.nl_meta.proofs.Rising.{touched_front}
use Rattle.nl_meta.proofs.addresses.is_front.Goals as goal

pub returns-then-rest : goal.returns-then-rest
returns-then-rest c = λ h.
    let is : c.args.recent.now ≡ c.args.vaddr ∷ c.in-Some.rest.now =
    sym c.as_slice.ensures.value ∙ c.in-Some.ensures.cases.0 ∙ ap (λ (a : ℕ). a ∷ c.in-Some.rest.now) c.if-first-vaddr.false in
    ap (touched c.args.vaddr) is ∙ touched_front c.args.vaddr c.in-Some.rest.now (sym c.has.ensures ∙ not-true c.has.result h) c.if-rest.true ∙ sym is
