use Rattle.std.proofs.Common.{◌≡◌, Bool, true, false, ℕ, length, ap, refl, sym, ◌∙◌, ◌⊎◌, inl, inr}
use Rattle.std.proofs.lemmas.Bool.{cases_Bool}
use Rattle.nl_meta.specs.Pages.{Pages}
use Rattle.nl_meta.specs.Steps.{Freshens}
use Rattle.nl_test_metadata.proofs.meta.fresh_page.Goals as goal

same : (old new : Pages) (v : ℕ) (b : Bool) → (b ≡ true → Freshens v old new) → (b ≡ false → new ≡ old) → length new.running ≡ length old.running
same old new v true done refused = (done refl).keeps.count
same old new v false done refused = ap (λ (p : Pages). length p.running) (refused refl)

pub returns : goal.returns
returns c = same c.args.meta.now c.fresh.new.self c.args.vaddr c.fresh.result c.fresh.ensures.done c.fresh.ensures.refused ∙ c.requires.count
