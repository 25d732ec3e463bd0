use Rattle.std.proofs.Common.{◌≡◌, sym, subst, ◌∙◌, refl, Some}
use Rattle.std.specs.Option.{IsSome}
use mathlib.Core.Option.{some-injective}
use Rattle.nl_turns.specs.Rule.{by_entries}
use Rattle.nl_turns.proofs.Begins.{lock_end}
use Rattle.nl_turns.proofs.steps.close.Goals as goal

pub unwrap-value-requires : goal.unwrap-value-requires
unwrap-value-requires g c =
    let e = lock_end (by_entries (g.V.Kept.stands c.args.table.shared.key.value.value)) _ _ _ _ _ _ c.requires.idle.0 c.requires.first.0 c.requires.first.1 c.close_with-closed.ensures.values.2 in
    subst IsSome (some-injective _ _ (sym e.1 ∙ c.take.ensures.value)) refl

pub returns : goal.returns
returns g c =
    let origin = c.args.table.shared.key.value.value in
    let e = lock_end (by_entries (g.V.Kept.stands origin)) _ _ _ _ _ _ c.requires.idle.0 c.requires.first.0 c.requires.first.1 c.close_with-closed.ensures.values.2 in
    let both : Some e.0 ≡ Some c.unwrap-value.result = some-injective _ _ (sym e.1 ∙ c.take.ensures.value) ∙ c.unwrap-value.ensures in
    let same : e.0 ≡ c.unwrap-value.result = cc both in
    subst (λ y. by_entries (g.V.Kept.stands origin) c.args.place.me.0.opening c.args.place.me.0.seen y) same e.2
