use Rattle.std.proofs.Common.{⊎_elim, ℕ, refl, sym, ◌∙◌}
use Rattle.std.proofs.lemmas.Option.{none-some}
use Rattle.nl_iface.specs.Left.{ChangesInBlock}
use Rattle.nl_iface.specs.OwnMap.{InventsName}
use Rattle.nl_iface.specs.Stored.{Stored}
use Rattle.nl_iface.proofs.laws.own_maps_are_refused.Goals as goal

pub returns-clause-named : goal.returns-clause-named
returns-clause-named g c tag main old new at left = ⊎_elim (λ none. absurd (none.0 tt)) (λ there. there.1) left.now

-- no other page than the named one was programmed
none_invented : (pages name : ℕ) (old c : Stored) → ChangesInBlock pages name old c → InventsName name old c → ⊥
none_invented pages name old c others i = ⊎_elim
    (λ same. i.programs.did_not (sym same ∙ i.programs.holds))
    (λ gone. none-some i.holds (sym gone.1 ∙ i.programs.holds))
    (others i.page i.invented)

pub returns-clause-invented : goal.returns-clause-invented
returns-clause-invented g c tag main gone before old new at tells well places invents = none_invented _ _ _ _ (places.block tells well) invents

pub returns-clause-silent : goal.returns-clause-silent
returns-clause-silent g c old new did moves = ⊎_elim
    (λ m. m.names.new_number m.callback (moves.silent m.callback m.names.added) refl)
    (λ begun. moves.left (begun.0.tables.live moves.before ∙ moves.was))
    did

pub returns-clause-led : goal.returns-clause-led
returns-clause-led g c names is none away = let told = is.told away.name away.away in none told.0 told.1
