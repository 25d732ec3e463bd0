-- The first fault of phases in a row.
use Rattle.std.proofs.Common.{◌≡◌, ℕ, List, [], ◌∷◌, ◌++◌, refl, sym, ap, ◌∙◌, Option, Some, None, option_map}
use Rattle.nl_field.specs.declared.place.Place.{Place}
use Rattle.nl_field.specs.declared.place.What.{What}
use Rattle.nl_meta.specs.Walk.{first_fault}
use Rattle.nl_meta.proofs.Lists.{none_some}
use Rattle.nl_recover.specs.Walking.{place_in}

-- the place of a phase, or else a later one
abbrev pub or-later : What → Option ℕ → Option Place → Option Place
or-later w None later = later
or-later w (Some n) later = Some (place_in w n)

module _ (fault : What → Option ℕ) where
  pub first : (w : What) (ws : List What) → first_fault fault (w ∷ ws) ≡ or-later w (fault w) (first_fault fault ws)
  first w ws = by (fault w)
    where
      by : (o : Option ℕ) → elim o as (λ o. Option Place) [ None ↦ first_fault fault ws | Some n ↦ Some (place_in w n) ] ≡ or-later w o (first_fault fault ws)
      by None = refl
      by (Some n) = refl

  pub none-at : (w : What) → None ≡ option_map (place_in w) (fault w) → fault w ≡ None
  none-at w e = by (fault w) e
    where
      by : (o : Option ℕ) → None ≡ option_map (place_in w) o → o ≡ None
      by None e = refl
      by (Some n) e = absurd (none_some (place_in w n) e)

  pub goes : (w : What) (ws : List What) → fault w ≡ None → first_fault fault (w ∷ ws) ≡ first_fault fault ws
  goes w ws e = first w ws ∙ ap (λ (o : Option ℕ). or-later w o (first_fault fault ws)) e

  pub stops : (w : What) (ws : List What) (p : Place) → Some p ≡ option_map (place_in w) (fault w) → Some p ≡ first_fault fault (w ∷ ws)
  stops w ws p e = by (fault w) e ∙ sym (first w ws)
    where
      by : (o : Option ℕ) → Some p ≡ option_map (place_in w) o → Some p ≡ or-later w o (first_fault fault ws)
      by None e = absurd (none_some p (sym e))
      by (Some n) e = e

  pub ends : (w : What) (o : Option Place) → o ≡ option_map (place_in w) (fault w) → o ≡ first_fault fault (w ∷ [])
  ends w o e = e ∙ by (fault w) ∙ sym (first w [])
    where
      by : (o : Option ℕ) → option_map (place_in w) o ≡ or-later w o None
      by None = refl
      by (Some n) = refl

  pub joins-none : (ws vs : List What) → first_fault fault ws ≡ None → first_fault fault (ws ++ vs) ≡ first_fault fault vs
  joins-none [] vs e = refl
  joins-none (w ∷ ws) vs e = by (fault w) refl (sym (first w ws) ∙ e) (joins-none ws vs)
    where
      by : (o : Option ℕ) → fault w ≡ o → or-later w o (first_fault fault ws) ≡ None → (first_fault fault ws ≡ None → first_fault fault (ws ++ vs) ≡ first_fault fault vs)
          → first_fault fault (w ∷ (ws ++ vs)) ≡ first_fault fault vs
      by None is e rest = goes w (ws ++ vs) is ∙ rest e
      by (Some n) is e rest = absurd (none_some _ (sym e))

  pub joins-some : (ws vs : List What) (p : Place) → first_fault fault ws ≡ Some p → first_fault fault (ws ++ vs) ≡ Some p
  joins-some [] vs p e = absurd (none_some p e)
  joins-some (w ∷ ws) vs p e = by (fault w) refl (sym (first w ws) ∙ e) (joins-some ws vs p)
    where
      by : (o : Option ℕ) → fault w ≡ o → or-later w o (first_fault fault ws) ≡ Some p → (first_fault fault ws ≡ Some p → first_fault fault (ws ++ vs) ≡ Some p)
          → first_fault fault (w ∷ (ws ++ vs)) ≡ Some p
      by None is e rest = goes w (ws ++ vs) is ∙ rest e
      by (Some n) is e rest = first w (ws ++ vs) ∙ ap (λ (o : Option ℕ). or-later w o (first_fault fault (ws ++ vs))) is ∙ e
