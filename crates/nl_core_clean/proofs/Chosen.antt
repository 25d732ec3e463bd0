-- The victim of one cleaning, from its first move on.
use Rattle.std.proofs.Common.{◌≡◌, ◌⊎◌, inl, inr, ⊎_elim, ℕ, cond, is_some, Option, Some, None, refl, sym, ◌∙◌, ap, subst, arith}
use Rattle.std.proofs.lemmas.Option.{none-some, same_Some}
use Rattle.nl_iface.specs.Victims.{StaysOrTakes}
use Rattle.nl_iface.specs.declared.moving_pages.MovingPages.{Ghosts as Moving}
use Rattle.nl_core_clean.specs.Victim.{IsVictimOrMostDead}

module _ {D : Type 0} (m : Moving D) where
  -- what holds before each move: while none is in hand, nothing was done
  pub record Choosing (start now : D) : Type 0 where
    pub chosen : StaysOrTakes (m.most_dead start) (m.victim start) (m.victim now)
    pub none : m.victim now ≡ None → now ≡ start

  pub begin_choosing : (s : D) → Choosing s s
  begin_choosing s = record { chosen = inl refl; none = λ n. refl }

  -- one call more, which takes a victim only where none is in hand
  pub chosen_then : (start s t : D) → Choosing start s → StaysOrTakes (m.most_dead s) (m.victim s) (m.victim t) → StaysOrTakes (m.most_dead start) (m.victim start) (m.victim t)
  chosen_then start s t c (inl same) = subst (λ v. StaysOrTakes (m.most_dead start) (m.victim start) v) (sym same) c.chosen
  chosen_then start s t c (inr (none, takes)) = subst (λ x. StaysOrTakes (m.most_dead x) (m.victim x) (m.victim t)) (c.none none) (inr (none, takes))

  pub choosing_on : (start s t : D) → Choosing start s → StaysOrTakes (m.most_dead s) (m.victim s) (m.victim t) → (m.victim t ≡ None → ⊥) → Choosing start t
  choosing_on start s t c takes some = record { chosen = chosen_then start s t c takes; none = λ none. absurd (some none) }

  -- the block that is in hand is the chosen one
  pub is_chosen : (start now : D) (block : ℕ) → StaysOrTakes (m.most_dead start) (m.victim start) (m.victim now) → m.victim now ≡ Some block → IsVictimOrMostDead m start block
  is_chosen start now block (inl same) is = inl (sym same ∙ is)
  is_chosen start now block (inr (none, (b, dead, took))) is = inr (none, subst (m.most_dead start) (same_Some b block (sym took ∙ is)) dead)

  -- a victim that the numbers count is one
  pub some_in_hand : (v : Option ℕ) (victim : ℕ) → victim ≡ cond (is_some v) 1 0 → victim ≡ 1 → v ≡ None → ⊥
  some_in_hand None victim counted one none = let z = counted in let o = one in absurd (omega (arith, z, o))
  some_in_hand (Some b) victim counted one none = absurd (none-some b (sym none))

  none_in_hand : (v : Option ℕ) (victim : ℕ) → victim ≡ cond (is_some v) 1 0 → victim ≡ 0 → v ≡ None
  none_in_hand None victim counted none = refl
  none_in_hand (Some b) victim counted none = let one = counted in let z = none in absurd (omega (arith, one, z))

  -- where the numbers count none, none is in hand before and after
  pub same_none : (s t : D) (before after : ℕ) → before ≡ cond (is_some (m.victim s)) 1 0 → after ≡ cond (is_some (m.victim t)) 1 0 → before ≡ 0 → after ≡ 0 → m.victim t ≡ m.victim s
  same_none s t before after was is none rests = none_in_hand (m.victim t) after is rests ∙ sym (none_in_hand (m.victim s) before was none)
