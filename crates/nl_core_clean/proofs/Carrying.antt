-- How pages are carried from names to names.
use Rattle.std.proofs.Common.{◌≡◌, ◌⊎◌, inl, inr, ⊎_elim, ℕ, ◌<◌, ◌≤◌, ◌==◌, Some, None, refl, sym, ◌∙◌, ap, subst, arith, eq-eqb, ne_eqb}
use Rattle.std.proofs.lemmas.Bool.{cases_eq, cases_lt, cond-true, cond-false}
use Rattle.std.proofs.lemmas.Option.{none-some}
use Rattle.nl_field.specs.CrashStates.{top}
use Rattle.nl_spec_holders.specs.Holding.{Holding}
use Rattle.nl_spec_holders.specs.Laws.{PreservesHolding}
use Rattle.nl_spec_holders.proofs.LawProofs.{copy_keeps, erase_keeps}
use Rattle.nl_iface.specs.Moves.{Copies}
use Rattle.nl_iface.specs.Names.{Has, LivePage, Names, SameTables, told_page, without_page}
use Rattle.nl_iface.specs.declared.Callback.{Callback}
use Rattle.nl_core_clean.specs.Carried.{CarriesPages}

keeps_then : {u v w : Holding} → PreservesHolding u v → PreservesHolding v w → PreservesHolding u w
keeps_then a b = record { holds = λ h. b.holds (a.holds h); committed = λ h k. b.committed (a.holds h) (a.committed h k) }

pub carries_then : {f h k : ℕ → ℕ → Type 0} {s t u : Names} → ((p q r : ℕ) → f p q → h q r → k p r) → CarriesPages f s t → CarriesPages h t u → CarriesPages k s u
carries_then by a b = record {
  holders = λ v. keeps_then (a.holders v) (b.holders v);
  was_live = λ r page is. let x = b.was_live r page is in let y = a.was_live x.0 page x.1 in (y.0, y.1, by y.0 x.0 r y.2 x.2);
  stays_live = λ p page is. let x = a.stays_live p page is in let y = b.stays_live x.0 page x.1 in (y.0, y.1, by p x.0 y.0 x.2 y.2);
  pending = λ c has. let x = a.pending c has in let y = b.pending c x.0 in (y.0, y.1 ∙ x.1);
  posted = λ c has. ⊎_elim
      (λ was. let y = b.pending c was in let given = b.given in ⊎_elim (λ old. inl old) (λ new. inr (y.1 ∙ new.0, λ below. new.1 (omega (arith, below, given)))) (a.posted c was))
      (λ new. inr (new.0, λ below. let lt = new.1 below in let given = a.given in omega (arith, lt, given)))
      (b.posted c has);
  given = let first = a.given in let second = b.given in omega (arith, first, second);
}

-- the tables are the same
pub same_carries : (alike : ℕ → ℕ → Type 0) (s t : Names) → SameTables s t → ((p : ℕ) (page : LivePage) → s.live p ≡ Some page → alike p p) → CarriesPages alike s t
same_carries alike s t k self = record {
  holders = λ v. erase_keeps (record v { names = s }) t k;
  was_live = λ q page is. let was = sym (k.live q) ∙ is in (q, was, self q page was);
  stays_live = λ p page is. (p, k.live p ∙ is, self p page is);
  pending = λ c has. (subst (λ xs. Has xs c) (sym k.pending) has, k.handled c.number);
  posted = λ c has. inl (subst (λ xs. Has xs c) k.pending has);
  given = let same = k.posted in omega (arith, same);
}

pub same_itself : (s : Names) → SameTables s s
same_itself s = record { live = λ q. refl; pairs = refl; pending = refl; handled = λ n. refl; posted = refl }

-- a page is moved
pub move_carries : (alike : ℕ → ℕ → Type 0) (c : Callback) (s t : Names) → Copies c s t → alike c.before c.after → ((p : ℕ) (page : LivePage) → s.live p ≡ Some page → alike p p) → CarriesPages alike s t
move_carries alike c s t k moved self = record {
  holders = λ v. copy_keeps (record v { names = s }) t c k;
  was_live = was;
  stays_live = λ p page is. ⊎_elim
      (λ same. (c.after, at_after ∙ sym k.was ∙ (ap s.live (sym same) ∙ is), subst (λ x. alike x c.after) (sym same) moved))
      (λ far. (p, elsewhere p (λ after. none-some page (sym k.dead ∙ (ap s.live (sym after) ∙ is))) ∙ (cond-false (p == c.before) None (s.live p) (ne_eqb p c.before far) ∙ is), self p page is))
      (cases_eq p c.before);
  pending = λ d has. (k.kept d has, k.handled d has);
  posted = λ d has. ⊎_elim
      (λ same. inr (subst (λ (x : Callback). t.handled x.number ≡ None) (sym same) k.unhandled, subst (λ (x : Callback). t.posted < top → s.posted < x.number) (sym same) new))
      (λ was. inl was)
      (k.only d has);
  given = later;
}
  where
    at_after : t.live c.after ≡ Some (told_page c)
    at_after = k.live c.after ∙ cond-true (c.after == c.after) (Some (told_page c)) (without_page s.live c.before c.after) (eq-eqb c.after c.after refl)

    elsewhere : (q : ℕ) → (q ≡ c.after → ⊥) → t.live q ≡ without_page s.live c.before q
    elsewhere q far = k.live q ∙ cond-false (q == c.after) (Some (told_page c)) (without_page s.live c.before q) (ne_eqb q c.after far)

    was : (q : ℕ) (page : LivePage) → t.live q ≡ Some page → (p : ℕ) × (s.live p ≡ Some page) × alike p q
    was q page is = ⊎_elim
        (λ same. (c.before, k.was ∙ (sym at_after ∙ (ap t.live (sym same) ∙ is)), subst (λ x. alike c.before x) (sym same) moved))
        (λ far. by far (cases_eq q c.before))
        (cases_eq q c.after)
      where
        by : (q ≡ c.after → ⊥) → (q ≡ c.before) ⊎ (q ≡ c.before → ⊥) → (p : ℕ) × (s.live p ≡ Some page) × alike p q
        by far (inl same) = absurd (none-some page (sym (cond-true (q == c.before) None (s.live q) (eq-eqb q c.before same)) ∙ (sym (elsewhere q far) ∙ is)))
        by far (inr other) = let here = sym (cond-false (q == c.before) None (s.live q) (ne_eqb q c.before other)) ∙ (sym (elsewhere q far) ∙ is) in (q, here, self q page here)

    later : s.posted ≤ t.posted
    later = ⊎_elim (λ below. let one = k.numbered below in let next = one.1 in omega (arith, next)) (λ end. let same = k.stands end in omega (arith, same)) (cases_lt s.posted top)

    new : t.posted < top → s.posted < c.number
    new below = ⊎_elim (λ under. let one = k.numbered under in let number = one.0 in omega (arith, number)) (λ end. let same = k.stands end in absurd (omega (arith, same, end, below))) (cases_lt s.posted top)
