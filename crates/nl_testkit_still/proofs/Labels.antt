-- A list of labels after a page more or less.
use Rattle.std.proofs.Common.{◌≡◌, ◌⊎◌, inl, inr, ℕ, ◌<◌, ◌==◌, cond, List, Option, Some, None, option_map, length, get_or, set, sym, ◌∙◌, ap, eq-eqb, ne_eqb}
use Rattle.std.proofs.lemmas.Bool.{cases_eq, cond-true, cond-false}
use Rattle.std.proofs.lemmas.List.{get_or-set_same, get_or-set_other}
use Rattle.std.proofs.lemmas.Option.{none-some, same_Some}
use Rattle.nl_iface.specs.Names.{with_page, without_page}
use Rattle.nl_testkit_still.specs.Still.{label_at, live_at, page_of}
use Rattle.nl_testkit_still.specs.declared.still.Label.{Label}

-- the live pages with one more
pub set_live : (labels : List (Option Label)) (k : ℕ) (l : Label) → k < length labels → (q : ℕ) → live_at (set labels k (Some l)) q ≡ with_page (λ p. live_at labels p) k (page_of l) q
set_live labels k l within q = elim (cases_eq q k) [
  | inl is ↦ ap (λ n. live_at (set labels k (Some l)) n) is ∙ (ap (λ (o : Option Label). option_map page_of o) (get_or-set_same labels k (Some l) None within)
      ∙ sym (cond-true (q == k) (Some (page_of l)) (live_at labels q) (eq-eqb q k is)))
  | inr ne ↦ ap (λ (o : Option Label). option_map page_of o) (get_or-set_other labels k q (Some l) None ne) ∙ sym (cond-false (q == k) (Some (page_of l)) (live_at labels q) (ne_eqb q k ne))
]

-- with one less
pub clear_live : (labels : List (Option Label)) (k : ℕ) → k < length labels → (q : ℕ) → live_at (set labels k None) q ≡ without_page (λ p. live_at labels p) k q
clear_live labels k within q = elim (cases_eq q k) [
  | inl is ↦ ap (λ n. live_at (set labels k None) n) is ∙ (ap (λ (o : Option Label). option_map page_of o) (get_or-set_same labels k None None within)
      ∙ sym (cond-true (q == k) None (live_at labels q) (eq-eqb q k is)))
  | inr ne ↦ ap (λ (o : Option Label). option_map page_of o) (get_or-set_other labels k q None None ne) ∙ sym (cond-false (q == k) None (live_at labels q) (ne_eqb q k ne))
]

-- what stands there after a label more
pub set_label : (labels : List (Option Label)) (k : ℕ) (x : Label) (q : ℕ) (l : Label) → k < length labels → label_at (set labels k (Some x)) q ≡ Some l → ((q ≡ k) × (x ≡ l)) ⊎ ((q ≡ k → ⊥) × (label_at labels q ≡ Some l))
set_label labels k x q l within is = elim (cases_eq q k) [
  | inl same ↦ inl (same, same_Some x l (sym (get_or-set_same labels k (Some x) None within) ∙ (ap (λ n. label_at (set labels k (Some x)) n) (sym same) ∙ is)))
  | inr ne ↦ inr (ne, sym (get_or-set_other labels k q (Some x) None ne) ∙ is)
]

-- the label at a place, where the label of one place was taken away
pub clear_label : (labels : List (Option Label)) (k q : ℕ) (l : Label) → k < length labels → label_at (set labels k None) q ≡ Some l → (q ≡ k → ⊥) × (label_at labels q ≡ Some l)
clear_label labels k q l within is = elim (cases_eq q k) [
  | inl same ↦ absurd (none-some l (sym (get_or-set_same labels k None None within) ∙ (ap (λ n. label_at (set labels k None) n) (sym same) ∙ is)))
  | inr ne ↦ (ne, sym (get_or-set_other labels k q None None ne) ∙ is)
]
