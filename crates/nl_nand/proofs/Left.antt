-- What a crash may have left once an operation was begun and noted.
use Rattle.std.proofs.Common.{◌≡◌, ◌⊎◌, inl, inr, ⊎_elim, ℕ, ◌≤◌, List, ◌∷◌, sym, ◌∙◌, ap, subst, IsTrue, le_trans, le_of_eq}
use Rattle.nl_field.specs.Page.{Page, Image, is_page}
use Rattle.nl_nand.specs.Nand.{Cut}
use Rattle.nl_nand.specs.Record.{IsCrashState, low_of, high_of, moment_of, value_in, undone}
use Rattle.nl_nand.specs.RecordLaws.{IsHistory, history_now}
use Rattle.nl_nand.specs.ImageLaws.{cut_fits}
use Rattle.nl_nand.specs.declared.record.Entry.{Entry}

-- An operation was begun and noted: `new` and k are the image and the clock after it.
pub record Noted (h next : List Entry) (old new : Image) (clock k low high : ℕ) (value : Page) : Type 0 where
  pub noted : Entry
  pub newest : next ≡ noted ∷ h
  pub at : low_of noted ≡ low
  pub end : high_of noted ≡ high
  pub is : value_in noted new ≡ value
  pub moment : moment_of noted ≡ clock
  pub undo : undone noted new ≡ old
  pub later : clock ≤ k

module _ {h next : List Entry} {old new : Image} {clock k low high : ℕ} {value : Page} (noted : Noted h next old new clock k low high value) where
  abbrev e : Entry
  e = noted.noted

  same_cut : (c : Image) → Cut (low_of e) (high_of e) (value_in e new) (undone e new) c ≡ Cut low high value old c
  same_cut c i = Cut (noted.at i) (noted.end i) (noted.is i) (noted.undo i) c

  same_old : (m : ℕ) (c : Image) → IsCrashState h (undone e new) (moment_of e) m c ≡ IsCrashState h old clock m c
  same_old m c i = IsCrashState h (noted.undo i) (noted.moment i) m c

  same_left : (m : ℕ) (c : Image) → IsCrashState next new k m c ≡ IsCrashState (e ∷ h) new k m c
  same_left m c i = IsCrashState (noted.newest i) new k m c

  pub noted_each : (m : ℕ) (c : Image) → IsCrashState next new k m c → IsCrashState h old clock m c ⊎ (((m ≡ clock) × Cut low high value old c) ⊎ ((m ≡ k) × (c ≡ new)))
  unfolding IsCrashState
  noted_each m c l = ⊎_elim (λ now. inr (inr now))
      (λ past. ⊎_elim (λ cut. inr (inl (cut.0 ∙ noted.moment, subst (λ t. t) (same_cut c) cut.1))) (λ before. inl (subst (λ t. t) (same_old m c) before)) past)
      (subst (λ t. t) (same_left m c) l)

  pub noted_keeps : (m : ℕ) (c : Image) → IsCrashState h old clock m c → IsCrashState next new k m c
  unfolding IsCrashState
  noted_keeps m c l = subst (λ t. t) (sym (same_left m c)) (inr (inr (subst (λ t. t) (sym (same_old m c)) l)))

  pub noted_reached : (c : Image) → Cut low high value old c → IsCrashState next new k clock c
  unfolding IsCrashState
  noted_reached c cut = subst (λ t. t) (sym (same_left clock c)) (inr (inl (sym noted.moment, subst (λ t. t) (sym (same_cut c)) cut)))

  pub noted_history : Cut low high value old new → IsTrue (is_page value) → IsHistory h old clock → IsHistory next new k
  noted_history cut page history = subst (λ n. IsHistory n new k) (sym noted.newest) (
    cut_fits cut page (history_now h old clock history),
    ap is_page noted.is ∙ page,
    le_trans (le_of_eq noted.moment) noted.later,
    (let same : IsHistory h (undone e new) (moment_of e) ≡ IsHistory h old clock = (λ i. IsHistory h (noted.undo i) (noted.moment i)) in subst (λ t. t) (sym same) history),
  )
