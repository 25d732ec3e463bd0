-- How often a block was erased as a page of it is programmed next.
use Rattle.std.proofs.Common.{◌≡◌, ◌⊎◌, inl, inr, ⊎_elim, ℕ, zero, suc, ◌&&◌, Bool, true, false, cond, Option, Some, None, List, [], ◌∷◌, get_or, set, is_some, refl, sym, ◌∙◌, ap, subst}
use Rattle.std.proofs.lemmas.Bool.{cases_Bool, cases_eq, true≢false}
use Rattle.std.proofs.lemmas.List.{get_or-set_other}
use Rattle.nl_blocks.specs.Table.{Table, worn}
use Rattle.nl_pseg.specs.Segment.{CountsErases, Physical, erasures, is_free, is_soiled, soiled, wear_of, wear_with}
use Rattle.nl_pseg.specs.Seen.{seen}
use Rattle.nl_pseg_blocks.specs.Uses.{Use, use_at, use_in, SetsUse}
use Rattle.nl_pseg.specs.Kept.{Kept}
use Rattle.nl_pseg_blocks.proofs.Tables.{free_kept, restated_again}

-- a block in use
pub wear_used : (u : Use) (told : Option ℕ) → u.is_kept ≡ false → wear_with u told ≡ u.wear
wear_used u told used = ap (λ b. cond (b && is_some told) (worn u.wear) u.wear) used

-- a block that is not soiled
pub wear_clean : (u : Use) (told : Option ℕ) → is_some told ≡ false → wear_with u told ≡ u.wear
wear_clean u told clean = ap (λ b. cond (u.is_kept && b) (worn u.wear) u.wear) clean ∙ by u.is_kept
  where
    by : (b : Bool) → cond (b && false) (worn u.wear) u.wear ≡ u.wear
    by true = refl
    by false = refl

-- a block that is kept and soiled
pub wear_soiled : (u : Use) (told : Option ℕ) → u.is_kept ≡ true → is_some told ≡ true → wear_with u told ≡ worn u.wear
wear_soiled u told kept is = (λ i. cond (kept i && is i) (worn u.wear) u.wear)

-- a block that is as kept, as soiled, and was erased as often
pub wear_same : (a b : Use) (told now : Option ℕ) → b.is_kept ≡ a.is_kept → b.wear ≡ a.wear → now ≡ told → wear_with b now ≡ wear_with a told
wear_same a b told now kept wear marks = (λ i. cond (kept i && is_some (marks i)) (worn (wear i)) (wear i))

-- A Free block was taken, and erased where it was soiled.
pub taken_wear : (s : Kept) (t : Table) (block : ℕ) → SetsUse block false (wear_of (seen s) block) s.blocks t → (b : ℕ) → wear_with (use_in t b) (get_or (set s.soiled.items block None) b None) ≡ wear_of (seen s) b
taken_wear s t block r b = ⊎_elim
    (λ at. wear_used (use_in t b) (get_or (set s.soiled.items block None) b None) (ap (λ n. (use_in t n).is_kept) at ∙ ap (λ (u : Use). u.is_kept) r.here)
    ∙ (ap (λ n. (use_in t n).wear) at ∙ (ap (λ (u : Use). u.wear) r.here ∙ ap (wear_of (seen s)) (sym at))))
    (λ ne. (λ i. wear_with (r.others b ne i) (get_or-set_other s.soiled.items block b None None ne i)))
    (cases_eq b block)

-- a Free block was taken that is not soiled
pub taken_clean : (s : Kept) (t : Table) (block : ℕ) → is_soiled (seen s) block ≡ false → SetsUse block false (use_in s.blocks block).wear s.blocks t → SetsUse block false (wear_of (seen s) block) s.blocks t
taken_clean s t block clean r = subst (λ n. SetsUse block false n s.blocks t) (sym (wear_clean (use_in s.blocks block) (soiled (seen s) block) clean)) r

-- a soiled one was taken, and erased
pub taken_soiled : (s : Kept) (mid t : Table) (block : ℕ) → (use_in s.blocks block).is_free ≡ true → is_soiled (seen s) block ≡ true → SetsUse block false (use_in s.blocks block).wear s.blocks mid → SetsUse block false (worn (use_in mid block).wear) mid t
    → SetsUse block false (wear_of (seen s) block) s.blocks t
taken_soiled s mid t block free is r out = subst (λ n. SetsUse block false n s.blocks t) (ap (λ (u : Use). worn u.wear) r.here ∙ sym (wear_soiled (use_in s.blocks block) (soiled (seen s) block) (free_kept s.blocks block free) is)) (restated_again r out)

-- one mark less
pub none_there : (xs : List (Option ℕ)) (at : ℕ) → get_or (set xs at None) at None ≡ None
none_there [] zero = refl
none_there [] (suc at) = refl
none_there (x ∷ xs) zero = refl
none_there (x ∷ xs) (suc at) = none_there xs at

none_is : (told : Option ℕ) → is_some told ≡ false → told ≡ None
none_is None clean = refl
none_is (Some n) clean = absurd (true≢false clean)

-- a Free block was taken, and erased where it was soiled
pub taken_counts : (s : Kept) (t : Table) (block : ℕ) → (use_in s.blocks block).is_free ≡ true → SetsUse block false (wear_of (seen s) block) s.blocks t → (b : ℕ)
    → (((use_in t b).wear ≡ erasures (seen s) b) × (get_or (set s.soiled.items block None) b None ≡ soiled (seen s) b))
    ⊎ ((is_free (seen s) b ≡ true) × (is_some (soiled (seen s) b) ≡ true) × (get_or (set s.soiled.items block None) b None ≡ None) × ((use_in t b).wear ≡ worn (erasures (seen s) b)))
taken_counts s t block free r b = ⊎_elim here (λ ne. inl (ap (λ (u : Use). u.wear) (r.others b ne), get_or-set_other s.soiled.items block b None None ne)) (cases_eq b block)
  where
    here : b ≡ block → (((use_in t b).wear ≡ erasures (seen s) b) × (get_or (set s.soiled.items block None) b None ≡ soiled (seen s) b))
        ⊎ ((is_free (seen s) b ≡ true) × (is_some (soiled (seen s) b) ≡ true) × (get_or (set s.soiled.items block None) b None ≡ None) × ((use_in t b).wear ≡ worn (erasures (seen s) b)))
    here at =
        let now : (use_in t b).wear ≡ wear_of (seen s) b = ap (λ n. (use_in t n).wear) at ∙ (ap (λ (u : Use). u.wear) r.here ∙ ap (wear_of (seen s)) (sym at)) in
        let gone : get_or (set s.soiled.items block None) b None ≡ None = ap (λ n. get_or (set s.soiled.items block None) n None) at ∙ none_there s.soiled.items block in
        let free_b : (use_in s.blocks b).is_free ≡ true = ap (λ n. (use_in s.blocks n).is_free) at ∙ free in
        ⊎_elim
        (λ is. inr (free_b, is, gone, now ∙ wear_soiled (use_in s.blocks b) (soiled (seen s) b) (free_kept s.blocks b free_b) is))
        (λ clean. inl (now ∙ wear_clean (use_in s.blocks b) (soiled (seen s) b) clean, gone ∙ sym (none_is (soiled (seen s) b) clean)))
        (cases_Bool (is_some (soiled (seen s) b)))

-- no block was erased
pub counts_same : {old new : Physical} → ((b : ℕ) → erasures new b ≡ erasures old b) → ((b : ℕ) → soiled new b ≡ soiled old b) → CountsErases old new
counts_same wears same = record { each = λ b. inl (wears b, same b) }

-- one step after the other, where no block became Free
pub counts_then : {a b c : Physical} → ((k : ℕ) → is_free b k ≡ true → is_free a k ≡ true) → CountsErases a b → CountsErases b c → CountsErases a c
counts_then frees f g = record {
  each = λ k. ⊎_elim
      (λ x. ⊎_elim
      (λ y. inl (y.0 ∙ x.0, y.1 ∙ x.1))
      (λ y. inr (frees k y.0, ap is_some (sym x.1) ∙ y.1, y.2, y.3 ∙ ap worn x.0))
      (g.each k))
      (λ x. ⊎_elim
      (λ y. inr (x.0, x.1, y.1 ∙ x.2, y.0 ∙ x.3))
      (λ y. absurd (true≢false (sym y.1 ∙ ap is_some x.2)))
      (g.each k))
      (f.each k);
}

-- the same use and marks
pub counts_used : {old new : Physical} → ((b : ℕ) → use_at new.first new.uses b ≡ use_at old.first old.uses b) → new.soiled ≡ old.soiled → CountsErases old new
counts_used uses marks = counts_same (λ b. ap (λ (u : Use). u.wear) (uses b)) (λ b. ap (λ (l : List (Option ℕ)). get_or l b None) marks)

-- erases stay counted where each block stays as it is
pub counts_after : {a b c : Physical} → CountsErases a b → ((k : ℕ) → erasures c k ≡ erasures b k) → ((k : ℕ) → soiled c k ≡ soiled b k) → CountsErases a c
counts_after f wears same = record {
  each = λ k. ⊎_elim
      (λ x. inl (wears k ∙ x.0, same k ∙ x.1))
      (λ x. inr (x.0, x.1, same k ∙ x.2, wears k ∙ x.3))
      (f.each k);
}
