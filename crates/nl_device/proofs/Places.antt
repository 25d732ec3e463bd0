-- The least page of a stamp outside the spare block, from the copies that are noted.
use Rattle.std.proofs.Common.{◌≡◌, ℕ, ◌/◌, Bool, true, false, not, ◌&&◌, List, [], ◌∷◌, Option, Some, None, option_map, refl, sym, ◌∙◌, ap, ⊎_elim}
use Rattle.std.specs.Prelude.{◌==◌, find}
use Rattle.std.proofs.lemmas.Bool.{cases_Bool, cond-false, cond-true, true≢false}
use Rattle.std.proofs.lemmas.Option.{none-some, same_Some}
use Rattle.nl_field.specs.Space.{is_outside}
use Rattle.nl_device.specs.Kept.{copies_of, copy_apart}
use Rattle.nl_device.specs.declared.kept.copies.Copies.{Copies}
use Rattle.nl_device.specs.declared.kept.page.KeptPage.{KeptPage}
use Rattle.nl_device.proofs.Lookups.{number_is}
use Rattle.nl_device.proofs.Noting.{none_stronger}

-- the first that passes a test is the first that passes a stronger one, where it passes that
pub first_stronger : {X : Type 0} (p q : X → Bool) (xs : List X) (x : X) → find p xs ≡ Some x → q x ≡ true → find (λ y. p y && q y) xs ≡ Some x
first_stronger p q [] x is passes = absurd (none-some x is)
first_stronger {X} p q (y ∷ ys) x is passes =
    ⊎_elim
    (λ here.
    let same : y ≡ x = same_Some y x (sym (cond-true (p y) (Some y) (find p ys) here) ∙ is) in
    cond-true (p y && q y) (Some y) (find (λ z. p z && q z) ys) ((λ i. here i && q (same i)) ∙ passes) ∙ ap (λ z. Some z) same)
    (λ other.
    cond-false (p y && q y) (Some y) (find (λ z. p z && q z) ys) (λ i. other i && q y)
    ∙ first_stronger p q ys x (sym (cond-false (p y) (Some y) (find p ys) other) ∙ is) passes)
    (cases_Bool (p y))

-- the least page of the stamp outside the spare block
abbrev pub least : ℕ → Option ℕ → List KeptPage → ℕ → Option ℕ
least size spare pages stamp = option_map (λ k. k.page) (find (λ k. k.stamp == stamp && is_outside size spare k.page) pages)

with_copies : (size : ℕ) (pages : List KeptPage) (stamp : ℕ) (o : Option KeptPage) (c : Copies) → option_map {U = Copies} (λ k. record { first = k.page; apart = copy_apart size pages stamp k.page }) o ≡ Some c
    → (r : KeptPage) × (o ≡ Some r) × (r.page ≡ c.first) × (copy_apart size pages stamp r.page ≡ c.apart)
with_copies size pages stamp None c is = absurd (none-some c is)
with_copies size pages stamp (Some r) c is =
    let same = same_Some (record { first = r.page; apart = copy_apart size pages stamp r.page }) c is in
    (r, refl, ap (λ (x : Copies). x.first) same, ap (λ (x : Copies). x.apart) same)

-- the page that is found first, and its other copy
pub first_found : (size : ℕ) (pages : List KeptPage) (stamp : ℕ) (c : Copies) → copies_of size pages stamp ≡ Some c
    → (r : KeptPage) × (find (λ k. k.stamp == stamp) pages ≡ Some r) × (r.page ≡ c.first) × (copy_apart size pages stamp r.page ≡ c.apart)
unfolding copies_of
first_found size pages stamp c is = with_copies size pages stamp (find (λ k. k.stamp == stamp) pages) c is

pub none_found : (size : ℕ) (pages : List KeptPage) (stamp : ℕ) → copies_of size pages stamp ≡ None → find (λ k. k.stamp == stamp) pages ≡ None
unfolding copies_of
none_found size pages stamp is = by (find (λ k. k.stamp == stamp) pages) is
  where
    by : (o : Option KeptPage) → option_map {U = Copies} (λ k. record { first = k.page; apart = copy_apart size pages stamp k.page }) o ≡ None → o ≡ None
    by None is = refl
    by (Some k) is = absurd (none-some (record { first = k.page; apart = copy_apart size pages stamp k.page }) (sym is))

pub least_none : (size : ℕ) (spare : Option ℕ) (pages : List KeptPage) (stamp : ℕ) → copies_of size pages stamp ≡ None → least size spare pages stamp ≡ None
least_none size spare pages stamp is = ap (option_map (λ k. k.page)) (none_stronger (λ k. k.stamp == stamp) (λ k. is_outside size spare k.page) pages (none_found size pages stamp is))

pub least_first : (size : ℕ) (spare : Option ℕ) (pages : List KeptPage) (stamp : ℕ) (c : Copies) → copies_of size pages stamp ≡ Some c → is_outside size spare c.first ≡ true → least size spare pages stamp ≡ Some c.first
least_first size spare pages stamp c is outside =
    let f = first_found size pages stamp c is in
    ap (option_map (λ k. k.page)) (first_stronger (λ k. k.stamp == stamp) (λ k. is_outside size spare k.page) pages f.0 f.1 (ap (is_outside size spare) f.2 ∙ outside))
    ∙ ap (λ n. Some n) f.2

not_block : (b : Bool) → not b ≡ false → b ≡ true
not_block true is = refl
not_block false is = sym is

pub least_apart : (size : ℕ) (spare : Option ℕ) (pages : List KeptPage) (stamp : ℕ) (c : Copies) → copies_of size pages stamp ≡ Some c → is_outside size spare c.first ≡ false → least size spare pages stamp ≡ c.apart
least_apart size None pages stamp c is outside = absurd (true≢false outside)
least_apart size (Some block) pages stamp c is outside =
    let f = first_found size pages stamp c is in
    let here : c.first / size ≡ block = number_is (c.first / size) block (not_block (c.first / size == block) outside) in
    ap (λ b. option_map (λ k. k.page) (find (λ k. k.stamp == stamp && not (k.page / size == b)) pages)) (sym here ∙ ap (λ n. n / size) (sym f.2)) ∙ f.3
