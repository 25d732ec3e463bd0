-- The copies of each stamp after one more page.
use Rattle.std.proofs.Common.{◌≡◌, ℕ, ◌/◌, Bool, true, false, not, ◌&&◌, ◌||◌, cond, List, [], ◌∷◌, ◌++◌, Option, Some, None, option_map, refl, sym, ◌∙◌, ap, arith, ⊎_elim}
use Rattle.std.specs.Prelude.{◌==◌, find, is_some}
use Rattle.std.specs.Option.{option_or}
use Rattle.std.specs.Map.{lookup}
use Rattle.std.specs.Ordering.{nat_cmp, is_eq}
use Rattle.std.specs.BTreeMap.{BTreeMap, get, Updates}
use Rattle.std.proofs.lemmas.Bool.{cases_eq}
use Rattle.std.proofs.lemmas.Bool.Decides.{nat_tests}
use Rattle.std.proofs.lemmas.List.Folds.{find-append}
use Rattle.std.proofs.lemmas.Option.{none-some}
use Rattle.nl_device.specs.Copies.{noted}
use Rattle.nl_device.specs.Kept.{CopiesAreNoted, copies_of, copy_apart}
use Rattle.nl_device.specs.declared.kept.copies.Copies.{Copies}
use Rattle.nl_device.specs.declared.kept.page.KeptPage.{KeptPage}

other_stamp : (k stamp : ℕ) → (k ≡ stamp → ⊥) → is_eq (nat_cmp k stamp) ≡ false
other_stamp k stamp apart = grind (arith, nat_tests)

same_number : (n : ℕ) → (n == n) ≡ true
same_number n = grind (arith, nat_tests)

other_number : (n m : ℕ) → (n ≡ m → ⊥) → (n == m) ≡ false
other_number n m apart = grind (arith, nat_tests)

-- where none passes a test, none passes a stronger one
pub none_stronger : {X : Type 0} (p q : X → Bool) (xs : List X) → find p xs ≡ None → find (λ x. p x && q x) xs ≡ None
none_stronger p q [] none = refl
none_stronger {X} p q (x ∷ xs) none = by (p x) none (none_stronger p q xs)
  where
    by : (b : Bool) → cond b (Some x) (find p xs) ≡ None → (find p xs ≡ None → find (λ x. p x && q x) xs ≡ None) → cond (b && q x) (Some x) (find (λ x. p x && q x) xs) ≡ None
    by true is rest = absurd (none-some x (sym is))
    by false is rest = rest is

or_none : {X : Type 0} (o : Option X) → option_or o None ≡ o
or_none None = refl
or_none (Some x) = refl

-- one that does not pass is not found
skipped : {X : Type 0} (p : X → Bool) (xs : List X) (y : X) → p y ≡ false → find p (xs ++ y ∷ []) ≡ find p xs
skipped {X} p xs y is = find-append p xs (y ∷ []) ∙ (λ i. option_or (find p xs) (cond {A = Option X} (is i) (Some y) None)) ∙ or_none (find p xs)

-- a page of the stamp that is not in the block of this page
abbrev is_apart : ℕ → ℕ → ℕ → KeptPage → Bool
is_apart size stamp page q = q.stamp == stamp && not (q.page / size == page / size)

joined : (first : ℕ) (k : KeptPage) (o : Option KeptPage) (b : Bool) → cond {A = Copies} (is_some (option_map (λ k. k.page) o) || b) (record { first = first; apart = option_map (λ k. k.page) o }) (record { first = first; apart = Some k.page })
    ≡ record { first = first; apart = option_map (λ k. k.page) (option_or o (cond {A = Option KeptPage} (not b) (Some k) None)) }
joined first k None true = refl
joined first k None false = refl
joined first k (Some q) b = refl

-- what is noted of a stamp's first page, and of one more page of it
more : (size : ℕ) (pages : List KeptPage) (k : KeptPage) (o : Option KeptPage) → find (λ q. q.stamp == k.stamp) pages ≡ o
    → Some (noted size k.page (option_map (λ r. record { first = r.page; apart = copy_apart size pages k.stamp r.page }) o)) ≡ copies_of size (pages ++ k ∷ []) k.stamp
unfolding copies_of
more size pages k None is =
    let whole : find (λ q. q.stamp == k.stamp) (pages ++ k ∷ []) ≡ Some k =
    find-append (λ q. q.stamp == k.stamp) pages (k ∷ []) ∙ (λ i. option_or (is i) (cond {A = Option KeptPage} (same_number k.stamp i) (Some k) None)) in
    let apart : copy_apart size (pages ++ k ∷ []) k.stamp k.page ≡ None =
    ap (option_map (λ q. q.page)) (skipped (is_apart size k.stamp k.page) pages k (λ i. same_number k.stamp i && not (same_number (k.page / size) i)))
    ∙ ap (option_map (λ q. q.page)) (none_stronger (λ q. q.stamp == k.stamp) (λ q. not (q.page / size == k.page / size)) pages is) in
    sym (ap (option_map (λ r. record { first = r.page; apart = copy_apart size (pages ++ k ∷ []) k.stamp r.page })) whole ∙ (λ i. Some (record { first = k.page; apart = apart i })))
more size pages k (Some r) is =
    let whole : find (λ q. q.stamp == k.stamp) (pages ++ k ∷ []) ≡ Some r =
    find-append (λ q. q.stamp == k.stamp) pages (k ∷ []) ∙ (λ i. option_or (is i) (find (λ q. q.stamp == k.stamp) (k ∷ []))) in
    let apart : copy_apart size (pages ++ k ∷ []) k.stamp r.page ≡ option_map (λ q. q.page) (option_or (find (is_apart size k.stamp r.page) pages) (cond {A = Option KeptPage} (not (k.page / size == r.page / size)) (Some k) None)) =
    ap (option_map (λ q. q.page)) (find-append (is_apart size k.stamp r.page) pages (k ∷ []))
    ∙ (λ i. option_map (λ q. q.page) (option_or (find (is_apart size k.stamp r.page) pages) (cond {A = Option KeptPage} (same_number k.stamp i && not (k.page / size == r.page / size)) (Some k) None))) in
    ap Some (joined r.page k (find (is_apart size k.stamp r.page) pages) (k.page / size == r.page / size))
    ∙ sym (ap (option_map (λ r. record { first = r.page; apart = copy_apart size (pages ++ k ∷ []) k.stamp r.page })) whole ∙ (λ i. Some (record { first = r.page; apart = apart i })))

more_of : (size : ℕ) (pages : List KeptPage) (k : KeptPage) → Some (noted size k.page (copies_of size pages k.stamp)) ≡ copies_of size (pages ++ k ∷ []) k.stamp
unfolding copies_of
more_of size pages k = more size pages k (find (λ q. q.stamp == k.stamp) pages) refl

other : (size : ℕ) (pages : List KeptPage) (k : KeptPage) (stamp : ℕ) → (k.stamp ≡ stamp → ⊥) → copies_of size (pages ++ k ∷ []) stamp ≡ copies_of size pages stamp
unfolding copies_of
other size pages k stamp differs =
    let not_it = other_number k.stamp stamp differs in
    λ i. option_map (λ r. record { first = r.page; apart = option_map (λ q. q.page) (skipped (is_apart size stamp r.page) pages k (λ j. not_it j && not (k.page / size == r.page / size)) i) }) (skipped (λ q. q.stamp == stamp) pages k not_it i)

pub noted_more : (size : ℕ) (pages : List KeptPage) (k : KeptPage) (old new : BTreeMap ℕ Copies) → CopiesAreNoted size pages old
    → Updates nat_cmp old new k.stamp (Some (noted size k.page (get nat_cmp old k.stamp))) → CopiesAreNoted size (pages ++ k ∷ []) new
noted_more size pages k old new are updates stamp =
    ⊎_elim
    (λ same. ap (get nat_cmp new) (sym same) ∙ updates.1 ∙ (λ i. Some (noted size k.page (are k.stamp i))) ∙ more_of size pages k ∙ ap (copies_of size (pages ++ k ∷ [])) same)
    (λ differs. updates.2 stamp (other_stamp k.stamp stamp differs) ∙ are stamp ∙ sym (other size pages k stamp differs))
    (cases_eq k.stamp stamp)

pub noted_none : (size : ℕ) (copies : BTreeMap ℕ Copies) → copies.entries ≡ [] → CopiesAreNoted size [] copies
unfolding copies_of
noted_none size copies none stamp = ap (lookup (λ k. is_eq (nat_cmp stamp k))) none
