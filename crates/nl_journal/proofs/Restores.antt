-- The images of a transaction, restored one after the other.
use Rattle.std.proofs.Common.{◌≡◌, ◌⊎◌, inl, inr, ℕ, zero, suc, ◌+◌, ◌<◌, ◌≤◌, ◌==◌, nat_lt, nat_le, ◌||◌, ◌&&◌, Bool, true, false, List, [], ◌∷◌, ◌++◌, length, get_or, replicate, take, refl, sym, ap, subst, ◌∙◌, Option, Some, None, arith, length-append}
use Rattle.std.specs.Prelude.{slice_get}
use Rattle.std.specs.List.{list_all}
use Rattle.std.proofs.Math.ListN.{get_or-append, set}
use Rattle.std.proofs.Math.Seq.{get_or-append_seam}
use Rattle.std.proofs.lemmas.Bool.{and_from, and_parts, cases_Bool, cases_eq, eqb-false, eqb-true, ltb-true}
use Rattle.std.proofs.lemmas.List.{get_or-set_other, get_or-set_same, length-replicate, length-set, length-take-le, take_more}
use Rattle.std.proofs.lemmas.Option.{slice_get-get_or}
use Rattle.nl_field.specs.Journal.{are_home_addresses}
use Rattle.nl_field.specs.Members.{Has}
use Rattle.nl_meta.specs.Committed.{VirtualMap}
use Rattle.nl_meta.specs.Pages.{IsPages, Pages, is_frozen, no_pages, page_of, rises}
use Rattle.nl_meta.specs.Steps.{with_restored}
use Rattle.nl_meta.proofs.Lists.{any-none, any_member, append-member-left, append-member-right, none-any}
use Rattle.nl_journal.proofs.DirtyPages.{rise_apart}
use Rattle.nl_journal.specs.Restoring.{AreRestored}

-- ---- rising addresses

home_parts : (a : ℕ) (xs : List ℕ) → are_home_addresses (a ∷ xs) ≡ true → (list_all (λ b. nat_lt a b) xs ≡ true) × (are_home_addresses xs ≡ true)
unfolding are_home_addresses
home_parts a xs h =
    let q = and_parts ((a == 0 || nat_le 67 a) && list_all (λ b. nat_lt a b) xs) (are_home_addresses xs) h in
    ((and_parts (a == 0 || nat_le 67 a) (list_all (λ b. nat_lt a b) xs) q.0).1, q.1)

all-take : (p : ℕ → Bool) (n : ℕ) (xs : List ℕ) → list_all p xs ≡ true → list_all p (take n xs) ≡ true
all-take p zero [] h = refl
all-take p zero (x ∷ xs) h = refl
all-take p (suc n) [] h = refl
all-take p (suc n) (x ∷ xs) h = let q = and_parts (p x) (list_all p xs) h in and_from (p x) (list_all p (take n xs)) q.0 (all-take p n xs q.1)

rises-take : (n : ℕ) (xs : List ℕ) → are_home_addresses xs ≡ true → rises (take n xs) ≡ true
unfolding rises
rises-take zero [] h = refl
rises-take zero (x ∷ xs) h = refl
rises-take (suc n) [] h = refl
rises-take (suc n) (x ∷ xs) h =
    let q = home_parts x xs h in
    and_from (list_all (λ b. nat_lt x b) (take n xs)) (rises (take n xs)) (all-take (λ b. nat_lt x b) n xs q.0) (rises-take n xs q.1)

-- one of the first addresses is no later one
take-apart : (n m : ℕ) (xs : List ℕ) → are_home_addresses xs ≡ true → n ≤ m → m < length xs → (y : ℕ) → Has (take n xs) y → y ≡ get_or xs m 0 → ⊥
take-apart zero m [] h le lt y has is = has
take-apart zero m (x ∷ xs) h le lt y has is = has
take-apart (suc n) m [] h le lt y has is = has
take-apart (suc n) zero (x ∷ xs) h le lt y has is = omega (arith, le)
take-apart (suc n) (suc m) (x ∷ xs) h le lt y (inl e) is = rise_apart (x ∷ xs) 0 (suc m) h (omega arith) lt (e ∙ is)
take-apart (suc n) (suc m) (x ∷ xs) h le lt y (inr has) is = take-apart n m xs (home_parts x xs h).1 (omega (arith, le)) (omega (arith, lt)) y has is

-- ---- a list with one more

slice-last : (xs : List (List ℕ)) (y : List ℕ) (i : ℕ) → i ≡ length xs → slice_get (xs ++ y ∷ []) i ≡ Some y
slice-last xs y i e =
    ap (slice_get (xs ++ y ∷ [])) e
    ∙ slice_get-get_or (xs ++ y ∷ []) (length xs) [] (let n = length-append xs (y ∷ []) in omega (arith, n))
    ∙ ap (λ (z : List ℕ). Some z) (get_or-append_seam xs y [] [])

slice-before : (xs : List (List ℕ)) (y : List ℕ) (i : ℕ) → i < length xs → slice_get (xs ++ y ∷ []) i ≡ slice_get xs i
slice-before xs y i lt =
    slice_get-get_or (xs ++ y ∷ []) i [] (let n = length-append xs (y ∷ []) in omega (arith, n, lt))
    ∙ ap (λ (z : List ℕ). Some z) (get_or-append xs (y ∷ []) [] i lt)
    ∙ sym (slice_get-get_or xs i [] lt)

-- ---- one more page

module _ (tells : Type 0) (stored : VirtualMap) (xs : List ℕ) (n : ℕ) (p : Pages) (rise : are_home_addresses xs ≡ true) (lt : n < length xs) (r : AreRestored tells stored xs n p) where
  addresses-more : p.frozen.addresses ++ get_or xs n 0 ∷ [] ≡ take (n + 1) xs
  addresses-more = ap (λ (l : List ℕ). l ++ get_or xs n 0 ∷ []) r.listed ∙ sym (take_more xs n 0 lt)

  addresses-count : length p.frozen.addresses ≡ n
  addresses-count = ap length r.listed ∙ length-take-le n xs (omega (arith, lt))

  pub last-rises : rises (p.frozen.addresses ++ get_or xs n 0 ∷ []) ≡ true
  last-rises = ap rises addresses-more ∙ rises-take (n + 1) xs rise

  pub few-frozen : length xs ≤ 64 → length p.frozen.addresses < 64
  few-frozen few = let e = addresses-count in omega (arith, e, lt, few)

  pub absent-yet : page_of p (get_or xs n 0) ≡ None
  absent-yet = r.others (get_or xs n 0) (by (cases_Bool (is_frozen p (get_or xs n 0))))
    where
      by : (is_frozen p (get_or xs n 0) ≡ true) ⊎ (is_frozen p (get_or xs n 0) ≡ false) → is_frozen p (get_or xs n 0) ≡ false
      by (inr off) = off
      by (inl on) =
          let q = any_member (λ a. a == get_or xs n 0) p.frozen.addresses on in
          absurd (take-apart n n xs rise (omega arith) lt q.0 (subst (λ (l : List ℕ). Has l q.0) r.listed q.1) (eqb-true q.0 (get_or xs n 0) q.2))

  pub one-more : (b : List ℕ) → IsPages p → get_or xs n 0 < length p.running → (tells → stored (2 + n) ≡ Some b) → AreRestored tells stored xs (n + 1) (with_restored p (get_or xs n 0) b)
  one-more b stands inside is = record {
    listed = addresses-more;
    below = λ i h. subst (λ (k : ℕ). get_or xs i 0 < k) (sym (length-set p.running a (Some b))) (low i h (cases_eq i n));
    each = λ i h. at i h (cases_eq i n);
    images = λ t i h. image t i h (cases_eq i n);
    others = λ v off. get_or-set_other p.running a v (Some b) None (λ e. not-last v off (sym e)) ∙ r.others v (not-before v off);
    clean = r.clean;
  }
    where
      a : ℕ
      a = get_or xs n 0

      count : length p.frozen.images ≡ n
      count = stands.frozen_images ∙ addresses-count

      low : (i : ℕ) → i < n + 1 → (i ≡ n) ⊎ (i ≡ n → ⊥) → get_or xs i 0 < length p.running
      low i h (inl e) = subst (λ (k : ℕ). get_or xs k 0 < length p.running) (sym e) inside
      low i h (inr far) = r.below i (omega (arith, h, far))

      at : (i : ℕ) → i < n + 1 → (i ≡ n) ⊎ (i ≡ n → ⊥) → page_of (with_restored p a b) (get_or xs i 0) ≡ slice_get (p.frozen.images ++ b ∷ []) i
      at i h (inl e) =
          ap (λ (k : ℕ). get_or (set p.running a (Some b)) (get_or xs k 0) None) e ∙ get_or-set_same p.running a (Some b) None inside
          ∙ sym (slice-last p.frozen.images b i (e ∙ sym count))
      at i h (inr far) =
          let less : i < n = omega (arith, h, far) in
          get_or-set_other p.running a (get_or xs i 0) (Some b) None (rise_apart xs i n rise less lt) ∙ r.each i less
          ∙ sym (slice-before p.frozen.images b i (let c = count in omega (arith, less, c)))

      image : tells → (i : ℕ) → i < n + 1 → (i ≡ n) ⊎ (i ≡ n → ⊥) → slice_get (p.frozen.images ++ b ∷ []) i ≡ stored (2 + i)
      image t i h (inl e) = slice-last p.frozen.images b i (e ∙ sym count) ∙ sym (ap (λ (k : ℕ). stored (2 + k)) e ∙ is t)
      image t i h (inr far) =
          let less : i < n = omega (arith, h, far) in
          slice-before p.frozen.images b i (let c = count in omega (arith, less, c)) ∙ r.images t i less

      not-last : (v : ℕ) → is_frozen (with_restored p a b) v ≡ false → a ≡ v → ⊥
      not-last v off = eqb-false a v (any-none (λ x. x == v) (p.frozen.addresses ++ a ∷ []) off a (append-member-right p.frozen.addresses (a ∷ []) a (inl refl)))

      not-before : (v : ℕ) → is_frozen (with_restored p a b) v ≡ false → is_frozen p v ≡ false
      not-before v off = none-any (λ x. x == v) p.frozen.addresses (λ x m. any-none (λ x. x == v) (p.frozen.addresses ++ a ∷ []) off x (append-member-left p.frozen.addresses (a ∷ []) x m))

-- ---- beside another device

pub restored-as : (tells : Type 0) (stored stored' : VirtualMap) (xs : List ℕ) (n : ℕ) (p : Pages) → n ≤ 64 → (tells → (v : ℕ) → v < 67 → stored' v ≡ stored v) → AreRestored tells stored' xs n p → AreRestored tells stored xs n p
restored-as tells stored stored' xs n p few same r = record {
  listed = r.listed;
  below = r.below;
  each = r.each;
  images = λ t i h. r.images t i h ∙ same t (2 + i) (omega (arith, h, few));
  others = r.others;
  clean = r.clean;
}

-- an address that the volume has
pub inside-at : (n : ℕ) (xs : List ℕ) (i : ℕ) → list_all (λ a. nat_lt a n) xs ≡ true → i < length xs → get_or xs i 0 < n
inside-at n [] i all lt = absurd (omega (arith, lt))
inside-at n (x ∷ xs) zero all lt = ltb-true x n (and_parts (nat_lt x n) (list_all (λ a. nat_lt a n) xs) all).0
inside-at n (x ∷ xs) (suc i) all lt = inside-at n xs i (and_parts (nat_lt x n) (list_all (λ a. nat_lt a n) xs) all).1 (omega (arith, lt))

pub restored-count : (p : Pages) (v : ℕ) (b : List ℕ) → length (with_restored p v b).running ≡ length p.running
restored-count p v b = length-set p.running v (Some b)

pub restored-all : (tells : Type 0) (stored : VirtualMap) (xs : List ℕ) (n : ℕ) (p : Pages) → n ≡ length xs → AreRestored tells stored xs n p → AreRestored tells stored xs (length xs) p
restored-all tells stored xs n p e r = subst (λ (k : ℕ). AreRestored tells stored xs k p) e r

-- ---- at the start

abbrev no_bytes : Option (List ℕ)
no_bytes = None

pub none-at : (n v : ℕ) → get_or (replicate n no_bytes) v None ≡ None
none-at zero v = refl
none-at (suc n) zero = refl
none-at (suc n) (suc v) = none-at n v

take-none : (xs : List ℕ) → take 0 xs ≡ []
take-none [] = refl
take-none (x ∷ xs) = refl

pub restored-none : (tells : Type 0) (stored : VirtualMap) (xs : List ℕ) (count : ℕ) → AreRestored tells stored xs 0 (no_pages count)
unfolding no_pages
restored-none tells stored xs count = record {
  listed = sym (take-none xs);
  below = λ i lt. absurd (omega (arith, lt));
  each = λ i lt. absurd (omega (arith, lt));
  images = λ t i lt. absurd (omega (arith, lt));
  others = λ v off. none-at count v;
  clean = refl;
}

pub none-count : (count : ℕ) → length (no_pages count).running ≡ count
unfolding no_pages
none-count count = length-replicate count no_bytes
