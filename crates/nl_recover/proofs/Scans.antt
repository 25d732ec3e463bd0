-- The first element at fault, and what is gathered, over lists that are joined; and that gathering serves as well as looking back at all
-- earlier elements.
use Rattle.std.proofs.Common.{◌≡◌, ℕ, zero, suc, ◌+◌, ◌-◌, ◌<◌, Bool, true, false, cond, List, [], ◌∷◌, ◌++◌, flat_map, refl, sym, ap, subst, ◌∙◌, Option, Some, None, option_map, arith, append_assoc}
use Rattle.std.proofs.lemmas.Grind.{flat_map-append}
use Rattle.std.specs.List.{range_with_len}
use Rattle.nl_meta.specs.Walk.{first_after}
use Rattle.nl_meta.proofs.Lists.{map_none, none_some}
use Rattle.nl_recover.specs.Scanning.{PassesOver, first_with, gathered}

-- ---- ranges

pub range-grows : (a b n k : ℕ) → b ≡ a + n → range_with_len a (n + k) ≡ range_with_len a n ++ range_with_len b k
range-grows a b zero k e = ap (λ (m : ℕ). range_with_len a m) (omega arith) ∙ ap (λ (m : ℕ). range_with_len m k) (omega (arith, e))
range-grows a b (suc n) k e = ap (λ (m : ℕ). range_with_len a m) at ∙ ap (λ (ms : List ℕ). a ∷ ms) (range-grows (a + 1) b n k (omega (arith, e)))
  where
    at : suc n + k ≡ suc (n + k)
    at = omega arith

pub range-split : (n all : ℕ) → n < all → range_with_len 0 all ≡ range_with_len 0 n ++ n ∷ range_with_len (n + 1) (all - n - 1)
range-split n all h = ap (λ (m : ℕ). range_with_len 0 m) at ∙ range-grows 0 n n (suc (all - n - 1)) (omega arith)
  where
    at : all ≡ n + suc (all - n - 1)
    at = omega (arith, h)

pub range-more : (n : ℕ) → range_with_len 0 (n + 1) ≡ range_with_len 0 n ++ n ∷ []
range-more n = range-grows 0 n n 1 (omega arith)

-- the lists of numbers in their order, up to one
abbrev pub upto : {X : Type 0} → (ℕ → List X) → ℕ → List X
upto f n = flat_map f (range_with_len 0 n)

pub grows : {X : Type 0} (f : ℕ → List X) (n : ℕ) → upto f (n + 1) ≡ upto f n ++ f n
grows {X} f n = ap (flat_map f) (range-more n) ∙ flat_map-append f (range_with_len 0 n) (n ∷ []) ∙ ap (λ (ys : List X). upto f n ++ ys) (end (f n))
  where
    end : (ys : List X) → ys ++ [] ≡ ys
    end [] = refl
    end (y ∷ ys) = ap (λ zs. y ∷ zs) (end ys)

pub splits : {X : Type 0} (f : ℕ → List X) (n all : ℕ) → n < all → upto f all ≡ (upto f n ++ f n) ++ flat_map f (range_with_len (n + 1) (all - n - 1))
splits f n all h =
    ap (flat_map f) (range-split n all h) ∙ flat_map-append f (range_with_len 0 n) (n ∷ range_with_len (n + 1) (all - n - 1))
    ∙ sym (append_assoc (upto f n) (f n) (flat_map f (range_with_len (n + 1) (all - n - 1))))

-- ---- lists that are joined

module _ {X S : Type 0} (bad : S → X → Bool) (next : S → X → S) where
  pub some-append : (s : S) (xs ys : List X) (x : X) → first_with bad next s xs ≡ Some x → first_with bad next s (xs ++ ys) ≡ Some x
  unfolding first_with
  some-append s [] ys x e = absurd (none_some x e)
  some-append s (y ∷ xs) ys x e =
      elim (bad s y) as (λ b. cond b (Some y) (first_with bad next (next s y) xs) ≡ Some x → cond b (Some y) (first_with bad next (next s y) (xs ++ ys)) ≡ Some x) [
        | true ↦ λ e. e
        | false ↦ λ e. some-append (next s y) xs ys x e
      ] e

  pub none-append : (s : S) (xs ys : List X) → first_with bad next s xs ≡ None → first_with bad next s (xs ++ ys) ≡ first_with bad next (gathered next s xs) ys
  unfolding first_with gathered
  none-append s [] ys e = refl
  none-append s (y ∷ xs) ys e =
      elim (bad s y) as (λ b. cond b (Some y) (first_with bad next (next s y) xs) ≡ None
      → cond b (Some y) (first_with bad next (next s y) (xs ++ ys)) ≡ first_with bad next (gathered next (next s y) xs) ys) [
        | true ↦ λ e. absurd (none_some y (sym e))
        | false ↦ λ e. none-append (next s y) xs ys e
      ] e

  pub gathered-append : (s : S) (xs ys : List X) → gathered next s (xs ++ ys) ≡ gathered next (gathered next s xs) ys
  unfolding gathered
  gathered-append s [] ys = refl
  gathered-append s (y ∷ xs) ys = gathered-append (next s y) xs ys

  -- one element
  pub one-bad : (s : S) (x : X) → bad s x ≡ true → first_with bad next s (x ∷ []) ≡ Some x
  unfolding first_with
  one-bad s x e = ap (λ b. cond b (Some x) None) e

  pub one-good : (s : S) (x : X) → bad s x ≡ false → first_with bad next s (x ∷ []) ≡ None
  unfolding first_with
  one-good s x e = ap (λ b. cond b (Some x) None) e

  pub one-gathered : (s : S) (x : X) → gathered next s (x ∷ []) ≡ next s x
  unfolding gathered
  one-gathered s x = refl

module _ {X S : Type 0} (bad : S → X → Bool) (next : S → X → S) (place : X → ℕ) where
  abbrev Goes : S → S → List X → Option ℕ → Type 0
  Goes old new xs answer = PassesOver bad next place old new xs answer

  pub pass-nil : (s : S) → Goes s s [] None
  unfolding first_with gathered
  pass-nil s = record { first = refl; rest = λ _. refl }

  pub pass-bad : (s t : S) (x : X) → bad s x ≡ true → Goes s t (x ∷ []) (Some (place x))
  pass-bad s t x e = record { first = sym (ap (option_map place) (one-bad bad next s x e)); rest = λ h. absurd (none_some (place x) (sym h)) }

  pub pass-good : (s t : S) (x : X) → bad s x ≡ false → t ≡ next s x → Goes s t (x ∷ []) None
  pass-good s t x e is = record { first = sym (ap (option_map place) (one-good bad next s x e)); rest = λ _. is ∙ sym (one-gathered bad next s x) }

  pub pass-then : (s t u : S) (xs ys : List X) (answer : Option ℕ) → Goes s t xs None → Goes t u ys answer → Goes s u (xs ++ ys) answer
  pass-then s t u xs ys answer a b = record {
    first = b.first ∙ ap (λ (v : S). option_map place (first_with bad next v ys)) (a.rest refl) ∙ sym (ap (option_map place) (none-append bad next s xs ys (map_none place _ (sym a.first))));
    rest = λ h. b.rest h ∙ ap (λ (v : S). gathered next v ys) (a.rest refl) ∙ sym (gathered-append bad next s xs ys);
  }

  pub pass-stop : (s t : S) (xs ys : List X) (p : ℕ) → Goes s t xs (Some p) → Goes s t (xs ++ ys) (Some p)
  pass-stop s t xs ys p a = record { first = by (first_with bad next s xs) refl a.first; rest = λ h. absurd (none_some p (sym h)) }
    where
      by : (o : Option X) → first_with bad next s xs ≡ o → Some p ≡ option_map place o → Some p ≡ option_map place (first_with bad next s (xs ++ ys))
      by None is e = absurd (none_some p (sym e))
      by (Some x) is e = e ∙ sym (ap (option_map place) (some-append bad next s xs ys x is))

  module _ (f : ℕ → List X) where
    pub upto-next : (s t u : S) (n : ℕ) → Goes s t (upto f n) None → Goes t u (f n) None → Goes s u (upto f (n + 1)) None
    upto-next s t u n a b = subst (λ (xs : List X). Goes s u xs None) (sym (grows f n)) (pass-then s t u (upto f n) (f n) None a b)

    pub upto-stops : (s t u : S) (n all p : ℕ) → n < all → Goes s t (upto f n) None → Goes t u (f n) (Some p) → Goes s u (upto f all) (Some p)
    upto-stops s t u n all p h a b =
        subst (λ (xs : List X). Goes s u xs (Some p)) (sym (splits f n all h)) (pass-stop s u (upto f n ++ f n) _ p (pass-then s t u (upto f n) (f n) (Some p) a b))

-- ---- looking back, and what was gathered

module _ {X S : Type 0} (test : List X → X → Bool) (bad : S → X → Bool) (next : S → X → S) (Agrees : List X → S → Type 0)
    (same : (e : List X) (s : S) (x : X) → Agrees e s → test e x ≡ bad s x)
    (step : (e : List X) (s : S) (x : X) → Agrees e s → bad s x ≡ false → Agrees (x ∷ e) (next s x)) where
  pub gathers : (e : List X) (s : S) (xs : List X) → Agrees e s → first_after test e xs ≡ first_with bad next s xs
  unfolding first_with
  gathers e s [] a = refl
  gathers e s (x ∷ xs) a =
      ap (λ b. cond b (Some x) (first_after test (x ∷ e) xs)) (same e s x a)
      ∙ elim (bad s x) as (λ b. bad s x ≡ b → cond b (Some x) (first_after test (x ∷ e) xs) ≡ cond b (Some x) (first_with bad next (next s x) xs)) [
        | true ↦ λ _. refl
        | false ↦ λ h. gathers (x ∷ e) (next s x) xs (step e s x a h)
      ] refl
