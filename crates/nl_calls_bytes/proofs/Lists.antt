-- Lists of pages in flight.
use Rattle.std.proofs.Common.{◌≡◌, ℕ, zero, suc, ◌+◌, Bool, true, false, ◌||◌, List, [], ◌∷◌, take, slice_get, refl, ap, ◌∙◌, Option, Some, None, IsNone, arith}
use Rattle.std.specs.List.{list_any}

pub any-at : {X : Type 0} (p : X → Bool) (xs : List X) (i : ℕ) (x : X) → slice_get xs i ≡ Some x → p x ≡ true → list_any p xs ≡ true
any-at p [] i x at is = absurd (cc at)
any-at p (y ∷ xs) zero x at is = let same : y ≡ x = cc at in ap (λ (b : Bool). b || list_any p xs) (ap p same ∙ is)
any-at p (y ∷ xs) (suc i) x at is = ap (λ (b : Bool). p y || b) (any-at p xs i x at is) ∙ by (p y)
  where
    by : (b : Bool) → (b || true) ≡ true
    by true = refl
    by false = refl

any-none : {X : Type 0} (p : X → Bool) (xs : List X) (i : ℕ) (x : X) → list_any p (take i xs) ≡ false → slice_get xs i ≡ Some x → p x ≡ false → list_any p (take (suc i) xs) ≡ false
any-none p [] i x none at is = absurd (cc at)
any-none p (y ∷ xs) zero x none at is = let same : y ≡ x = cc at in ap (λ (b : Bool). b || false) (ap p same ∙ is)
any-none p (y ∷ xs) (suc i) x none at is = by (p y) none (any-none p xs i x)
  where
    by : (b : Bool) → (b || list_any p (take i xs)) ≡ false → (list_any p (take i xs) ≡ false → slice_get xs i ≡ Some x → p x ≡ false → list_any p (take (suc i) xs) ≡ false) → (b || list_any p (take (suc i) xs)) ≡ false
    by true e rest = absurd (cc e)
    by false e rest = rest e at is

pub any-next : {X : Type 0} (p : X → Bool) (xs : List X) (i : ℕ) (x : X) → list_any p (take i xs) ≡ false → slice_get xs i ≡ Some x → p x ≡ false → list_any p (take (i + 1) xs) ≡ false
any-next p xs i x none at is = ap (λ (k : ℕ). list_any p (take k xs)) (let e : i + 1 ≡ suc i = omega arith in e) ∙ any-none p xs i x none at is

-- no page is there
pub no-page : {X : Type 0} (o : Option X) → ((x : X) → o ≡ Some x → ⊥) → IsNone o
no-page None none = refl
no-page (Some x) none = absurd (none x refl)
