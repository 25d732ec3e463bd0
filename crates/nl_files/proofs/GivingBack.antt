-- The addresses that a file lost, given back one after another.
use Rattle.std.proofs.Common.{◌≡◌, ◌≢◌, ℕ, ◌+◌, ◌-◌, ◌≤◌, ◌<◌, true, ◌&&◌, nat_le, List, length, get_or, zero, suc, [], ◌∷◌, refl, sym, ap, ◌∙◌, ◌⊎◌, inl, inr, arith}
use Rattle.std.proofs.lemmas.Bool.{cases_eq, cases_lt, le-leb, lt-leb}
use Rattle.nl_inode.specs.Free.{is_free}
use Rattle.nl_inode.specs.Nodes.{AddressBecomes, Spaces, is_free_address}
use Rattle.nl_files.specs.Cutting.{GivesBackAddresses, LosesAddress}

-- those of the first places
pub record GivesUpTo (n : ℕ) (was is : List ℕ) (s t : Spaces) : Type 0 where
  pub nodes : t.nodes ≡ s.nodes
  pub first : t.first ≡ s.first
  pub count : length t.pool ≡ length s.pool
  pub given : (a : ℕ) (l : LosesAddress was is a) → l.at < n → is_free_address t a ≡ true
  pub others : (a : ℕ) → ((l : LosesAddress was is a) → n ≤ l.at) → is_free_address t a ≡ is_free_address s a

pub gives-none : (was is : List ℕ) (s : Spaces) → GivesUpTo 0 was is s s
gives-none was is s = record { nodes = refl; first = refl; count = refl; given = λ a l h. absurd (omega (arith, h)); others = λ a h. refl }

-- ---- one address

module _ (v : ℕ) (s t : Spaces) (from : s.first ≤ v) (becomes : AddressBecomes v true s t) where
  index : (a : ℕ) → s.first ≤ a → is_free_address t a ≡ is_free t.pool (a - s.first)
  index a h = ap (λ (f : ℕ). nat_le f a && is_free t.pool (a - f)) becomes.first ∙ ap (λ b. b && is_free t.pool (a - s.first)) (le-leb s.first a h)

  was-index : (a : ℕ) → s.first ≤ a → is_free_address s a ≡ is_free s.pool (a - s.first)
  was-index a h = ap (λ b. b && is_free s.pool (a - s.first)) (le-leb s.first a h)

  becomes-free : is_free_address t v ≡ true
  becomes-free = index v from ∙ becomes.pool.at

  stays-so : (a : ℕ) → a ≢ v → is_free_address t a ≡ is_free_address s a
  stays-so a far = by (cases_lt a s.first)
    where
      by : (a < s.first) ⊎ (s.first ≤ a) → is_free_address t a ≡ is_free_address s a
      by (inl h) =
          ap (λ (f : ℕ). nat_le f a && is_free t.pool (a - f)) becomes.first ∙ ap (λ b. b && is_free t.pool (a - s.first)) (lt-leb s.first a h)
          ∙ sym (ap (λ b. b && is_free s.pool (a - s.first)) (lt-leb s.first a h))
      by (inr h) = index a h ∙ becomes.pool.others (a - s.first) (λ e. far (omega (arith, h, from, e))) ∙ sym (was-index a h)

-- ---- one place more

module _ (n : ℕ) (was is : List ℕ) (s t : Spaces) (gives : GivesUpTo n was is s t) where
  pub gives-nothing : ((a : ℕ) (l : LosesAddress was is a) → l.at ≢ n) → GivesUpTo (n + 1) was is s t
  gives-nothing not-here = record {
    nodes = gives.nodes;
    first = gives.first;
    count = gives.count;
    given = λ a l h. let far = not-here a l in gives.given a l (omega (arith, h, far));
    others = λ a h. gives.others a (λ l. let k = h l in omega (arith, k));
  }

  pub gives-one : (u : Spaces) → get_or was n 0 ≢ 0 → get_or is n 0 ≡ 0 → t.first ≤ get_or was n 0 → AddressBecomes (get_or was n 0) true t u → GivesUpTo (n + 1) was is s u
  gives-one u some none from becomes = record {
    nodes = becomes.nodes ∙ gives.nodes;
    first = becomes.first ∙ gives.first;
    count = becomes.pool.count ∙ gives.count;
    given = λ a l h. given a l h (cases_eq a (get_or was n 0));
    others = λ a h. stays-so (get_or was n 0) t u from becomes a (far a h) ∙ gives.others a (λ l. let k = h l in omega (arith, k));
  }
    where
      given : (a : ℕ) (l : LosesAddress was is a) → l.at < n + 1 → (a ≡ get_or was n 0) ⊎ (a ≡ get_or was n 0 → ⊥) → is_free_address u a ≡ true
      given a l h (inl e) = ap (is_free_address u) e ∙ becomes-free (get_or was n 0) t u from becomes
      given a l h (inr off) =
          let apart : l.at ≢ n = λ e. off (sym l.had ∙ ap (λ (r : ℕ). get_or was r 0) e) in
          stays-so (get_or was n 0) t u from becomes a off ∙ gives.given a l (omega (arith, h, apart))

      far : (a : ℕ) → ((l : LosesAddress was is a) → n + 1 ≤ l.at) → a ≢ get_or was n 0
      far a h e = let k = h (record { not_zero = λ z. some (sym e ∙ z); at = n; had = sym e; gone = none }) in absurd (omega (arith, k))

past : (xs : List ℕ) (r : ℕ) → length xs ≤ r → get_or xs r 0 ≡ 0
past [] r h = refl
past (x ∷ xs) zero h = absurd (omega (arith, h))
past (x ∷ xs) (suc r) h = past xs r (omega (arith, h))

pub gives-all : (was is : List ℕ) (s t : Spaces) → length was ≡ 16 → GivesUpTo 16 was is s t → GivesBackAddresses was is s t
gives-all was is s t len gives = record {
  nodes = gives.nodes;
  first = gives.first;
  count = gives.count;
  given = λ a l. gives.given a l (below a l (cases_lt l.at 16));
  others = λ a none. gives.others a (λ l. absurd (none l));
}
  where
    below : (a : ℕ) (l : LosesAddress was is a) → (l.at < 16) ⊎ (16 ≤ l.at) → l.at < 16
    below a l (inl h) = h
    below a l (inr h) = absurd (l.not_zero (sym l.had ∙ past was l.at (omega (arith, h, len))))
