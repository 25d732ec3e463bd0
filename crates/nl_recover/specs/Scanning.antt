-- The first element at fault of a list, where whether one is depends on what was gathered from the elements before it.
use Rattle.std.specs.Prelude.{◌≡◌, ℕ, Bool, if◌then◌else◌, List, [], ◌∷◌, Option, Some, None, option_map}

-- what is gathered, from the elements in order
unfoldable pub gathered : {X S : Type 0} → (S → X → S) → S → List X → S
gathered next s [] = s
gathered next s (x ∷ xs) = gathered next (next s x) xs

unfoldable pub first_with : {X S : Type 0} → (S → X → Bool) → (S → X → S) → S → List X → Option X
first_with bad next s [] = None
first_with bad next s (x ∷ xs) = let later = first_with bad next (next s x) xs in if bad s x then Some x else later

-- A pass over these began with what was gathered before. It answers the place of the first one at fault, and where none is, leaves what
-- is gathered then.
pub record PassesOver {X S : Type 0} (bad : S → X → Bool) (next : S → X → S) (place : X → ℕ) (old new : S) (xs : List X)
    (answer : Option ℕ) : Type 0 where
  pub first : answer ≡ option_map place (first_with bad next old xs)
  pub rest : answer ≡ None → new ≡ gathered next old xs
