-- Which numbers are free.
use Rattle.std.specs.Prelude.{◌≡◌, ◌≢◌, ℕ, ◌<◌, Bool, true, false, List, length, count_by, slice_index_or}

abbrev pub is_free : List Bool → ℕ → Bool
is_free free k = slice_index_or free k false

abbrev pub NoneFree : List Bool → Type 0
NoneFree free = (k : ℕ) → is_free free k ≡ false

-- how many numbers are free
abbrev pub count_free : List Bool → ℕ
count_free free = count_by (λ b. b) free

-- k is free, and no lesser number is.
pub record IsLeastFreeNumber (k : ℕ) (free : List Bool) : Type 0 where
  pub free_itself : is_free free k ≡ true
  pub least : (i : ℕ) → i < k → is_free free i ≡ false

-- One number is free or not from now on, and each other as before.
pub record Becomes (k : ℕ) (b : Bool) (old new : List Bool) : Type 0 where
  pub count : length new ≡ length old
  pub at : is_free new k ≡ b
  pub others : (i : ℕ) → i ≢ k → is_free new i ≡ is_free old i
