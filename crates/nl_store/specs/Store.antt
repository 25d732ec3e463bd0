-- What the calls of a store of bytes do, and what a killed process may leave of it.
use Rattle.std.specs.Prelude.{◌≡◌, ◌⊎◌, ℕ, zero, suc, ◌+◌, ◌<◌, ◌≤◌, max, List, [], ◌∷◌, length, slice_index, ⊤}
use Rattle.nl_field.specs.CrashStates.{saturated}
use Rattle.nl_store.specs.declared.answers.StoreAnswer.{StoreAnswer}
use Rattle.nl_store.specs.declared.answers.StoreAnswer.TheVariants as store
use Rattle.nl_store.specs.declared.answers.FetchAnswer.{FetchAnswer}
use Rattle.nl_store.specs.declared.answers.FetchAnswer.TheVariants as fetch

-- so many bytes from a place on, and zeros where the store has none
unfoldable pub window : ℕ → ℕ → List ℕ → List ℕ
window at zero bytes = []
window at (suc n) bytes = slice_index bytes at ∷ window (at + 1) n bytes

-- The first n of these bytes stand from a place on, and nothing else changed. Where the store ended before, it grew, by zeros
-- up to the place; no bytes make it no longer.
pub record BytesPut (at n : ℕ) (from old new : List ℕ) : Type 0 where
  pub inside : (k : ℕ) → k < n → slice_index new (at + k) ≡ slice_index from k
  pub outside : (i : ℕ) → (i < at) ⊎ (at + n ≤ i) → slice_index new i ≡ slice_index old i
  pub no_shorter : length old ≤ length new
  pub length_is : 0 < n → length new ≡ max (length old) (at + n)
  pub length_stays : n ≡ 0 → length new ≡ length old

-- a write was cut to a front of its bytes
abbrev pub FrontPut : ℕ → List ℕ → List ℕ → List ℕ → Type 0
FrontPut at from old new = (n : ℕ) × (n ≤ length from) × BytesPut at n from old new

-- what a write leaves
abbrev pub PutLeaves : ℕ → List ℕ → List ℕ → StoreAnswer → List ℕ → Type 0
PutLeaves at from old store.Done new = BytesPut at (length from) from old new
PutLeaves at from old store.Failed new = FrontPut at from old new

-- the store has this length: what is behind it is gone, and what is new is zeros
pub record Resized (size : ℕ) (old new : List ℕ) : Type 0 where
  pub length_is : length new ≡ size
  pub front : (i : ℕ) → i < size → slice_index new i ≡ slice_index old i

-- what a change of the length leaves
abbrev pub ResizeLeaves : ℕ → List ℕ → StoreAnswer → List ℕ → Type 0
ResizeLeaves size old store.Done new = Resized size old new
ResizeLeaves size old store.Failed new = new ≡ old

-- what a read gives: all the bytes, or none where the store ends before
abbrev pub FetchGives : ℕ → List ℕ → FetchAnswer → List ℕ → Type 0
FetchGives at bytes fetch.Done out = (at + length out ≤ length bytes) × (out ≡ window at (length out) bytes)
FetchGives at bytes fetch.Short out = length bytes < at + length out
FetchGives at bytes fetch.Failed out = ⊤

-- One call was made, in one moment. What a killed process may have left since is what it may have left before, or has P.
pub record KillLeaves {S : Type 0} (moment : S → ℕ) (left : S → ℕ → List ℕ → Type 0) (P : List ℕ → Type 0)
    (old new : S) : Type 0 where
  pub same_moment : moment new ≡ moment old
  pub each : (m : ℕ) (b : List ℕ) → left new m b → left old m b ⊎ ((m ≡ moment old) × P b)
  pub keeps : (m : ℕ) (b : List ℕ) → left old m b → left new m b

-- the store was read, and nothing was done to it
pub record StoreOnlyRead {S : Type 0} (bytes : S → List ℕ) (moment : S → ℕ) (left : S → ℕ → List ℕ → Type 0)
    (old new : S) : Type 0 where
  pub same_bytes : bytes new ≡ bytes old
  pub same_moment : moment new ≡ moment old
  pub no_more : (m : ℕ) (b : List ℕ) → left new m b → left old m b
  pub no_fewer : (m : ℕ) (b : List ℕ) → left old m b → left new m b

-- a moment ended: what there is may be left in the next one
pub record MomentEnded {S : Type 0} (bytes : S → List ℕ) (moment : S → ℕ) (left : S → ℕ → List ℕ → Type 0)
    (old new : S) : Type 0 where
  pub same_bytes : bytes new ≡ bytes old
  pub each : (m : ℕ) (b : List ℕ) → left new m b → left old m b ⊎ ((m ≡ moment new) × (b ≡ bytes new))
  pub keeps : (m : ℕ) (b : List ℕ) → left old m b → left new m b

-- a count of failed calls: it rises by one, or stands at its end, where this call failed, and stays where it did not
pub record CallFaultCounted (before now : ℕ) (failed : Type 0) : Type 0 where
  pub never_falls : before ≤ now
  pub cause : failed → now ≡ saturated (before + 1)
  pub stays : (failed → ⊥) → now ≡ before
