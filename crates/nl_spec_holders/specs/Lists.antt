-- How a list of those that hold pages changes. `at` gives the pointer of one.
use Rattle.std.specs.Prelude.{◌≡◌, ◌≢◌, ◌⊎◌, ℕ, ◌+◌, List, length, drop}
use Rattle.nl_field.specs.declared.pointer.Pointer.{Pointer}
use Rattle.nl_iface.specs.Holders.{one, times}
use Rattle.nl_iface.specs.Names.{Has, LivePage}

-- a list with one more
pub record ListGains {X : Type 0} (at : X → Pointer) (x : X) (old new : List X) : Type 0 where
  pub has : Has new x
  pub only : (y : X) → Has new y → (y ≡ x) ⊎ Has old y
  pub count : (s : ℕ) → times at s new ≡ times at s old + one (at x).stamp s
  pub size : length new ≡ length old + 1

-- a list with one less
pub record ListLoses {X : Type 0} (at : X → Pointer) (x : X) (old new : List X) : Type 0 where
  pub had : Has old x
  pub only : (y : X) → Has new y → Has old y
  pub count : (s : ℕ) → times at s old ≡ times at s new + one (at x).stamp s
  pub size : length old ≡ length new + 1

-- a list in which the pointer of a stamp, where there is one, has this name now, and wants the page that it wanted
pub record Renames {X : Type 0} (at : X → Pointer) (want : X → LivePage → Type 0) (s name : ℕ) (old new : List X) : Type 0 where
  pub each : (y : X) → Has new y → (((at y).stamp ≢ s) × Has old y)
      ⊎ (((at y).name ≡ name) × ((x : X) × Has old x × ((at x).stamp ≡ s) × ((page : LivePage) → want x page → want y page)))
  pub count : (t : ℕ) → times at t new ≡ times at t old
  pub size : length new ≡ length old

-- behind each place the stamps are as before
abbrev pub SameBehind : {X : Type 0} → (X → Pointer) → List X → List X → Type 0
SameBehind at old new = (k t : ℕ) → times at t (drop k new) ≡ times at t (drop k old)
