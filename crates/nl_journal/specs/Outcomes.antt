-- What a stop may show at each address, and what one write makes of it.
use Rattle.std.specs.Prelude.{◌≡◌, ◌⊎◌, ℕ, ◌<◌, ◌≤◌, List, Option, Some, option_map}
use Rattle.nl_iface.specs.Stored.{Value}
use Rattle.nl_meta.specs.Committed.{VirtualMap}

-- the main bytes of each address
abbrev pub bytes_of : (ℕ → Option Value) → VirtualMap
bytes_of map v = option_map (λ (x : Value). x.1) (map v)

-- at an address a stop may show the map's bytes, or those of a write that failed
abbrev pub May : (ℕ → Option Value) → (ℕ → Value → Type 0) → ℕ → Option (List ℕ) → Type 0
May map failed v b = (b ≡ bytes_of map v) ⊎ ((x : Value) × failed v x × (b ≡ Some x.1))

-- what a stop may show after a write of these bytes that did not finish
abbrev pub Tried : (ℕ → Option (List ℕ) → Type 0) → ℕ → List ℕ → ℕ → Option (List ℕ) → Type 0
Tried may v main u b = ((u ≡ v) × (b ≡ Some main)) ⊎ may u b

-- what a stop may show after a write of these bytes
abbrev pub Written : (ℕ → Option (List ℕ) → Type 0) → ℕ → List ℕ → ℕ → Option (List ℕ) → Type 0
Written may v main u b = ((u ≡ v) × (b ≡ Some main)) ⊎ ((u ≡ v → ⊥) × may u b)

-- a map that shows at each address what may be shown there
abbrev pub Within : ℕ → (ℕ → Option (List ℕ) → Type 0) → VirtualMap → Type 0
Within count may f = (v : ℕ) → v < count → may v (f v)

-- what may be shown is no more than this
abbrev pub NoMore : (ℕ → Option (List ℕ) → Type 0) → (ℕ → Option (List ℕ) → Type 0) → Type 0
NoMore old new = (v : ℕ) (b : Option (List ℕ)) → new v b → old v b

-- an address of the volume that is not one of the journal's
pub record IsHome (count v : ℕ) : Type 0 where
  pub below : v < count
  pub outside : (v ≡ 0) ⊎ (67 ≤ v)

-- two maps have the same pages at the addresses outside the journal
abbrev pub Agrees : ℕ → VirtualMap → VirtualMap → Type 0
Agrees count f g = (v : ℕ) → IsHome count v → f v ≡ g v
