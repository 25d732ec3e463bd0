-- The map of addresses, and the images that stand for one.
use Rattle.std.specs.Prelude.{◌≡◌, ◌⊎◌, ℕ, ◌<◌, ◌==◌, if◌then◌else◌, List, Option, Some, None}
use Rattle.nl_field.specs.Page.{Image}
use Rattle.nl_vseg.specs.Pages.{PageShows}

-- the write sequence number and the main bytes of each address that was written
abbrev pub Map : Type 0
Map = ℕ → Option (ℕ × List ℕ)

-- the map with one address changed
abbrev pub with_at : Map → ℕ → ℕ × List ℕ → Map
with_at map v x u = if u == v then Some x else map u

-- the number and the bytes are those of the value, or the number is less
abbrev pub Dominated : Option (ℕ × List ℕ) → ℕ → List ℕ → Type 0
Dominated None t n = ⊥
Dominated (Some x) t n = (t < x.0) ⊎ ((t ≡ x.0) × (n ≡ x.1))

-- The image stands for the map: each value of the map is on a page below the bound, and whatever else such a page shows of an
-- address below `count` is older.
pub record RepresentsMap (bound count : ℕ) (image : Image) (map : ℕ → Option (ℕ × List ℕ)) : Type 0 where
  pub there : (v s : ℕ) (main : List ℕ) → map v ≡ Some (s, main) → PageShows bound image v s main
  pub each : (v t : ℕ) (n : List ℕ) → v < count → PageShows bound image v t n → Dominated (map v) t n

-- what the image shows of the address is older than this number
pub record IsAbove (bound : ℕ) (image : Image) (v stamp : ℕ) : Type 0 where
  pub older : (t : ℕ) (n : List ℕ) → PageShows bound image v t n → t < stamp
