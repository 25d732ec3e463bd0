-- What is stored once an address was written, and where that failed or was stopped.
use Rattle.std.specs.Prelude.{◌≡◌, ◌⊎◌, ℕ, ◌==◌, if◌then◌else◌, List, Option, Some}
use Rattle.nl_field.specs.CrashStates.{LeavesOnly, Rose, Turns}
use Rattle.nl_field.specs.Page.{Image}
use Rattle.nl_vseg.specs.Effects.{ImageKeepsMap, GainsValue}
use Rattle.nl_vseg.specs.Maps.{with_at}
use Rattle.nl_vseg.specs.Places.{map_of, stamp_for}
use Rattle.nl_vseg.specs.Segment.{Segment}
use Rattle.nl_vseg.specs.declared.place.Place.{Place}

-- Once the write is done the address has this number; else each address has what it had.
pub record WritesStamp (v s : ℕ) (done : Type 0) (old new : List (Option Place)) : Type 0 where
  pub taken : done → (u : ℕ) → stamp_for new u ≡ (if u == v then Some s else stamp_for old u)
  pub same : (done → ⊥) → (u : ℕ) → stamp_for new u ≡ stamp_for old u

-- Once the write is done the map has this value, and the medium takes it. Else the map is as it was, and the medium keeps it; it may
-- show the value too where a write failed. A stop within the write leaves a medium that keeps the map, or takes the value.
pub record WritesValue {M : Type 0} (clock write_faults : M → ℕ) (contents : M → Image) (left : M → ℕ → Image → Type 0) (v s : ℕ)
    (main : List ℕ) (done : Type 0) (seg now : Segment) (old new : M) : Type 0 where
  pub map : done → (u : ℕ) → map_of now.places (contents new) u ≡ with_at (map_of seg.places (contents old)) v (s, main) u
  pub same : (done → ⊥) → (u : ℕ) → map_of now.places (contents new) u ≡ map_of seg.places (contents old) u
  pub takes : done → GainsValue seg.pages seg.bound (map_of seg.places (contents old)) v s main (contents old) (contents new)
  pub either : ImageKeepsMap seg.pages seg.bound (map_of seg.places (contents old)) (contents old) (contents new)
      ⊎ GainsValue seg.pages seg.bound (map_of seg.places (contents old)) v s main (contents old) (contents new)
  pub unused : (done → ⊥) → (Rose (write_faults old) (write_faults new) → ⊥)
      → ImageKeepsMap seg.pages seg.bound (map_of seg.places (contents old)) (contents old) (contents new)
  pub crash : LeavesOnly clock left old new (Turns done (clock new)
      (λ c. ImageKeepsMap seg.pages seg.bound (map_of seg.places (contents old)) (contents old) c)
      (λ c. GainsValue seg.pages seg.bound (map_of seg.places (contents old)) v s main (contents old) c))
