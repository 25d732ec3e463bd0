-- What is known of a medium that tells nothing of what its pages hold.
use Rattle.std.specs.Prelude.{◌≡◌, ℕ, ◌≤◌, [], refl}
use Rattle.std.proofs.Math.Nat.{le_refl}
use Rattle.nl_field.specs.Page.{Image}
use Rattle.nl_nand.specs.declared.geometry.Geometry.{Geometry}
use Rattle.nl_test_top_faults.specs.declared.medium.Untold.{Untold}

abbrev pub geometry_of : Untold → Geometry
geometry_of s = s.geometry

abbrev pub clock_of : Untold → ℕ
clock_of s = s.clock

-- no call of it fails
abbrev pub faults_of : Untold → ℕ
faults_of s = 0

-- an image that stands for the contents, and says nothing of them
abbrev pub untold : Image
untold = record { blocks = 0; pages = 0; contents = [] }

abbrev pub contents_of : Untold → Image
contents_of s = untold

-- what a crash may have left, which is told no more
abbrev pub crash_states : Untold → ℕ → Image → Type 0
crash_states s m c = (m ≤ s.clock) × (c ≡ untold)

-- what there is now may be left now
pub now_left : (s : Untold) → crash_states s (clock_of s) (contents_of s)
now_left s = (le_refl s.clock, refl)
