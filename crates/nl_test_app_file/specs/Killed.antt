-- What is known of a store that tells nothing of its bytes.
use Rattle.std.specs.Prelude.{◌≡◌, ℕ, ◌≤◌, List, [], refl}
use Rattle.std.proofs.Math.Nat.{le_refl}
use Rattle.nl_test_app_file.specs.declared.killed.Killed.{Killed}

abbrev pub moment_of : Killed → ℕ
moment_of s = s.moment

abbrev pub read_faults_of : Killed → ℕ
read_faults_of s = s.read_faults

abbrev pub write_faults_of : Killed → ℕ
write_faults_of s = s.write_faults

-- no bytes, which stand for those of the store, and say nothing of them
abbrev pub bytes_of : Killed → List ℕ
bytes_of s = []

-- what a kill may have left, which is told no more
abbrev pub left_of : Killed → ℕ → List ℕ → Type 0
left_of s m b = (m ≤ s.moment) × (b ≡ [])

-- what there is now may be left now
pub now_left : (s : Killed) → left_of s (moment_of s) (bytes_of s)
now_left s = (le_refl s.moment, refl)
