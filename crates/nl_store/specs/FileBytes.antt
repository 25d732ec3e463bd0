-- A store that is a file. What the file holds is not told.
use Rattle.std.specs.Prelude.{◌≡◌, ℕ, ◌≤◌, List, [], refl}
use Rattle.std.proofs.Math.Nat.{le_refl}
use Rattle.std.specs.declared.fs.File.{File}
use Rattle.nl_store.specs.declared.file_store.FileStore.{FileStore}

abbrev pub file_of : FileStore → File
file_of f = f.file

abbrev pub moment_of : FileStore → ℕ
moment_of f = f.moment

abbrev pub read_faults_of : FileStore → ℕ
read_faults_of f = f.read_faults

abbrev pub write_faults_of : FileStore → ℕ
write_faults_of f = f.write_faults

abbrev pub bytes_of : FileStore → List ℕ
bytes_of f = []

abbrev pub left_of : FileStore → ℕ → List ℕ → Type 0
left_of f m b = (m ≤ f.moment) × (b ≡ [])

pub now_left : (f : FileStore) → left_of f (moment_of f) (bytes_of f)
now_left f = (le_refl f.moment, refl)
