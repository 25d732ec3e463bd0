-- What a store in memory holds, and what a kill may have left of it.
use Rattle.std.specs.Prelude.{◌≡◌, ◌⊎◌, ℕ, ◌≤◌, List}
use Rattle.nl_store.specs.PastBytes.{WasLeft}
use Rattle.nl_store.specs.declared.past.Past.{Past}
use Rattle.nl_store.specs.declared.mem_store.MemStore.{MemStore}

abbrev pub bytes_of : MemStore → List ℕ
bytes_of s = s.bytes.items

abbrev pub moment_of : MemStore → ℕ
moment_of s = s.moment

abbrev pub read_faults_of : MemStore → ℕ
read_faults_of s = s.read_faults

abbrev pub write_faults_of : MemStore → ℕ
write_faults_of s = s.write_faults

abbrev pub past_of : MemStore → List Past
past_of s = s.past.items

abbrev pub left_of : MemStore → ℕ → List ℕ → Type 0
left_of s m b = ((s.since ≤ m) × (m ≤ s.moment) × (b ≡ s.bytes.items)) ⊎ WasLeft s.past.items m b
