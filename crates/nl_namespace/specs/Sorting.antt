-- Places of entries in the order of the bytes of their names.
use Rattle.std.specs.Prelude.{◌≡◌, ◌↔◌, ℕ, ◌≤◌, ◌<◌, true, false, List, length, map, take, slice_get, slice_index_or, Some}
use Rattle.std.specs.Cmp.Lexicographic.{slice_cmp}
use Rattle.std.specs.Ordering.{is_lt, nat_cmp}
use Rattle.nl_field.specs.Members.{Has}
use Rattle.nl_field.specs.declared.entry.EntryRec.{EntryRec}
use Rattle.nl_dir.specs.Changes.{no_entry}
use Rattle.nl_namespace.specs.Listing.{Rising}

-- the entries at these places
abbrev pub entries_at : List EntryRec → List ℕ → List EntryRec
entries_at entries places = map (λ p. slice_index_or entries p no_entry) places

-- The places of the first entries, so many of them, each once, in the order of their names.
pub record IsOrder (entries : List EntryRec) (count : ℕ) (places : List ℕ) : Type 0 where
  pub counted : length places ≡ count
  pub below : (p : ℕ) → Has places p → p < count
  pub each : (e : EntryRec) → Has (entries_at entries places) e ↔ Has (take count entries) e
  pub rising : Rising (entries_at entries places)

-- Each name before one position comes before this one, and each from another position on does not.
pub record Parts (listed : List EntryRec) (name : List ℕ) (low high : ℕ) : Type 0 where
  pub before : (i : ℕ) (x : EntryRec) → i < low → slice_get listed i ≡ Some x → is_lt (slice_cmp nat_cmp x.name name) ≡ true
  pub behind : (i : ℕ) (x : EntryRec) → high ≤ i → slice_get listed i ≡ Some x → is_lt (slice_cmp nat_cmp x.name name) ≡ false
