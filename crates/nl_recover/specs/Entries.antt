-- The entries of directories, as a walk comes to them that marks the nodes that were named and holds the names of the directory that
-- it is in.
use Rattle.std.specs.Prelude.{◌≡◌, ℕ, ◌==◌, nat_lt, Bool, true, false, not, ◌||◌, if◌then◌else◌, List, [], ◌∷◌, ◌++◌, slice_index_or, slice_set, bytes_eq, Option, Some, None, is_some}
use Rattle.std.specs.List.{list_any}
use Rattle.nl_field.specs.Bytes.{all_zero}
use Rattle.nl_field.specs.EntryRecord.{entry_of}
use Rattle.nl_field.specs.declared.entry.EntryRec.{EntryRec}
use Rattle.nl_field.specs.declared.inode.InodeRec.{InodeRec}
use Rattle.nl_field.specs.declared.shape.Shape.{Shape}
use Rattle.nl_meta.specs.Committed.{VirtualMap}
use Rattle.nl_meta.specs.Nodes.{address_of_place, bytes_of_place, inode_at}
use Rattle.nl_meta.specs.Walk.{EntryPlace, has_generation, is_used_kind, places_of}
use Rattle.nl_recover.specs.Scanning.{PassesOver}

-- of each node whether an entry named it, and the names of the directory so far
pub record Named : Type 0 where
  pub nodes : List Bool
  pub names : List (List ℕ)

abbrev pub named_by : List Bool → List (List ℕ) → Named
named_by nodes names = record { nodes = nodes; names = names }

-- An entry is at fault beside these: it is not spelled, or names node 0, an unused node, another generation or a node that was named,
-- or repeats a name.
abbrev pub is_bad_entry : Shape → VirtualMap → Named → Option EntryRec → Bool
is_bad_entry shape pages s None = true
is_bad_entry shape pages s (Some e) =
    e.ino == 0 || not (nat_lt e.ino shape.nodes) || not (has_generation e.generation (inode_at pages e.ino))
    || (slice_index_or s.nodes e.ino false || list_any (λ name. bytes_eq name e.name) s.names)

-- A place is at fault beside these: its entry is, or it lies behind the last entry and is not zero.
abbrev pub is_bad_among : Shape → VirtualMap → Named → EntryPlace → Bool
is_bad_among shape pages s p = if p.is_entry then is_bad_entry shape pages s (entry_of p.bytes) else not (all_zero p.bytes)

abbrev pub with_entry : Named → Option EntryRec → Named
with_entry s None = s
with_entry s (Some e) = record { nodes = slice_set s.nodes e.ino true; names = s.names ++ e.name ∷ [] }

abbrev pub with_place : Named → EntryPlace → Named
with_place s p = if p.is_entry then with_entry s (entry_of p.bytes) else s

abbrev pub dir_of_place : EntryPlace → ℕ
dir_of_place p = p.dir

-- A pass over these places marks what each names, and answers the directory of the first at fault.
abbrev pub PassesPlaces : Shape → VirtualMap → Named → Named → List EntryPlace → Option ℕ → Type 0
PassesPlaces shape pages old new places answer = PassesOver (is_bad_among shape pages) with_place dir_of_place old new places answer

-- the place of a directory, if its page is there
abbrev pub place_there : VirtualMap → ℕ → InodeRec → ℕ → List EntryPlace
place_there pages n rec i =
    if is_some (pages (address_of_place rec i)) then record { dir = n; is_entry = nat_lt i rec.size; bytes = bytes_of_place pages rec i } ∷ [] else []

-- the places of a node, none where it is not used
abbrev pub places_in : VirtualMap → ℕ → Option InodeRec → List EntryPlace
places_in pages n None = []
places_in pages n (Some rec) = if is_used_kind rec.kind then places_of pages (n, rec) else []

-- What naming one entry does.
pub record NamesEntry (shape : Shape) (pages : VirtualMap) (old new : Named) (entry : Option EntryRec) (bad : Bool) : Type 0 where
  pub answer : bad ≡ is_bad_entry shape pages old entry
  pub named : bad ≡ false → new ≡ with_entry old entry

-- What a slot does that has an entry, or stands behind the last one.
pub record NamesSlot (shape : Shape) (pages : VirtualMap) (old new : Named) (is_entry : Bool) (bytes : List ℕ) (bad : Bool) : Type 0 where
  pub answer : bad ≡ (if is_entry then is_bad_entry shape pages old (entry_of bytes) else not (all_zero bytes))
  pub named : bad ≡ false → new ≡ (if is_entry then with_entry old (entry_of bytes) else old)
