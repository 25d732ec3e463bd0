-- Where a name stands among the entries of a directory.
use Rattle.std.specs.Prelude.{◌≡◌, ◌≢◌, ℕ, ◌<◌, List, Some}
use Rattle.nl_field.specs.declared.entry.EntryRec.{EntryRec}
use Rattle.nl_field.specs.declared.inode.InodeRec.{InodeRec}
use Rattle.nl_meta.specs.Committed.{VirtualMap}
use Rattle.nl_dir.specs.Directory.{entry_at}

-- The entry at the place has the name.
pub record IsNamedAt (pages : VirtualMap) (rec : InodeRec) (name : List ℕ) (i : ℕ) : Type 0 where
  pub below : i < rec.size
  pub entry : EntryRec
  pub at : entry_at pages rec i ≡ Some entry
  pub has_name : entry.name ≡ name

-- None of so many entries from the front has the name.
pub record NoneNamed (pages : VirtualMap) (rec : InodeRec) (count : ℕ) (name : List ℕ) : Type 0 where
  pub none : (i : ℕ) (e : EntryRec) → i < count → entry_at pages rec i ≡ Some e → e.name ≢ name
