-- What is right about the entries of a volume, said of the lists of its directories in place of their places.
use Rattle.std.specs.Prelude.{◌≡◌, ◌≢◌, ◌↔◌, ℕ}
use Rattle.nl_field.specs.Members.{Has}
use Rattle.nl_field.specs.declared.entry.EntryRec.{EntryRec}
use Rattle.nl_field.specs.declared.inode.InodeRec.{InodeRec}
use Rattle.nl_field.specs.declared.inode.Kind.TheVariants.{Dir}
use Rattle.nl_field.specs.declared.shape.Shape.{Shape}
use Rattle.nl_meta.specs.Committed.{VirtualMap}
use Rattle.nl_meta.specs.Consistent.{AddressesRight, EntriesRight, GoodEntry, IsNode}
use Rattle.nl_meta.specs.Nodes.{entries_of_inode}
use Rattle.nl_dir.specs.Directory.{IsDirectory}

-- Directory d has this entry.
pub record Lists (shape : Shape) (pages : VirtualMap) (d : ℕ) (e : EntryRec) : Type 0 where
  pub rec : InodeRec
  pub is_node : IsNode shape pages d rec
  pub is_dir : rec.kind ≡ Dir
  pub has : Has (entries_of_inode pages rec) e

-- a chain of entries leads from node 0 to the node
pub data ReachedByLists (shape : Shape) (pages : VirtualMap) : ℕ → Type 0 where
  at_root : ReachedByLists shape pages 0
  by_entry : (d : ℕ) (e : EntryRec) → Lists shape pages d e → ReachedByLists shape pages d → ReachedByLists shape pages e.ino

pub record ListsRight (shape : Shape) (pages : VirtualMap) : Type 0 where
  pub directories : (d : ℕ) (rec : InodeRec) → IsNode shape pages d rec → rec.kind ≡ Dir → IsDirectory pages rec
  -- each entry names a used node but 0 under its generation
  pub good : (d : ℕ) (e : EntryRec) → Lists shape pages d e → GoodEntry shape pages e
  -- each used node but 0 is named by an entry, under its generation
  pub named : (n : ℕ) (rec : InodeRec) → IsNode shape pages n rec → n ≢ 0
      → (d : ℕ) × (e : EntryRec) × Lists shape pages d e × (e.ino ≡ n) × (e.generation ≡ rec.generation)
  -- no used node is named by two entries
  pub one_name : (d d' : ℕ) (e e' : EntryRec) → Lists shape pages d e → Lists shape pages d' e' → e.ino ≡ e'.ino → (d ≡ d') × (e ≡ e')
  pub reached : (n : ℕ) (rec : InodeRec) → IsNode shape pages n rec → ReachedByLists shape pages n

abbrev pub EntriesByLists : Type 0
EntriesByLists = (shape : Shape) (pages : VirtualMap) → AddressesRight shape pages → EntriesRight shape pages ↔ ListsRight shape pages
