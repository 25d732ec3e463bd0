-- What the walk tests, over lists: a way from its phases to the words of `Consistent`.
use Rattle.std.specs.Prelude.{◌≡◌, ◌≢◌, ◌*◌, ◌<◌, ◌≤◌, ℕ, List, [], ◌∷◌, filter_map, flat_map, Some, is_some, IsTrue}
use Rattle.std.specs.Int.{div_ceil}
use Rattle.nl_field.specs.Bytes.{all_zero}
use Rattle.nl_field.specs.EntryRecord.{entry_of}
use Rattle.nl_field.specs.declared.seen.Seen.{Seen}
use Rattle.nl_field.specs.declared.shape.Shape.{Shape}
use Rattle.nl_field.specs.declared.inode.Kind.TheVariants.{Dir}
use Rattle.nl_field.specs.declared.inode.InodeRec.{InodeRec}
use Rattle.nl_field.specs.declared.entry.EntryRec.{EntryRec}
use Rattle.nl_meta.specs.Committed.{VirtualMap}
use Rattle.nl_meta.specs.Nodes.{address_of_place, bytes_of_place, Held}
use Rattle.nl_meta.specs.Walk.{used_nodes, addresses_of, Naming, naming_of, all_places}
use Rattle.nl_field.specs.Members.{Has}
use Rattle.nl_meta.specs.Consistent.{IsNode, GoodAddress, GoodEntry, IsListed}

-- of each element and each later one
abbrev pub EachTwo : {X : Type 0} → (X → X → Type 0) → List X → Type 0
EachTwo r [] = Unit {0}
EachTwo {X} r (x ∷ xs) = ((y : X) → Has xs y → r x y) × EachTwo r xs

pub record AddressesListed (shape : Shape) (pages : VirtualMap) : Type 0 where
  pub good : (n : ℕ) (rec : InodeRec) (a : ℕ) → IsNode shape pages n rec → Has rec.addresses a → a ≢ 0 → GoodAddress shape pages rec.kind a
  pub differ : EachTwo (λ x y. x.1 ≢ y.1) (flat_map addresses_of (used_nodes shape pages))

-- the page of each place of a directory is there
abbrev pub PlacesThere : Shape → VirtualMap → Type 0
PlacesThere shape pages =
    (n : ℕ) (rec : InodeRec) (i : ℕ) → IsNode shape pages n rec → rec.kind ≡ Dir → i < 64 * div_ceil rec.size 64 → IsTrue (is_some (pages (address_of_place rec i)))

-- all entries of all directories, each with its directory
unfoldable pub namings : Shape → VirtualMap → List Naming
namings shape pages = filter_map naming_of (all_places shape pages)

-- a chain of these entries leads from node 0 to the node
pub data ReachedBy (shape : Shape) (pages : VirtualMap) : ℕ → Type 0 where
  from_root : ReachedBy shape pages 0
  by_naming : (x : Naming) → Has (namings shape pages) x → ReachedBy shape pages x.0 → ReachedBy shape pages x.1.ino

pub record EntriesListed (shape : Shape) (pages : VirtualMap) : Type 0 where
  pub spelled : (n : ℕ) (rec : InodeRec) (i : ℕ) → IsNode shape pages n rec → rec.kind ≡ Dir → i < rec.size
      → (e : EntryRec) × (entry_of (bytes_of_place pages rec i) ≡ Some e) × GoodEntry shape pages e
  pub rest : (n : ℕ) (rec : InodeRec) (i : ℕ) → IsNode shape pages n rec → rec.kind ≡ Dir → rec.size ≤ i → i < 64 * div_ceil rec.size 64
      → IsTrue (all_zero (bytes_of_place pages rec i))
  pub one_name : EachTwo (λ x y. x.1.ino ≢ y.1.ino) (namings shape pages)
  pub names_differ : EachTwo (λ x y. x.0 ≡ y.0 → x.1.name ≢ y.1.name) (namings shape pages)
  pub reached : (n : ℕ) (rec : InodeRec) → IsNode shape pages n rec → ReachedBy shape pages n

pub record PointersListed (physicals : List Seen) (held : List Held) : Type 0 where
  pub below : (h : Held) → Has held h → h.tag.index < div_ceil h.size 4096
  pub there : (h : Held) → Has held h → IsListed physicals h
  pub stamps_differ : EachTwo (λ x y. x.pointer.stamp ≢ y.pointer.stamp) held
  pub names_differ : EachTwo (λ x y. x.pointer.name ≢ y.pointer.name) held
