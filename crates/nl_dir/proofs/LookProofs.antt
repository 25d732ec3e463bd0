-- The entry of a name, and where it stands.
use Rattle.std.proofs.Common.{◌≡◌, ℕ, ◌+◌, ◌-◌, ◌*◌, ◌/◌, ◌%◌, ◌≤◌, ◌<◌, min, Bool, true, false, ◌&&◌, cond, List, sym, ap, ◌∙◌, Some, None, arith, bytes_eq}
use Rattle.std.proofs.lemmas.Bool.{both_ways}
use Rattle.std.specs.Prelude.{slice_get, slice_index}
use Rattle.std.proofs.lemmas.Slice.Eq.{bytes_eq-Decides}
use Rattle.nl_field.specs.EntryRecord.{entry_bytes, entry_fields, entry_of, is_entry}
use Rattle.nl_field.specs.declared.entry.EntryRec.{EntryRec}
use Rattle.nl_field.specs.declared.inode.InodeRec.{InodeRec}
use Rattle.nl_meta.specs.Committed.{VirtualMap}
use Rattle.nl_meta.specs.Nodes.{address_of_place, entries_of_inode, entry_named, slot_in, slots_of}
use Rattle.nl_meta.proofs.Lists.{none_some, some_in}
use Rattle.nl_dir.specs.Directory.{IsDirectory, entry_at}
use Rattle.nl_dir.specs.Looking.{IsNamedAt, NoneNamed}
use Rattle.nl_dir.proofs.EntryLists.{listed-at, none-named, one-named, some-of}
use Rattle.nl_dir.proofs.PlaceFacts.{shown}

-- bytes that spell an entry spell what their fields have
pub spelled-fields : (bytes : List ℕ) (e : EntryRec) → entry_of bytes ≡ Some e → e ≡ entry_fields bytes
unfolding entry_of
spelled-fields bytes e is = by (is_entry (entry_fields bytes) && bytes_eq (entry_bytes (entry_fields bytes)) bytes) is
  where
    by : (b : Bool) → cond b (Some (entry_fields bytes)) None ≡ Some e → e ≡ entry_fields bytes
    by true is = sym (some_in (entry_fields bytes) e is)
    by false is = absurd (none_some e is)

-- the places of a row, whose page has no such name
pub row-none : (pages : VirtualMap) (rec : InodeRec) (row : ℕ) (name main : List ℕ) → pages (address_of_place rec (64 * row)) ≡ Some main
    → ((slot : ℕ) → slot < min (rec.size - 64 * row) 64 → bytes_eq (entry_fields (slot_in 64 slot main)).name name ≡ false)
    → (i : ℕ) (e : EntryRec) → 64 * row ≤ i → i < 64 * (row + 1) → i < rec.size → entry_at pages rec i ≡ Some e → e.name ≡ name → ⊥
row-none pages rec row name main is none i e low high below at same =
    let quotient : i / 64 ≡ 64 * row / 64 = omega (arith, low, high) in
    let slot : i % 64 < min (rec.size - 64 * row) 64 = omega (arith, low, high, below) in
    let there : pages (address_of_place rec i) ≡ Some main = ap (λ (n : ℕ). pages (slice_index (slots_of rec) n)) quotient ∙ is in
    let fields = spelled-fields (slot_in 64 (i % 64) main) e (sym (ap entry_of (shown pages rec i main there)) ∙ at) in
    both_ways _ (none (i % 64) slot) ((bytes_eq-Decides _ name).1 (sym (ap (λ (x : EntryRec). x.name) fields) ∙ same))

pub named-here : (pages : VirtualMap) (rec : InodeRec) (k : ℕ) (name main : List ℕ) (r : Bool) → IsDirectory pages rec → k < rec.size → pages (address_of_place rec k) ≡ Some main
    → r ≡ bytes_eq (entry_fields (slot_in 64 (k % 64) main)).name name → r ≡ true → IsNamedAt pages rec name k
named-here pages rec k name main r dir h is result same =
    let s = some-of (entry_at pages rec k) (dir.entries k h) in
    let fields = spelled-fields (slot_in 64 (k % 64) main) s.0 (sym (ap entry_of (shown pages rec k main is)) ∙ s.1) in
    record { below = h; entry = s.0; at = s.1; has_name = ap (λ (x : EntryRec). x.name) fields ∙ (bytes_eq-Decides _ name).0 (sym result ∙ same) }

pub row-named : (pages : VirtualMap) (rec : InodeRec) (row slot : ℕ) (name main : List ℕ) → IsDirectory pages rec → pages (address_of_place rec (64 * row)) ≡ Some main
    → slot < min (rec.size - 64 * row) 64 → bytes_eq (entry_fields (slot_in 64 slot main)).name name ≡ true → IsNamedAt pages rec name (64 * row + slot)
row-named pages rec row slot name main dir is below same =
    let quotient : (64 * row + slot) / 64 ≡ 64 * row / 64 = omega (arith, below) in
    let rest : (64 * row + slot) % 64 ≡ slot = omega (arith, below) in
    let there : pages (address_of_place rec (64 * row + slot)) ≡ Some main = ap (λ (n : ℕ). pages (slice_index (slots_of rec) n)) quotient ∙ is in
    named-here pages rec (64 * row + slot) name main (bytes_eq (entry_fields (slot_in 64 slot main)).name name) dir (omega (arith, below)) there
    (ap (λ (s : ℕ). bytes_eq (entry_fields (slot_in 64 s main)).name name) (sym rest)) same

-- the name of a place
pub name-here : (pages : VirtualMap) (rec : InodeRec) (k : ℕ) (main name : List ℕ) → IsDirectory pages rec → k < rec.size → pages (address_of_place rec k) ≡ Some main
    → name ≡ (entry_fields (slot_in 64 (k % 64) main)).name → (entry : EntryRec) × (slice_get (entries_of_inode pages rec) k ≡ Some entry) × (name ≡ entry.name)
unfolding entries_of_inode
name-here pages rec k main name dir below is named =
    let s = some-of (entry_at pages rec k) (dir.entries k below) in
    let fields = spelled-fields (slot_in 64 (k % 64) main) s.0 (sym (ap entry_of (shown pages rec k main is)) ∙ s.1) in
    (s.0, listed-at (entry_at pages rec) rec.size dir.entries k below ∙ s.1, named ∙ sym (ap (λ (x : EntryRec). x.name) fields))

-- what both say of the entry of the name
pub finds-none : (pages : VirtualMap) (rec : InodeRec) (name : List ℕ) → NoneNamed pages rec rec.size name → entry_named pages rec name ≡ None
unfolding entry_named entries_of_inode
finds-none pages rec name none = none-named (entry_at pages rec) rec.size name none.none

pub finds-at : (pages : VirtualMap) (rec : InodeRec) (name : List ℕ) (i : ℕ) (at : IsNamedAt pages rec name i) → IsDirectory pages rec → entry_named pages rec name ≡ Some at.entry
unfolding entry_named entries_of_inode
finds-at pages rec name i at dir = one-named (entry_at pages rec) rec.size i name at.entry dir.names_differ at.below at.at at.has_name
