-- The pointers of files, node by node and index by index.
use Rattle.std.specs.Prelude.{ℕ, if◌then◌else◌, List, [], ◌∷◌, flat_map}
use Rattle.std.specs.List.{range_with_len}
use Rattle.nl_field.specs.Pointers.{is_none_pointer}
use Rattle.nl_field.specs.declared.inode.InodeRec.{InodeRec}
use Rattle.nl_field.specs.declared.pointer.Pointer.{Pointer}
use Rattle.nl_field.specs.declared.place.What.{What}
use Rattle.nl_field.specs.declared.place.What.TheVariants.{Super, Stamp, Inode, Pages as PagesPhase, Entry, Pointer as PointerPhase, Names, Charges, Crowded}
use Rattle.nl_meta.specs.Committed.{VirtualMap}
use Rattle.nl_meta.specs.Nodes.{Held, held_by, inode_at, node_from, pointer_at}

abbrev pub held_entry : ℕ → InodeRec → ℕ → Pointer → Held
held_entry n rec i p = record { size = rec.size; tag = record { ino = n; generation = rec.generation; index = i }; pointer = p }

-- the pointer of a file at an index, where there is one
abbrev pub held_index : VirtualMap → ℕ → InodeRec → ℕ → List Held
held_index pages n rec i = if is_none_pointer (pointer_at pages rec i) then [] else held_entry n rec i (pointer_at pages rec i) ∷ []

-- the pointers of a file at so many indexes from one on
unfoldable pub held_from : VirtualMap → ℕ → InodeRec → ℕ → ℕ → List Held
held_from pages n rec from count = flat_map (held_index pages n rec) (range_with_len from count)

-- the pointers of a node
abbrev pub pointers_at_node : VirtualMap → ℕ → List Held
pointers_at_node pages n = held_by n (node_from pages (inode_at pages n))

-- the phases that look at metadata alone, and those that look at pointers
abbrev pub metadata_phases : List What
metadata_phases = Super ∷ Stamp ∷ Inode ∷ PagesPhase ∷ Entry ∷ []

abbrev pub pointer_phases : List What
pointer_phases = PointerPhase ∷ Names ∷ Charges ∷ Crowded ∷ []
