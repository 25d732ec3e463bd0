-- The pointers of a file by page index.
use Rattle.std.specs.Prelude.{ℕ, ◌-◌, not, if◌then◌else◌, List, [], ◌∷◌, filter, map}
use Rattle.std.specs.List.{range_with_len}
use Rattle.nl_field.specs.Pointers.{is_none_pointer}
use Rattle.nl_field.specs.declared.inode.InodeRec.{InodeRec}
use Rattle.nl_field.specs.declared.pointer.Pointer.{Pointer}
use Rattle.nl_meta.specs.Committed.{VirtualMap}
use Rattle.nl_meta.specs.Nodes.{pointer_at}

-- the pointers of so many indexes from one on, in rising order
unfoldable pub pointers_of_span : VirtualMap → InodeRec → ℕ → ℕ → List Pointer
pointers_of_span pages rec from count = filter (λ p. not (is_none_pointer p)) (map (pointer_at pages rec) (range_with_len from count))

-- the pointers of all indexes from one on
abbrev pub pointers_from : VirtualMap → InodeRec → ℕ → List Pointer
pointers_from pages rec from = pointers_of_span pages rec from (4104 - from)

-- the pointer, where it is one
abbrev pub as_list : Pointer → List Pointer
as_list p = if not (is_none_pointer p) then p ∷ [] else []
