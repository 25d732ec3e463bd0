-- What is told of the pointers of a volume which an opening found sound.
use Rattle.std.specs.Prelude.{List, map}
use Rattle.nl_field.specs.declared.pointer.Pointer.{Pointer}
use Rattle.nl_field.specs.declared.seen.Seen.{Seen}
use Rattle.nl_field.specs.declared.shape.Shape.{Shape}
use Rattle.nl_meta.specs.Committed.{VirtualMap}
use Rattle.nl_meta.specs.Consistent.{ConsistentOver}
use Rattle.nl_meta.specs.Nodes.{held_in}

-- the pointers of all files
abbrev pub pointers_in : Shape → VirtualMap → List Pointer
pointers_in shape pages = map (λ h. h.pointer) (held_in shape pages)

-- something is told of the pointers of each volume that is consistent beside the pages that a scan saw
abbrev pub OfConsistent : (Shape → List Seen → List Pointer → Type 0) → Type 0
OfConsistent Told =
    (shape : Shape) (pages : VirtualMap) (seen : List Seen) → ConsistentOver shape pages seen → Told shape seen (pointers_in shape pages)
