-- The bytes of a file over a device.
use Rattle.std.specs.Prelude.{◌≡◌, ◌⊎◌, ℕ, ◌+◌, ◌/◌, ◌%◌, ◌<◌, if◌then◌else◌, List, length, slice_index}
use Rattle.nl_field.specs.Bytes.{zeros}
use Rattle.nl_field.specs.Pointers.{is_none_pointer}
use Rattle.nl_field.specs.declared.inode.InodeRec.{InodeRec}
use Rattle.nl_iface.specs.Names.{place_of}
use Rattle.nl_iface.specs.declared.counts.Counts.{Ghosts}
use Rattle.nl_meta.specs.Committed.{VirtualMap}
use Rattle.nl_meta.specs.Nodes.{pointer_at}
use Rattle.nl_files.specs.Answers.{IsPageStamp, IsPointerStamp}

-- the bytes of a page index: those of the page to which its pointer leads, and zeros where it has none
abbrev pub file_page : {D : Type 0} → Ghosts D → D → VirtualMap → InodeRec → ℕ → List ℕ
file_page g s pages rec index =
    if is_none_pointer (pointer_at pages rec index) then zeros 4096 else g.bytes s (place_of (g.names s) (pointer_at pages rec index))

-- the byte of a file at an offset, by the bytes of its pages
abbrev pub byte_at : (ℕ → List ℕ) → ℕ → ℕ
byte_at page i = slice_index (page (i / 4096)) (i % 4096)

-- A list of bytes is the file's from an offset on.
abbrev pub AreBytesFrom : (ℕ → List ℕ) → ℕ → List ℕ → Type 0
AreBytesFrom page from bytes = (k : ℕ) → k < length bytes → slice_index bytes k ≡ byte_at page (from + k)

-- a stamp that a read of the file wants
abbrev pub IsWanted : {D : Type 0} → Ghosts D → D → VirtualMap → InodeRec → ℕ → Type 0
IsWanted g s pages rec w = IsPageStamp (g.stamps s) rec w ⊎ IsPointerStamp pages rec w
