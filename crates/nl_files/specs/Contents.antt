-- What a file holds, where the bytes of each stamp are known; and what a pointer that is installed, and a cut, mean for it.
use Rattle.std.specs.Prelude.{◌≡◌, ◌≢◌, ℕ, ◌/◌, ◌≤◌, ◌<◌, if◌then◌else◌, List, map, Option, Some, None, IfSome, IsSome, IsTrue}
use Rattle.std.specs.FinMap.{find as value_at}
use Rattle.std.specs.Int.{div_ceil}
use Rattle.std.specs.Ordering.{nat_cmp}
use Rattle.nl_field.specs.FileContent.{FileContent}
use Rattle.nl_field.specs.Pointers.{is_none_pointer}
use Rattle.nl_field.specs.Spelling.{is_stamp}
use Rattle.nl_field.specs.declared.inode.InodeRec.{InodeRec}
use Rattle.nl_field.specs.declared.pointer.Pointer.{Pointer}
use Rattle.nl_field.specs.declared.shape.Shape.{Shape}
use Rattle.nl_inode.specs.Nodes.{Spaces}
use Rattle.nl_indirect.specs.Ranges.{IsFileRecord}
use Rattle.nl_meta.specs.Committed.{VirtualMap}
use Rattle.nl_meta.specs.Nodes.{pointer_at, pointers_of_inode}
use Rattle.nl_files.specs.CutRuns.{CutIsWritten}
use Rattle.nl_files.specs.InstallLaws.{FileIsInstalled}

-- the content by the file's pointers
abbrev pub content_of : (ℕ → List ℕ) → VirtualMap → InodeRec → FileContent
content_of bytes_of pages rec = record { size = rec.size; pages = map (λ p. (p.0, bytes_of p.1.stamp)) (pointers_of_inode pages rec) }

-- the page of a pointer, where it is one
abbrev pub page_by_stamp : (ℕ → List ℕ) → Pointer → Option (List ℕ)
page_by_stamp bytes_of p = if is_none_pointer p then None else Some (bytes_of p.stamp)

-- At each index a file has the page of the pointer there.
abbrev pub PagesByPointers : Type 0
PagesByPointers =
    (bytes_of : ℕ → List ℕ) (pages : VirtualMap) (rec : InodeRec) → IsFileRecord rec → (i : ℕ)
    → value_at nat_cmp i (content_of bytes_of pages rec).pages ≡ page_by_stamp bytes_of (pointer_at pages rec i)

-- One index has this page, and each other one what it had.
pub record WritesPage (index : ℕ) (bytes : List ℕ) (old new : FileContent) : Type 0 where
  pub at : value_at nat_cmp index new.pages ≡ Some bytes
  pub others : (i : ℕ) → i ≢ index → value_at nat_cmp i new.pages ≡ value_at nat_cmp i old.pages

-- Of the bytes of the stamps, those of a pointer that is installed are the page of its index.
abbrev pub InstallingWrites : Type 0
InstallingWrites =
    (bytes_of : ℕ → List ℕ) (shape : Shape) (n index : ℕ) (to : Pointer) (was is : InodeRec) (before after : VirtualMap) (s t : Spaces)
    → IsFileRecord was → IsFileRecord is → IsTrue (is_stamp to.stamp)
    → FileIsInstalled shape n index to was is before after s t
    → WritesPage index (bytes_of to.stamp) (content_of bytes_of before was) (content_of bytes_of after is)

-- Pages wholly behind the size are gone, the one in which the file ends is the one that is given, if any, and each other one stays.
pub record CutsPages (size : ℕ) (partial : Option (List ℕ)) (old new : FileContent) : Type 0 where
  pub gone : (i : ℕ) → div_ceil size 4096 ≤ i → value_at nat_cmp i new.pages ≡ None
  pub replaced : IfSome partial (λ bytes. value_at nat_cmp (size / 4096) new.pages ≡ Some bytes)
  pub kept : (i : ℕ) → i < div_ceil size 4096 → (IsSome partial → i ≢ size / 4096)
      → value_at nat_cmp i new.pages ≡ value_at nat_cmp i old.pages

-- the bytes of a pointer that is given
abbrev pub bytes_given : (ℕ → List ℕ) → Option Pointer → Option (List ℕ)
bytes_given bytes_of None = None
bytes_given bytes_of (Some p) = Some (bytes_of p.stamp)

abbrev pub CuttingCuts : Type 0
CuttingCuts =
    (bytes_of : ℕ → List ℕ) (shape : Shape) (n size : ℕ) (partial : Option Pointer) (was is : InodeRec) (before after : VirtualMap)
    (s t : Spaces) → IsFileRecord was → IsFileRecord is
    → IfSome partial (λ p. IsTrue (is_stamp p.stamp)) → CutIsWritten shape n size partial was is before after s t
    → CutsPages size (bytes_given bytes_of partial) (content_of bytes_of before was) (content_of bytes_of after is)
