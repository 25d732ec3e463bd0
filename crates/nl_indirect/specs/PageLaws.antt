-- What the calls on pointers mean for the pages in memory as a whole.
use Rattle.std.specs.Prelude.{◌≢◌, ℕ, Option, IfSome}
use Rattle.nl_field.specs.declared.inode.InodeRec.{InodeRec}
use Rattle.nl_field.specs.declared.pointer.Pointer.{Pointer}
use Rattle.nl_meta.specs.PageLaws.{IsApart}
use Rattle.nl_meta.specs.Pages.{Pages, page_of}
use Rattle.nl_meta.specs.Steps.{ChangesRunningPages}
use Rattle.nl_indirect.specs.Ranges.{HasRange, slot_of}
use Rattle.nl_indirect.specs.Storing.{Stores}
use Rattle.nl_indirect.specs.Truncating.{TruncatesPointers}
use Rattle.nl_indirect.specs.declared.answer.Stored.{Stored}

-- A pointer is stored: the page of its range was resident, and a new one is none of the journal's.
abbrev pub StoringChangesPages : Type 0
StoringChangesPages =
    (index : ℕ) (to : Pointer) (fresh : Option ℕ) (was is : InodeRec) (old new : Pages) (answer : Stored)
    → HasRange (page_of old) was index → IfSome fresh IsApart → Stores index to fresh was is old new answer → ChangesRunningPages old new

-- Pointers are taken away: the page of the first index was resident, where it has earlier ones.
abbrev pub TruncatingChangesPages : Type 0
TruncatingChangesPages =
    (from : ℕ) (was is : InodeRec) (old new : Pages) → (slot_of from ≢ 0 → HasRange (page_of old) was from) → TruncatesPointers from was is old new
    → ChangesRunningPages old new
