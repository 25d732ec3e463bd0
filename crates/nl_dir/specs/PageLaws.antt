-- What the calls on directories mean for the pages in memory as a whole.
use Rattle.std.specs.Prelude.{◌⊎◌, ℕ, List, Option, IfSome, IsSome}
use Rattle.nl_field.specs.Members.{Has}
use Rattle.nl_field.specs.declared.entry.EntryRec.{EntryRec}
use Rattle.nl_field.specs.declared.inode.InodeRec.{InodeRec}
use Rattle.nl_meta.specs.PageLaws.{IsApart}
use Rattle.nl_meta.specs.Pages.{Pages, page_of}
use Rattle.nl_meta.specs.Steps as step
use Rattle.nl_dir.specs.Changes.{ChangesPages, InsertsEntry, RemovesDirectoryEntry}
use Rattle.nl_dir.specs.Directory.{FitsFresh, IsDirectory}

-- No page is lost where pages of these addresses change that are resident, or none of the journal's.
abbrev pub ChangedPagesAreKept : Type 0
ChangedPagesAreKept =
    (changed : List ℕ) (old new : Pages) → ((u : ℕ) → Has changed u → IsSome (page_of old u) ⊎ IsApart u) → ChangesPages changed old new
    → step.ChangesRunningPages old new

-- No page is lost where an entry is inserted into a directory, with a new page that is none of the journal's.
abbrev pub InsertingChangesPages : Type 0
InsertingChangesPages =
    (entry : EntryRec) (fresh : Option ℕ) (rec after : InodeRec) (old new : Pages)
    → IsDirectory (page_of old) rec → FitsFresh old rec fresh → IfSome fresh IsApart → InsertsEntry entry fresh rec after old new
    → step.ChangesRunningPages old new

-- No page is lost where an entry is removed from a directory.
abbrev pub RemovingChangesPages : Type 0
RemovingChangesPages =
    (name : List ℕ) (gone : Option ℕ) (rec after : InodeRec) (old new : Pages) → IsDirectory (page_of old) rec
    → RemovesDirectoryEntry name gone rec after old new → step.ChangesRunningPages old new
