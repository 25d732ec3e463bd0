-- What the pages of files hold: their owner, their write sequence number and their bytes.
use Rattle.std.specs.Prelude.{◌≡◌, ◌⊎◌, ℕ, ⊤, List, [], Option, Some, None}
use Rattle.nl_field.specs.Page.{PageBytes, Page, erased, uncorrectable, written}
use Rattle.nl_field.specs.SpareRecord.{spare_bytes, spare_rec_of, stamp_of}
use Rattle.nl_field.specs.declared.answers.NamedRead.{NamedRead}
use Rattle.nl_field.specs.declared.answers.NamedRead.TheVariants as read
use Rattle.nl_field.specs.declared.pointer.Tag.{Tag}
use Rattle.nl_field.specs.declared.spare.SpareRec.{SpareRec}
use Rattle.nl_field.specs.declared.spare.SpareRec.TheVariants.{Virtual, Physical}

-- an owner, a write sequence number, and main bytes
abbrev pub Shown : Type 0
Shown = Tag × ℕ × List ℕ

abbrev pub shown_in : SpareRec → List ℕ → Option Shown
shown_in (Virtual vaddr stamp wear) main = None
shown_in (Physical tag stamp wear) main = Some (tag, stamp, main)

abbrev pub shown_with : Option SpareRec → List ℕ → Option Shown
shown_with None main = None
shown_with (Some rec) main = shown_in rec main

-- what a page shows: it is written, and its spare bytes spell the record of an owner
abbrev pub shown_by : Page → Option Shown
shown_by erased = None
shown_by uncorrectable = None
shown_by (written bytes) = shown_with (spare_rec_of bytes.spare) bytes.main

abbrev pub main_of : Page → List ℕ
main_of erased = []
main_of uncorrectable = []
main_of (written bytes) = bytes.main

abbrev pub stamp_in : Option SpareRec → ℕ
stamp_in None = 0
stamp_in (Some rec) = stamp_of rec

-- the write sequence number that spare bytes spell, 0 where they spell none
abbrev pub stamp_found : PageBytes → ℕ
stamp_found bytes = stamp_in (spare_rec_of bytes.spare)

-- the write sequence number of a page, 0 where it is not readable
abbrev pub stamp_at : Page → ℕ
stamp_at erased = 0
stamp_at uncorrectable = 0
stamp_at (written bytes) = stamp_found bytes

-- what a lost read tells to have found: this number, or 0
abbrev pub TellsFound : ℕ → NamedRead → Type 0
TellsFound stamp read.Done = ⊤
TellsFound stamp read.NotLive = ⊤
TellsFound stamp (read.Lost w f) = (f ≡ 0) ⊎ (f ≡ stamp)
TellsFound stamp read.Fault = ⊤

-- nothing is read from the page
abbrev pub IsUnreadable : Page → Type 0
IsUnreadable page = (page ≡ erased) ⊎ (page ≡ uncorrectable)

-- the page of an owner: its main bytes, and the record of the owner, of a number and of the wear of its block
abbrev pub page_with : List ℕ → Tag → ℕ → ℕ → PageBytes
page_with main tag stamp wear = record { main = main; spare = spare_bytes (Physical tag stamp wear) }
