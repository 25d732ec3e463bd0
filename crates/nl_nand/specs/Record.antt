-- The record of a medium in memory, and the images that a crash may have left by it.
use Rattle.std.specs.Prelude.{◌≡◌, ◌⊎◌, ℕ, ◌+◌, ◌++◌, List, [], ◌∷◌, length, take, drop, map, slice_set, reverse, Option, Some, None, Bool, ◌&&◌, ◌||◌, ◌==◌, nat_le}
use Rattle.nl_field.specs.Page.{Page, erased, uncorrectable, written, Image, page_at, is_page, is_image}
use Rattle.nl_field.specs.Numbers.{is_legal}
use Rattle.nl_nand.specs.Nand.{Cut}
use Rattle.nl_nand.specs.declared.geometry.Geometry.{Geometry}
use Rattle.nl_nand.specs.declared.cell.Cell.{Cell}
use Rattle.nl_nand.specs.declared.cell.Cell.TheVariants as cell
use Rattle.nl_nand.specs.declared.interrupted.Interrupted.{Interrupted}
use Rattle.nl_nand.specs.declared.record.Attempt.{Attempt}
use Rattle.nl_nand.specs.declared.record.Attempt.TheVariants as attempt
use Rattle.nl_nand.specs.declared.record.Entry.{Entry}
use Rattle.nl_nand.specs.declared.record.Entry.TheVariants as entry

abbrev pub page_of : Cell → Page
page_of cell.Erased = erased
page_of cell.Uncorrectable = uncorrectable
page_of (cell.Written buf) = written buf.value

abbrev pub pages_of : List Cell → List Page
pages_of cells = map page_of cells

-- legal numbers, or none
abbrev pub is_geometry : Geometry → Bool
is_geometry geometry = is_legal geometry.blocks geometry.pages || geometry.blocks == 0 && geometry.pages == 0

abbrev pub image_of : Geometry → List Cell → Image
image_of geometry cells = record { blocks = geometry.blocks; pages = geometry.pages; contents = pages_of cells }

-- the range of an operation that changed nothing, and the value that it was to give
abbrev pub low_of_attempt : Attempt → ℕ
low_of_attempt (attempt.Program page value) = page
low_of_attempt (attempt.Erase low count) = low

abbrev pub high_of_attempt : Attempt → ℕ
high_of_attempt (attempt.Program page value) = page + 1
high_of_attempt (attempt.Erase low count) = low + count

abbrev pub value_of_attempt : Attempt → Page
value_of_attempt (attempt.Program page value) = written value.value
value_of_attempt (attempt.Erase low count) = erased

-- the range of an operation
abbrev pub low_of : Entry → ℕ
low_of (entry.Programmed page moment) = page
low_of (entry.Erased low cells moment) = low
low_of (entry.Failed tried moment) = low_of_attempt tried

abbrev pub high_of : Entry → ℕ
high_of (entry.Programmed page moment) = page + 1
high_of (entry.Erased low cells moment) = low + length cells.items
high_of (entry.Failed tried moment) = high_of_attempt tried

-- the moment before it
abbrev pub moment_of : Entry → ℕ
moment_of (entry.Programmed page moment) = moment
moment_of (entry.Erased low cells moment) = moment
moment_of (entry.Failed tried moment) = moment

-- the value that it gives to each page of its range, from the image after it
abbrev pub value_in : Entry → Image → Page
value_in (entry.Programmed page moment) now = page_at now page
value_in (entry.Erased low cells moment) now = erased
value_in (entry.Failed tried moment) now = value_of_attempt tried

-- the image before it, from the image after it
abbrev pub undone : Entry → Image → Image
undone (entry.Programmed page moment) now = record now { contents = slice_set now.contents page erased }
undone (entry.Erased low cells moment) now =
    record now { contents = take low now.contents ++ pages_of cells.items ++ drop (low + length cells.items) now.contents }
undone (entry.Failed tried moment) now = now

-- What a crash may have left at moment m, where the newest entry comes first, and the image now and the clock now are given.
unfoldable pub IsCrashState : List Entry → Image → ℕ → ℕ → Image → Type 0
IsCrashState [] now clock m c = (m ≡ clock) × (c ≡ now)
IsCrashState (e ∷ older) now clock m c = ((m ≡ clock) × (c ≡ now))
    ⊎ (((m ≡ moment_of e) × Cut (low_of e) (high_of e) (value_in e now) (undone e now) c) ⊎ IsCrashState older (undone e now) (moment_of e) m c)

-- Each image that the record tells of is one, and no entry is later than the next.
unfoldable pub is_history : List Entry → Image → ℕ → Bool
is_history [] now clock = is_image now
is_history (e ∷ older) now clock =
    is_image now && is_page (value_in e now) && nat_le (moment_of e) clock && is_history older (undone e now) (moment_of e)

-- the record, newest entry first, with the operation that a stop cut short
abbrev pub logged : Option Interrupted → ℕ → List Entry → List Entry
logged None clock entries = reverse entries
logged (Some i) clock entries = entry.Failed i.attempt clock ∷ reverse entries

-- the end of the range of the operation that a stop cut short
abbrev pub end_of : Option Interrupted → ℕ
end_of None = 0
end_of (Some i) = high_of_attempt i.attempt
