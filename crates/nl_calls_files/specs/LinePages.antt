-- Pages in flight that a file takes, and what they make of its content.
use Rattle.std.specs.Prelude.{◌≡◌, ℕ, ◌+◌, ◌<◌, max, List, length, map, slice_get, Option, Some, IsTrue}
use Rattle.nl_field.specs.FileContent.{FileContent, is_content, overlaid, page_bytes, touched, written_over}
use Rattle.nl_flight.specs.declared.page.FlightPage.{FlightPage}
use Rattle.nl_meta.specs.Consistent.{PointerIsThere, PageOfStamp}
use Rattle.nl_spec_image.specs.Stands.{bytes_for}
use Rattle.nl_calls_files.specs.LineNeeds.{with_pages}

-- at which indexes of a file pages stand
abbrev pub indexes_of : List FlightPage → List ℕ
indexes_of pages = map (λ page. page.index) pages

-- the pages with their indexes and what they hold
abbrev pub shown_pages : (ℕ → Option PageOfStamp) → List FlightPage → List (ℕ × List ℕ)
shown_pages page_of_stamp pages = map (λ page. (page.index, bytes_for page_of_stamp page.at.stamp)) pages

-- Each page of a line is that of its write sequence number, and holds nothing behind the size.
abbrev pub AreThere : (ℕ → Option PageOfStamp) → ℕ → List FlightPage → Type 0
AreThere page_of_stamp size pages =
    (k : ℕ) (page : FlightPage) → slice_get pages k ≡ Some page
    → PointerIsThere page_of_stamp (record { size = size; tag = page.tag; pointer = page.at })

-- Each page of a write holds what a file of this content has there, with these bytes laid over it from an offset on.
abbrev pub AreOfWrite : (ℕ → Option PageOfStamp) → FileContent → ℕ → List ℕ → List FlightPage → Type 0
AreOfWrite page_of_stamp content from bytes pages =
    (k : ℕ) (page : FlightPage) → slice_get pages k ≡ Some page
    → (page.tag.index ≡ page.index)
    × (page_of_stamp page.at.stamp ≡ Some (record { tag = page.tag; bytes = overlaid (page_bytes content page.index) page.index from bytes }))

-- Of the pages of a write, one for each index that it touches, none holds anything behind the size, and the content with them is that after
-- the write.
abbrev pub LinesWriteOver : Type 0
LinesWriteOver =
    (page_of_stamp : ℕ → Option PageOfStamp) (content : FileContent) (from : ℕ) (bytes : List ℕ) (pages : List FlightPage)
    → IsTrue (is_content content) → 0 < length bytes
    → indexes_of pages ≡ touched from (length bytes) → AreOfWrite page_of_stamp content from bytes pages
    → AreThere page_of_stamp (max content.size (from + length bytes)) pages
    × (with_pages (shown_pages page_of_stamp pages) (max content.size (from + length bytes)) content ≡ written_over content from bytes)
