-- Pages in flight for a call that writes.
use Rattle.std.specs.Prelude.{◌≡◌, ℕ, ◌≤◌, ◌==◌, true, Bool, List, slice_get, Option, Some}
use Rattle.std.specs.List.{list_any}
use Rattle.nl_field.specs.FileContent.{FileContent}
use Rattle.nl_tree.specs.CountLaws.{Differ}
use Rattle.nl_tree.specs.declared.call.Call.{Call}
use Rattle.nl_flight.specs.declared.page.FlightPage.{FlightPage}
use Rattle.nl_meta.specs.Consistent.{PageOfStamp}
use Rattle.nl_calls_files.specs.LinePages.{indexes_of}
use Rattle.nl_calls_bytes.specs.Ranges.{is_written, page_after}

-- Each page is one of the file in which bytes of the call lie, at an index of its own.
pub record AreOfCall (n generation : ℕ) (call : Call) (pages : List FlightPage) : Type 0 where
  pub tag : (k : ℕ) (page : FlightPage) → slice_get pages k ≡ Some page
      → page.tag ≡ record { ino = n; generation = generation; index = page.index }
  pub written : (k : ℕ) (page : FlightPage) → slice_get pages k ≡ Some page → is_written call page.index ≡ true
  pub stamp : (k : ℕ) (page : FlightPage) → slice_get pages k ≡ Some page → 1 ≤ page.at.stamp
  pub differ : Differ (indexes_of pages)

-- Each page in flight is that of its write sequence number, as the call leaves it in a file with this content.
abbrev pub AreWritten : (ℕ → Option PageOfStamp) → FileContent → Call → List FlightPage → Type 0
AreWritten page_of_stamp content call pages =
    (k : ℕ) (page : FlightPage) → slice_get pages k ≡ Some page
    → page_of_stamp page.at.stamp ≡ Some (record { tag = page.tag; bytes = page_after content call page.index })

-- a page of this index is in flight
abbrev pub is_flying : List FlightPage → ℕ → Bool
is_flying pages i = list_any (λ (page : FlightPage). page.index == i) pages

-- each page in which bytes of the call lie is in flight
abbrev pub HasAll : Call → List FlightPage → Type 0
HasAll call pages = (i : ℕ) → is_written call i ≡ true → is_flying pages i ≡ true
