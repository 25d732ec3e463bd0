-- Pages in flight of one file.
use Rattle.std.specs.Prelude.{◌≡◌, ℕ, ◌≤◌, List, slice_get, Some}
use Rattle.nl_flight.specs.declared.page.FlightPage.{FlightPage}

-- The page is one of this generation of a node, under a write sequence number.
pub record IsOfFile (n generation : ℕ) (page : FlightPage) : Type 0 where
  pub ino : page.tag.ino ≡ n
  pub generation_is : page.tag.generation ≡ generation
  pub stamp : 1 ≤ page.at.stamp

abbrev pub AllOfFile : ℕ → ℕ → List FlightPage → Type 0
AllOfFile n generation pages = (k : ℕ) (page : FlightPage) → slice_get pages k ≡ Some page → IsOfFile n generation page
