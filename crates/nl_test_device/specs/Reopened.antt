-- What a device keeps of a scan of the least volume.
use Rattle.std.specs.Prelude.{ℕ, ◌+◌, ◌*◌, ◌/◌, ◌==◌, nat_lt, Bool, if◌then◌else◌, List, [], ◌∷◌, ◌≤◌, map}
use Rattle.std.specs.List.{range_with_len}
use Rattle.nl_field.specs.declared.pointer.Pointer.{Pointer}
use Rattle.nl_device.specs.Kept.{KeptPages}
use Rattle.nl_device.specs.Retain.{CanRetain}
use Rattle.nl_device.specs.declared.kept.page.KeptPage.{KeptPage}

-- a page of the owner, by its number and its stamp
abbrev pub own_page : ℕ × ℕ → KeptPage
own_page x = record { page = x.0; stamp = x.1; tag = record { ino = 3; generation = 1; index = 5 } }

-- the 33 pages that were written, each with its stamp, and then two copies
abbrev pub wanted_at : ℕ → ℕ × ℕ
wanted_at at = if nat_lt at 33 then (256 + at, at + 1) else (if at == 33 then (320, 3) else (321, 15))

-- the place among the written pages of the page that is seen at a place: of each fifteen only the first five may be seen
abbrev pub place_of : ℕ → Bool → ℕ → ℕ
place_of first fives at = first + at + (if fives then at / 5 * 10 else 0)

-- so many of the written pages that are seen, from this one on
abbrev pub pages_from : ℕ → Bool → ℕ → List KeptPage
pages_from first fives count = map (λ at. own_page (wanted_at (place_of first fives at))) (range_with_len 0 count)

abbrev pub of_least : ℕ → Bool → ℕ → KeptPages
of_least first fives count = record { first = 8; count = 24; size = 32; pages = pages_from first fives count }

-- the pointers of three pages, where those of the victim have these names
abbrev pub three : ℕ → ℕ → List Pointer
three first second = record { name = first; stamp = 3 } ∷ record { name = second; stamp = 15 } ∷ record { name = 288; stamp = 33 } ∷ []

-- beside these pages the three pointers can be kept
pub record CanOpen (first : ℕ) (fives : Bool) (count one two : ℕ) : Type 0 where
  pub few : first + count ≤ 35
  pub can : CanRetain (of_least first fives count) (three one two)
