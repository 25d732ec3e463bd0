-- Which pointers an opening can retain, as the list of a scan tells, and who holds the live pages then.
use Rattle.std.specs.Prelude.{◌≡◌, ◌≢◌, ℕ, ◌*◌, ◌≤◌, ◌==◌, true, List, [], All, IsSome, filter, length, map}
use Rattle.std.specs.List.{AllPairs, list_any}
use Rattle.nl_field.specs.ScanList.{is_lost_seen, owns_seen, physical_seen, physical_spare_seen}
use Rattle.nl_field.specs.SpareRecord.{stamp_of}
use Rattle.nl_field.specs.declared.pointer.Pointer.{Pointer}
use Rattle.nl_field.specs.declared.pointer.Tag.{Tag}
use Rattle.nl_field.specs.declared.seen.Seen.{Seen}
use Rattle.nl_field.specs.declared.shape.Shape.{Shape}
use Rattle.nl_iface.specs.Holders.{Holders}
use Rattle.nl_iface.specs.Names.{Has, LivePage}

-- the pointers of the running metadata hold all pages
abbrev pub only_running : List (Tag × Pointer) → Holders
only_running running = record { running = running; flight = []; freeing = [] }

-- each pointer has the tag that was found at its place with its stamp
abbrev pub AreTagged : (Pointer → ℕ) → List (ℕ × LivePage) → List (Tag × Pointer) → Type 0
AreTagged place found running =
    (h : Tag × Pointer) (page : LivePage) → Has running h → Has found (place h.1, page) → page.stamp ≡ h.1.stamp → page.tag ≡ h.0

-- The list of a scan tells a spare block for the stamps of the pointers and a page of each of them; no two share a stamp or a name; they
-- own their names, and few are lost.
pub record CanBeRetained (shape : Shape) (seen : List Seen) (pointers : List Pointer) : Type 0 where
  pub spare : IsSome (physical_spare_seen shape seen (map (λ p. p.stamp) pointers))
  pub found : All (λ p. list_any (λ s. stamp_of s.rec == p.stamp) (physical_seen shape seen) ≡ true) pointers
  pub differ : AllPairs (λ p q. p.stamp ≢ q.stamp) pointers
  pub names_differ : AllPairs (λ p q. p.name ≢ q.name) pointers
  pub own : All (λ p. owns_seen shape seen p ≡ true) pointers
  pub few_lost : length (filter (is_lost_seen shape seen) pointers) ≤ 3 * shape.pages
