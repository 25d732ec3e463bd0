-- What a device shows: its names, the bytes of its pages, and what it found at its start.
use Rattle.std.specs.Prelude.{ℕ, nat_lt, ◌==◌, cond, find, map, option_map, List, [], Option, Some, None}
use Rattle.nl_field.specs.Page.{Image, page_at}
use Rattle.nl_iface.specs.Names.{LivePage, Names}
use Rattle.nl_iface.specs.Stored.{Value}
use Rattle.nl_device.specs.Kept.{KeptPages}
use Rattle.nl_device.specs.Space.{space_of}
use Rattle.nl_device.specs.declared.kept.page.KeptPage.{KeptPage}
use Rattle.nl_pseg.specs.Pages.{main_of}
use Rattle.nl_pseg.specs.Segment.{Physical, held_at}
use Rattle.nl_pseg.specs.declared.held.Held.{Held}
use Rattle.nl_vseg.specs.Maps.{Dominated}
use Rattle.nl_vseg.specs.Pages.{PageShows}

abbrev pub live_page : Option Held → Option LivePage
live_page None = None
live_page (Some h) = Some (record { tag = h.tag; stamp = h.stamp })

-- the live pages and what leads to them, where no callback is pending
abbrev pub names_of : Physical → Names
names_of pseg =
    record {
      live = λ p. live_page (held_at pseg p);
      pairs = pseg.pairs;
      pending = [];
      handled = λ n. None;
      posted = 0;
      space = space_of pseg;
    }

-- The image shows a value of the address that is neither the map's nor older.
pub record IsStray (bound : ℕ) (image : Image) (map : ℕ → Option Value) (v : ℕ) (x : Value) : Type 0 where
  pub shown : PageShows bound image v x.0 x.1
  pub newer : Dominated (map v) x.0 x.1 → ⊥

-- the main bytes of a page of the physical segment
abbrev pub bytes_at : ℕ → Image → ℕ → List ℕ
bytes_at first image p = cond (nat_lt p first) [] (main_of (page_at image p))

-- what was found on a page of the physical segment
abbrev pub found_on : KeptPage → LivePage
found_on k = record { tag = k.tag; stamp = k.stamp }

unfoldable pub found_in : KeptPages → ℕ → Option LivePage
found_in kept p = option_map found_on (find (λ k. k.page == p) kept.pages)

-- the pages that were found, by number
abbrev pub found_by_number : KeptPages → List (ℕ × LivePage)
found_by_number kept = map (λ k. (k.page, found_on k)) kept.pages
