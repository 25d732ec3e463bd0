-- Pages in a row that are found alike.
use Rattle.std.specs.Prelude.{◌≡◌, ⊤, ℕ, ◌+◌, if◌then◌else◌, List, [], ◌∷◌, flat_map, map, replicate}
use Rattle.nl_map_pages.specs.declared.look.Look.{Look}
use Rattle.nl_map_pages.specs.declared.look.Mark.{Mark}
use Rattle.nl_map.specs.Text.{is_alike}

-- so many pages in a row, by the number of the first
pub record Run : Type 0 where
  pub mark : Mark
  pub from : ℕ
  pub count : ℕ

-- the runs of the pages that come behind so many of one run
abbrev pub runs_after : Mark → ℕ → ℕ → List Look → List Run
runs_after mark from count [] = record { mark = mark; from = from; count = count } ∷ []
runs_after mark from count (l ∷ looks) =
    if is_alike mark l.mark then runs_after mark from (count + 1) looks
    else record { mark = mark; from = from; count = count } ∷ runs_after l.mark (from + count) 1 looks

-- the runs of pages, each as long as can be
abbrev pub runs : List Look → List Run
runs [] = []
runs (l ∷ looks) = runs_after l.mark 0 1 looks

-- ---- what they are to be

-- each begins where the one before it ends, the first at this number
abbrev pub AreInARow : ℕ → List Run → Type 0
AreInARow from [] = ⊤
AreInARow from (r ∷ rest) = (r.from ≡ from) × AreInARow (from + r.count) rest

-- The runs are in a row, and have each page once, as it is found.
pub record RunsCover (looks : List Look) : Type 0 where
  pub in_a_row : AreInARow 0 (runs looks)
  pub marks : flat_map (λ r. replicate r.count r.mark) (runs looks) ≡ map (λ l. l.mark) looks
