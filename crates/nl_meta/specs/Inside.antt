-- How the pages of `Meta` are kept in memory: lists of pages and marks, and what holds of them.
use Rattle.std.specs.Prelude.{◌≡◌, ℕ, ◌≤◌, ◌<◌, ◌^◌, Bool, true, false, if◌then◌else◌, List, [], ◌∷◌, length, filter, slice_index_or, Option, Some, None}
use Rattle.nl_field.specs.Members.{Has}
use Rattle.nl_field.specs.Page.{PageBytes}
use Rattle.nl_meta.specs.Pages.{besides_0, most, rises}

-- the main bytes of the pages that are resident
unfoldable pub slots : List Bool → List PageBytes → List (Option (List ℕ))
slots [] pages = []
slots (b ∷ bs) [] = []
slots (b ∷ bs) (page ∷ pages) = (if b then Some page.main else None) ∷ slots bs pages

pub record IsMetaState (pages : List PageBytes) (resident : List Bool) (count : ℕ) (dirty recent frozen : List ℕ)
    (images : List PageBytes) : Type 0 where
  pub each : length resident ≡ length pages
  pub room : length pages < 2 ^ 32
  pub counted : count ≡ length (filter (λ b. b) resident)
  pub dirty_rise : rises dirty ≡ true
  pub dirty_there : (v : ℕ) → Has dirty v → slice_index_or resident v false ≡ true
  pub few_dirty : length (besides_0 dirty) ≤ most
  pub most_dirty : length dirty ≤ 64
  pub frozen_rise : rises frozen ≡ true
  pub most_frozen : length frozen ≤ 64
  pub images_room : length images ≡ 64

abbrev pub no_page : PageBytes
no_page = record { main = []; spare = [] }
