-- The metadata pages in memory: those that run, as far as they are resident, and beside them those that a transaction has frozen.
use Rattle.std.specs.Prelude.{◌≡◌, ℕ, ◌≤◌, ◌==◌, nat_lt, Bool, true, not, ◌&&◌, ◌||◌, List, [], ◌∷◌, ◌++◌, length, map, filter, take, replicate, position, slice_get, slice_index_or, Option, None, option_and_then, unwrap_or, IsSome}
use Rattle.std.specs.List.{list_any, list_all}
use Rattle.nl_field.specs.Members.{Has}

-- the pages of a transaction: their addresses, which rise, and in the same order the main bytes that they had as they were frozen
pub record Frozen : Type 0 where
  pub addresses : List ℕ
  pub images : List (List ℕ)

-- The main bytes of the running page of each address, where it is resident; which of them changed since the last transaction began, in
-- rising order; the addresses that were touched last, the latest first; and the frozen pages.
pub record Pages : Type 0 where
  pub running : List (Option (List ℕ))
  pub dirty : List ℕ
  pub recent : List ℕ
  pub frozen : Frozen

-- the most pages besides address 0 that are dirty, and how many of the last touched ones stay resident
abbrev pub most : ℕ
most = 63

-- ---- what they have at an address

-- the running page, where it is resident
abbrev pub page_of : Pages → ℕ → Option (List ℕ)
page_of p v = slice_index_or p.running v None

abbrev pub is_dirty : Pages → ℕ → Bool
is_dirty p v = list_any (λ a. a == v) p.dirty

abbrev pub is_frozen : Pages → ℕ → Bool
is_frozen p v = list_any (λ a. a == v) p.frozen.addresses

-- the frozen page, where there is one
abbrev pub frozen_at : Pages → ℕ → Option (List ℕ)
frozen_at p v = option_and_then (slice_get p.frozen.images) (position (λ a. a == v) p.frozen.addresses)

-- the addresses of a list that are not 0
abbrev pub besides_0 : List ℕ → List ℕ
besides_0 addresses = filter (λ a. not (a == 0)) addresses

-- The page of the address may become dirty: it is that of address 0, or dirty already, or fewer than 63 besides address 0 are.
abbrev pub has_room : Pages → ℕ → Bool
has_room p v = v == 0 || is_dirty p v || nat_lt (length (besides_0 p.dirty)) most

-- ---- lists of addresses

unfoldable pub rises : List ℕ → Bool
rises [] = true
rises (a ∷ rest) = list_all (λ b. nat_lt a b) rest && rises rest

abbrev pub below : ℕ → List ℕ → List ℕ
below v addresses = filter (λ a. nat_lt a v) addresses

abbrev pub above : ℕ → List ℕ → List ℕ
above v addresses = filter (λ a. nat_lt v a) addresses

-- rising addresses with one more
unfoldable pub with_address : ℕ → List ℕ → List ℕ
with_address v addresses = below v addresses ++ v ∷ above v addresses

-- the first 63
unfoldable pub first_most : List ℕ → List ℕ
first_most addresses = take most addresses

-- the addresses that were touched last, once this one is touched
unfoldable pub touched : ℕ → List ℕ → List ℕ
touched v recent = first_most (v ∷ filter (λ a. not (a == v)) recent)

-- ---- pages

abbrev pub none_frozen : Frozen
none_frozen = record { addresses = []; images = [] }

-- frozen pages with one more behind the others
abbrev pub with_image : Frozen → ℕ → List ℕ → Frozen
with_image frozen v bytes = record { addresses = frozen.addresses ++ v ∷ []; images = frozen.images ++ bytes ∷ [] }

-- pages of so many addresses, none of which is resident
unfoldable pub no_pages : ℕ → Pages
no_pages count = record { running = replicate count None; dirty = []; recent = []; frozen = none_frozen }

-- the dirty pages, as a transaction has them
abbrev pub dirty_pages : Pages → Frozen
dirty_pages p = record { addresses = p.dirty; images = map (λ v. unwrap_or (page_of p v) []) p.dirty }

-- What holds at any time.
pub record IsPages (p : Pages) : Type 0 where
  pub dirty_rise : rises p.dirty ≡ true
  pub dirty_there : (v : ℕ) → Has p.dirty v → IsSome (page_of p v)
  pub few_dirty : length (besides_0 p.dirty) ≤ most
  pub frozen_rise : rises p.frozen.addresses ≡ true
  pub frozen_images : length p.frozen.images ≡ length p.frozen.addresses
  pub few_frozen : length p.frozen.addresses ≤ 64
