-- Lists of links, each from a key to the number of a callback, in rising order.
use Rattle.std.specs.Prelude.{◌≡◌, ℕ, ◌+◌, ◌*◌, ◌^◌, ◌<◌, List, length, slice_index_or}
use Rattle.nl_callbacks.specs.declared.links.Link.{Link}
use Rattle.nl_callbacks.specs.Lists.{Rises}

abbrev pub link : ℕ → ℕ → Link
link key number = record { key = key; number = number }

abbrev pub no_link : Link
no_link = link 0 0

abbrev pub link_at : List Link → ℕ → Link
link_at xs i = slice_index_or xs i no_link

-- the list has this link
abbrev pub HasLink : List Link → Link → Type 0
HasLink xs x = (i : ℕ) × (i < length xs) × (link_at xs i ≡ x)

-- the rank of a link: by its key, then by its number
abbrev pub rank : Link → ℕ
rank x = x.key * 2 ^ 64 + x.number

pub record AreRisingLinks (xs : List Link) : Type 0 where
  pub order : Rises rank no_link xs
  pub fits : (i : ℕ) → i < length xs → (link_at xs i).number < 2 ^ 64
