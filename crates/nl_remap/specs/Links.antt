-- Lists of links, each from one number to another, in rising order.
use Rattle.std.specs.Prelude.{◌≡◌, ℕ, ◌+◌, ◌*◌, ◌^◌, ◌<◌, ◌≤◌, List, length, slice_index_or}
use Rattle.nl_remap.specs.declared.links.Link.{Link}

abbrev pub no_link : Link
no_link = record { from = 0; to = 0 }

abbrev pub link_at : List Link → ℕ → Link
link_at xs i = slice_index_or xs i no_link

-- the list has this link
abbrev pub HasLink : List Link → Link → Type 0
HasLink xs x = (i : ℕ) × (i < length xs) × (link_at xs i ≡ x)

-- the rank of a link: by its first number, then by its second
abbrev pub rank : Link → ℕ
rank x = x.from * 2 ^ 32 + x.to

-- each link ranks above the one before it
pub record IsRising (xs : List Link) : Type 0 where
  pub order : (i j : ℕ) → i < j → j < length xs → rank (link_at xs i) < rank (link_at xs j)
  pub fits : (i : ℕ) → i < length xs → (link_at xs i).to < 2 ^ 32

-- the place of a rank: what is before it ranks below it, and nothing from there on does
pub record IsLinkInsertionPoint (xs : List Link) (n at : ℕ) : Type 0 where
  pub bound : at ≤ length xs
  pub below : (i : ℕ) → i < at → rank (link_at xs i) < n
  pub above : (i : ℕ) → at ≤ i → i < length xs → n ≤ rank (link_at xs i)
