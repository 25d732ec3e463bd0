-- Which blocks can be erased: those each needed page of which has a copy in another block.
use Rattle.std.specs.Prelude.{◌≡◌, ℕ, ◌+◌, ◌<◌, ◌==◌, Bool, true, false, not, ◌&&◌, ◌||◌, if◌then◌else◌, List, fold, length, slice_index_or, Option, Some, None}
use Rattle.std.specs.List.{list_all, list_any, range_with_len}
use Rattle.std.specs.BTreeMap.{BTreeMap, get}
use Rattle.nl_recover_pointers.specs.Places.{PlaceKey, pair_cmp, place_key}
use Rattle.nl_recover_pointers.specs.declared.spare.PageCopy.{PageCopy}
use Rattle.nl_recover_pointers.specs.declared.spare.Spread.{Spread}
use Rattle.nl_recover_pointers.specs.declared.spare.Spread.TheVariants.{Nowhere, In, Several}

abbrev pub is_copy : PageCopy → PageCopy → Bool
is_copy q r = q.address == r.address && q.stamp == r.stamp

-- each needed page of the block has a copy in another block
abbrev pub is_spare_among : List PageCopy → ℕ → Bool
is_spare_among pages block =
    list_all (λ r. not (r.block == block && r.is_needed) || list_any (λ q. not (q.block == block) && is_copy q r) pages) pages

-- one of the blocks from the first on, so many of them, can be erased
unfoldable pub has_spare : ℕ → ℕ → List PageCopy → Bool
has_spare first count pages = list_any (is_spare_among pages) (range_with_len first count)

-- ---- in which blocks the copies of a page lie

-- where the copies of a page lie, with one copy more in this block
abbrev pub spread_more : Spread → ℕ → Spread
spread_more Nowhere block = In block
spread_more (In other) block = if other == block then In other else Several
spread_more Several block = Several

-- a copy lies in another block than this one
abbrev pub has_other : ℕ → Spread → Bool
has_other block Nowhere = false
has_other block (In other) = not (other == block)
has_other block Several = true

abbrev pub spread_at : Option Spread → Spread
spread_at None = Nowhere
spread_at (Some spread) = spread

abbrev pub with_copy : ℕ → ℕ → Spread → PageCopy → Spread
with_copy address stamp spread q = if q.address == address && q.stamp == stamp then spread_more spread q.block else spread

-- in which blocks the pages of an address and write sequence number lie
unfoldable pub spread_among : List PageCopy → ℕ → ℕ → Spread
spread_among pages address stamp = fold (with_copy address stamp) Nowhere pages

abbrev pub AreSpreads : List PageCopy → BTreeMap PlaceKey Spread → Type 0
AreSpreads pages spreads =
    (address stamp : ℕ) → spread_at (get pair_cmp spreads (place_key address stamp)) ≡ spread_among pages address stamp

-- the page lies in this block, is needed, and by the spread of its copies has none in another block
abbrev pub is_alone_in : ℕ → Spread → PageCopy → Bool
is_alone_in block spread r = r.block == block && (r.is_needed && not (has_other r.block spread))

-- those of the blocks from the first on, so many of them, are marked in which a page stands alone by these spreads
pub record AreMarks (pages : List PageCopy) (spreads : BTreeMap PlaceKey Spread) (first count : ℕ) (marks : List Bool) : Type 0 where
  pub count_is : length marks ≡ count
  pub each : (i : ℕ) → i < count
      → slice_index_or marks i false
      ≡ list_any (λ r. is_alone_in (first + i) (spread_at (get pair_cmp spreads (place_key r.address r.stamp))) r) pages
