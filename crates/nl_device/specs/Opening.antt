-- What an opening takes from the readable pages that a scan saw.
use Rattle.std.specs.Prelude.{◌≡◌, ℕ, ◌*◌, ◌/◌, ◌<◌, ◌≤◌, ◌==◌, nat_lt, max, Bool, true, false, ◌&&◌, if◌then◌else◌, List, [], length, filter, filter_map, find, slice_index_or, Option, Some, None, option_map, replicate, IsTrue}
use Rattle.nl_field.specs.Medium.{first_physical}
use Rattle.nl_field.specs.Space.{is_outside}
use Rattle.nl_field.specs.Spelling.{is_stamp}
use Rattle.nl_field.specs.SpareRecord.{wear_of}
use Rattle.nl_field.specs.declared.shape.Shape.{Shape}
use Rattle.nl_field.specs.declared.spare.SpareRec.{SpareRec}
use Rattle.nl_field.specs.declared.spare.SpareRec.TheVariants.{Virtual, Physical}
use Rattle.nl_scan.specs.Tables.{FitsMedium, ScanTable}
use Rattle.nl_field.specs.declared.seen.Seen.{Seen}
use Rattle.nl_device.specs.Spread.{by_key, spare_of, spread_more}
use Rattle.nl_device.specs.declared.opening.own.Own.{Own}
use Rattle.nl_device.specs.declared.opening.spare.Spread.{Spread}
use Rattle.nl_device.specs.declared.opening.spare.Spread.TheVariants.{Nowhere}
use Rattle.nl_pseg.specs.Segment.{InSegment, IsClean, KeepsBlock, Physical as Segment, IsNextCopy, TakenAsErased, is_free}
use Rattle.nl_pseg.specs.Space.{IsWhole}
use Rattle.nl_vseg.specs.Places.{place_of}
use Rattle.nl_vseg.specs.Segment.{SameSize, Segment as Virtuals, is_taken_as_erased}
use Rattle.nl_vseg.specs.declared.place.Place.{Place}

-- so many values, each of them the one for its number
pub record Tabulates {Y : Type 0} (count : ℕ) (default : Y) (value : ℕ → Y) (ys : List Y) : Type 0 where
  pub count_is : length ys ≡ count
  pub each : (k : ℕ) → k < count → slice_index_or ys k default ≡ value k

-- what a readable page of the virtual segment is for
abbrev pub own_in : Shape → ℕ → SpareRec → Option Own
own_in shape page (Virtual vaddr stamp wear) =
    if nat_lt vaddr shape.vaddrs then Some (record { page = page; vaddr = vaddr; stamp = stamp }) else None
own_in shape page (Physical tag stamp wear) = None

abbrev pub own_of : Shape → Seen → Option Own
own_of shape s = if nat_lt s.page (first_physical shape) then own_in shape s.page s.rec else None

abbrev pub owns_of : Shape → List Seen → List Own
owns_of shape seen = filter_map (own_of shape) seen

-- the greatest stamp of an address, or 0
unfoldable pub greatest_of : List Own → ℕ → ℕ
greatest_of owns v = by_key (λ (o : Own). o.vaddr) (λ best o. max best o.stamp) 0 v owns

abbrev pub is_newest : List ℕ → Own → Bool
is_newest greatest o = o.stamp == slice_index_or greatest o.vaddr 0

-- the pages with the greatest stamp of their address
unfoldable pub newest_of : List Own → List Own
newest_of owns = filter (λ o. o.stamp == greatest_of owns o.vaddr) owns

abbrev pub needed_of : Shape → List Seen → List Own
needed_of shape seen = newest_of (owns_of shape seen)

-- in which blocks the pages of an address lie
unfoldable pub spread_in : ℕ → List Own → ℕ → Spread
spread_in size needed v = by_key (λ (o : Own). o.vaddr) (λ spread o. spread_more spread (o.page / size)) Nowhere v needed

-- the greatest wear on the readable pages of a block, or 0
unfoldable pub wear_in : ℕ → List Seen → ℕ → ℕ
wear_in size seen block = by_key (λ (s : Seen). s.page / size) (λ worst s. max worst (wear_of s.rec)) 0 block seen

abbrev pub with_pick : ℕ → Option ℕ → Option Own → Own → Option Own
with_pick size spare None o = if is_outside size spare o.page then Some o else None
with_pick size spare (Some old) o = Some old

-- what an address has once it was offered each of these pages
unfoldable pub with_offers : ℕ → Option ℕ → List Own → Option Own → ℕ → Option Own
with_offers size spare needed pick v = by_key (λ (o : Own). o.vaddr) (with_pick size spare) pick v needed

abbrev pub first_outside : ℕ → Option ℕ → List Own → ℕ → Option Own
first_outside size spare needed v = find (λ o. o.vaddr == v && is_outside size spare o.page) needed

abbrev pub or_else : {X : Type 0} → Option X → Option X → Option X
or_else None other = other
or_else (Some x) other = Some x

-- the first page of the address outside the spare block, else the first
unfoldable pub pick_of : ℕ → Option ℕ → List Own → ℕ → Option Own
pick_of size spare needed v = or_else (first_outside size spare needed v) (first_outside size None needed v)

abbrev pub place_on : Own → Place
place_on o = record { page = o.page; stamp = o.stamp }

-- the page can be that of the address
pub record CanLoadAddress (bound v : ℕ) (o : Own) : Type 0 where
  pub within : o.page < bound
  pub spelled : IsTrue (is_stamp o.stamp)

-- the address has the page, where there is one
pub record IsLoaded (v : ℕ) (pick : Option Own) (old new : Virtuals) : Type 0 where
  pub here : place_of new.places v ≡ option_map place_on pick
  pub others : (u : ℕ) → (u ≡ v → ⊥) → place_of new.places u ≡ place_of old.places u
  pub numbers : SameSize old new
  pub blank : (p : ℕ) → is_taken_as_erased new p ≡ true → is_taken_as_erased old p ≡ true

-- the scan says of the block that all its pages read as erased
abbrev pub SaysErased : ScanTable → ℕ → Type 0
SaysErased t block = slice_index_or t.erased block false ≡ true

-- blocks were told not to read as erased, and nothing else changed but wear
pub record IsSoiled (old new : Segment) : Type 0 where
  pub same_held : new.held ≡ old.held
  pub same_pairs : new.pairs ≡ old.pairs
  pub same_first : new.first ≡ old.first
  pub same_blocks : new.blocks ≡ old.blocks
  pub same_size : new.size ≡ old.size
  pub same_free : new.free ≡ old.free
  pub left : new.left ≤ old.left
  pub same_uses : (block : ℕ) → is_free new block ≡ is_free old block

-- The virtual segment after a scan: the spreads of the newest pages by address tell the spare block, and each address has the
-- first of its newest pages outside that, else the first. Only pages of blocks that read as erased are taken as erased.
pub record IsOpenedVirtual (shape : Shape) (t : ScanTable) (vseg : Virtuals) : Type 0 where
  pub same_pages : vseg.pages ≡ shape.pages
  pub same_bound : vseg.bound ≡ shape.vblocks * shape.pages
  pub addresses : length vseg.places ≡ shape.vaddrs
  pub spreads : List Spread
  pub are_spreads : Tabulates shape.vaddrs Nowhere (spread_in shape.pages (needed_of shape t.seen)) spreads
  pub places : (v : ℕ) → v < shape.vaddrs
      → place_of vseg.places v ≡ option_map place_on (pick_of shape.pages (spare_of 0 shape.vblocks spreads) (needed_of shape t.seen) v)
  pub blank : (p : ℕ) → is_taken_as_erased vseg p ≡ true → (p < vseg.bound) × SaysErased t (p / shape.pages)

-- The physical segment after a scan: no page is live, each block is Free, and only pages of blocks that read as erased are taken
-- as erased.
pub record IsOpenedPhysical (shape : Shape) (t : ScanTable) (pseg : Segment) : Type 0 where
  pub first_is : pseg.first ≡ shape.vblocks
  pub blocks_is : pseg.blocks ≡ shape.blocks
  pub size_is : pseg.size ≡ shape.pages
  pub none_held : pseg.held ≡ replicate (shape.blocks * shape.pages) None
  pub no_pairs : pseg.pairs ≡ []
  pub free_is : pseg.free ≡ shape.pblocks
  pub whole : IsWhole pseg
  pub none_in_hand : pseg.victim ≡ None
  pub kept_block : KeepsBlock pseg
  pub left_is : pseg.left ≡ 0
  pub within : (p : ℕ) → TakenAsErased pseg p → InSegment pseg p
  pub erased : (p : ℕ) → TakenAsErased pseg p → SaysErased t (p / shape.pages)
  pub none_copies : (p : ℕ) → IsNextCopy pseg p → ⊥
  pub clean : ((block : ℕ) → shape.vblocks ≤ block → block < shape.blocks → SaysErased t block) → IsClean pseg

-- the tables are of a medium with the numbers of the volume
abbrev pub FitsShape : Shape → ScanTable → Type 0
FitsShape shape t = FitsMedium (record { blocks = shape.blocks; pages = shape.pages }) t
