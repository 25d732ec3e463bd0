-- How a page is written under a new number, and how a number is taken out of use.
use Rattle.std.specs.Prelude.{◌≡◌, ℕ, ◌+◌, ◌-◌, ◌/◌, ◌<◌, ◌≤◌, List, slice_set, None, Some}
use Rattle.nl_field.specs.Medium.{first_physical}
use Rattle.nl_field.specs.Page.{Image, page_at, written}
use Rattle.nl_field.specs.declared.pointer.Pointer.{Pointer}
use Rattle.nl_field.specs.declared.pointer.Tag.{Tag}
use Rattle.nl_pagemap.specs.Mapped.{Mapped, next_page, untried_of}
use Rattle.nl_pagemap_names.specs.Table.{given, live_at, released}
use Rattle.nl_pagemap_names.specs.declared.entry.Entry.{Entry}
use Rattle.nl_pseg_pages.specs.Pages.{page_with, shown_by}

-- The pointer has a number that is not in use, and the next stamp.
pub record IsNewPointer (s : Mapped) (at : Pointer) : Type 0 where
  pub from : first_physical s.shape ≤ at.name
  pub below : at.name < s.table.last
  pub unused : live_at s.table at.name ≡ None
  pub stamp : at.stamp ≡ s.next

-- A block of the physical segment of which a page was not tried.
pub record HasNext (s : Mapped) (block : ℕ) : Type 0 where
  pub from : s.shape.vblocks ≤ block
  pub below : block < s.shape.blocks
  pub some : 0 < untried_of s.shape s.untried block

-- the next page of the block
abbrev pub next_of : Mapped → ℕ → ℕ
next_of s block = next_page s.shape s.untried block

-- the next page of the block is spent
abbrev pub spent : ℕ → Image → Mapped → Mapped
spent block image s =
    record s {
      untried = slice_set s.untried (block - s.shape.vblocks) (untried_of s.shape s.untried block - 1);
      room = s.room - 1;
      free = 1 + (s.room - 1) / s.shape.pages;
      image = image;
    }

-- and the next stamp
abbrev pub spent_stamp : ℕ → Image → Mapped → Mapped
spent_stamp block image s = record (spent block image s) { next = s.next + 1 }

-- what a number is given that the next page of the block is written under
abbrev pub next_entry : ℕ → Tag → ℕ → Mapped → Entry
next_entry block tag stamp s = record { page = next_of s block; tag = tag; stamp = stamp }

-- the next page is spent with the next stamp, and its number is in use
abbrev pub placed : ℕ → ℕ → Tag → Image → Mapped → Mapped
placed block name tag image s =
    record (spent_stamp block image s) { table = given name (next_entry block tag s.next s) s.table; count = s.count + 1 }

-- the next page is spent, and it is the page of a number that is in use
abbrev pub copied : ℕ → ℕ → Entry → Image → Mapped → Mapped
copied block name e image s = record (spent block image s) { table = given name (next_entry block e.tag e.stamp s) s.table }

-- the number is not in use
abbrev pub dropped : ℕ → Mapped → Mapped
dropped name s = record s { table = released name s.table; count = s.count - 1 }

-- No page but the one that is programmed next has changed.
abbrev pub ChangesNext : Type 0 → ℕ → Mapped → Image → Type 0
ChangesNext tells block s image = tells → (p : ℕ) → (p ≡ next_of s block → ⊥) → page_at image p ≡ page_at s.image p

-- The page that is programmed next holds these bytes for this owner, under this stamp. No other page has changed.
pub record IsProgrammed (tells : Type 0) (block : ℕ) (tag : Tag) (stamp : ℕ) (main : List ℕ) (s : Mapped) (image : Image) : Type 0 where
  pub others : ChangesNext tells block s image
  pub holds : tells → page_at image (next_of s block) ≡ written (page_with main tag stamp 0)
  pub shows : shown_by (written (page_with main tag stamp 0)) ≡ Some (tag, stamp, main)
