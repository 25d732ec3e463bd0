-- What is seen of a page-mapped device.
use Rattle.std.specs.Prelude.{ℕ, ◌+◌, ◌-◌, ◌*◌, true, List, [], count_by, sum, Option, Some, None, is_some, option_map}
use Rattle.std.specs.List.{range_with_len}
use Rattle.nl_field.specs.Medium.{first_physical}
use Rattle.nl_field.specs.Page.{Image, page_at}
use Rattle.nl_field.specs.declared.shape.Shape.{Shape}
use Rattle.nl_iface.specs.Names.{LivePage, Names}
use Rattle.nl_iface.specs.Space.{Space}
use Rattle.nl_iface.specs.Stored.{NamedPage, Stored}
use Rattle.nl_pagemap.specs.declared.pagemap.Pagemap.{Pagemap}
use Rattle.nl_pagemap_names.specs.Table.{Table, entry_at, live_at}
use Rattle.nl_pagemap_names.specs.Untried.{count_at, used_in}
use Rattle.nl_pagemap_names.specs.declared.entry.Entry.{Entry}
use Rattle.nl_pseg_pages.specs.Pages.{Shown, main_of, shown_by}
use Rattle.nl_vseg.specs.Places.{map_of}
use Rattle.nl_vseg.specs.Segment.{Segment}

-- The numbers of the volume, the virtual segment, the table of numbers; by block of the physical segment, how many of its pages were not
-- tried since it was erased last; how many pages can be written, and the blocks that they fill with that which is kept; how many numbers
-- are in use, the next stamp, and what the medium holds.
pub record Mapped : Type 0 where
  pub shape : Shape
  pub vseg : Segment
  pub table : Table
  pub untried : List ℕ
  pub room : ℕ
  pub free : ℕ
  pub count : ℕ
  pub next : ℕ
  pub image : Image

abbrev pub seen : {M : Type 0} → (M → Image) → Pagemap M → Mapped
seen contents d = record {
  shape = d.shape;
  vseg = d.vseg;
  table = d.table;
  untried = d.untried;
  room = d.room;
  free = d.free;
  count = d.count;
  next = d.next;
  image = contents d.media;
}

abbrev pub page_of : Entry → LivePage
page_of e = record { tag = e.tag; stamp = e.stamp }

-- the live page of a number
abbrev pub page_live : Table → ℕ → Option LivePage
page_live t n = option_map page_of (live_at t n)

-- what a page of the medium holds for an owner
abbrev pub named_on : Option Shown → Option NamedPage
named_on None = None
named_on (Some x) = Some (record { tag = x.0; stamp = x.1; bytes = x.2 })

abbrev pub named_by : Image → Option Entry → Option NamedPage
named_by image None = None
named_by image (Some e) = named_on (shown_by (page_at image e.page))

abbrev pub bytes_by : Image → Option Entry → List ℕ
bytes_by image None = []
bytes_by image (Some e) = main_of (page_at image e.page)

-- what the page holds that the number was last given
abbrev pub named_at : Mapped → ℕ → Option NamedPage
named_at s n = named_by s.image (entry_at s.table n)

abbrev pub bytes_at : Mapped → ℕ → List ℕ
bytes_at s n = bytes_by s.image (entry_at s.table n)

abbrev pub live_among : Shape → Table → ℕ
live_among shape t = count_by (λ n. is_some (page_live t n)) (range_with_len (first_physical shape) (shape.pblocks * shape.pages))

-- How many pages of a block of the physical segment were not tried, by its number on the medium. They are its last ones.
abbrev pub untried_of : Shape → List ℕ → ℕ → ℕ
untried_of shape untried block = count_at untried (block - shape.vblocks)

-- the first of them
abbrev pub next_page : Shape → List ℕ → ℕ → ℕ
next_page shape untried block = block * shape.pages + shape.pages - untried_of shape untried block

abbrev pub untried_in : Mapped → ℕ
untried_in s = sum s.untried

-- how many pages of a block are in use
abbrev pub in_use : Mapped → ℕ → ℕ
in_use s block = used_in s.shape.pages s.table block

-- the block whose numbers stay unused
abbrev pub last_block : Shape → ℕ
last_block shape = shape.blocks - 1

-- One block is kept, and that of the unused numbers is in hand. No page waits for its name, and none can be moved or gained.
abbrev pub space_of : Mapped → Space
space_of s = record {
  block = s.shape.pages;
  all = s.shape.pblocks * s.shape.pages;
  bad = 0;
  keep = 1;
  free = s.free;
  victim = 1;
  waiting = 0;
  pairs = 0;
  live = live_among s.shape s.table;
  left = 0;
  landing = 0;
  reach = s.shape.pages;
  dead = 0;
  room = s.room;
}

-- no name leads away, and no callback is posted
abbrev pub names_of : Mapped → Names
names_of s = record {
  live = λ n. page_live s.table n;
  pairs = [];
  pending = [];
  handled = λ n. None;
  posted = 0;
  space = space_of s;
}

-- what the tables lead to
abbrev pub stored_in : Mapped → Stored
stored_in s = record {
  virtual = λ v. map_of s.vseg.places s.image v;
  named = λ n. named_at s n;
  firm = true;
}
