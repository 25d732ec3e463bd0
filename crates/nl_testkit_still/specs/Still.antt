-- What is seen of a memory whose pages are written once.
use Rattle.std.specs.Prelude.{◌≡◌, ℕ, ◌+◌, ◌-◌, ◌*◌, ◌/◌, ◌≤◌, true, List, [], count_by, Option, Some, None, is_some, option_map, set, slice_index_or}
use Rattle.std.specs.List.{range_with_len}
use Rattle.nl_field.specs.CrashStates.{Earlier, saturated}
use Rattle.nl_field.specs.Medium.{first_physical}
use Rattle.nl_field.specs.Page.{PageBytes}
use Rattle.nl_field.specs.declared.pointer.Tag.{Tag}
use Rattle.nl_field.specs.declared.shape.Shape.{Shape}
use Rattle.nl_iface.specs.Names.{LivePage, Names}
use Rattle.nl_iface.specs.Space.{Space}
use Rattle.nl_iface.specs.Stored.{NamedPage, Stored, Value}
use Rattle.nl_testkit_still.specs.declared.still.Label.{Label}
use Rattle.nl_testkit_still.specs.declared.still.Still.{Still}

abbrev pub no_page : PageBytes
no_page = record { main = []; spare = [] }

-- the main bytes of a page
abbrev pub bytes_at : List PageBytes → ℕ → List ℕ
bytes_at pages p = (slice_index_or pages p no_page).main

abbrev pub label_at : List (Option Label) → ℕ → Option Label
label_at labels p = slice_index_or labels p None

abbrev pub page_of : Label → LivePage
page_of l = record { tag = l.tag; stamp = l.stamp }

-- the live page of that number
abbrev pub live_at : List (Option Label) → ℕ → Option LivePage
live_at live p = option_map page_of (label_at live p)

abbrev pub holding : List ℕ → Label → NamedPage
holding main l = record { tag = l.tag; stamp = l.stamp; bytes = main }

-- what the page of that number holds
abbrev pub named_at : List (Option Label) → List PageBytes → ℕ → Option NamedPage
named_at labels pages p = option_map (holding (bytes_at pages p)) (label_at labels p)

-- the stamp of an address, and its value
abbrev pub stamp_at : List (Option ℕ) → ℕ → Option ℕ
stamp_at stamps v = slice_index_or stamps v None

abbrev pub value_with : List ℕ → ℕ → Value
value_with main stamp = (stamp, main)

abbrev pub map_at : List (Option ℕ) → List PageBytes → ℕ → Option Value
map_at stamps values v = option_map (value_with (bytes_at values v)) (stamp_at stamps v)

abbrev pub live_in : Shape → List (Option Label) → ℕ
live_in shape live = count_by (λ p. is_some (live_at live p)) (range_with_len (first_physical shape) (shape.pblocks * shape.pages))

abbrev pub last_block : Shape → ℕ
last_block shape = shape.blocks - 1

-- One block is kept, and the last one is in hand. No page waits for its name, and none can be moved or gained.
abbrev pub space_of : Still → Space
space_of s = record {
  block = s.shape.pages;
  all = s.shape.pblocks * s.shape.pages;
  bad = 0;
  keep = 1;
  free = s.free;
  victim = 1;
  waiting = 0;
  pairs = 0;
  live = live_in s.shape s.live.items;
  left = 0;
  landing = 0;
  reach = s.shape.pages;
  dead = 0;
  room = s.room;
}

-- no name leads away, and no callback is posted
abbrev pub names_of : Still → Names
names_of s = record {
  live = λ p. live_at s.live.items p;
  pairs = [];
  pending = [];
  handled = λ n. None;
  posted = 0;
  space = space_of s;
}

abbrev pub stored_in : Still → Stored
stored_in s = record {
  virtual = λ v. map_at s.stamps.items s.values.items v;
  named = λ p. named_at s.labels.items s.pages.items p;
  firm = true;
}

abbrev pub label : Tag → ℕ → Label
label tag stamp = record { tag = tag; stamp = stamp }

-- The next page is written, and live.
pub record PutsStill (tag : Tag) (from : PageBytes) (old new : Still) : Type 0 where
  pub shape : new.shape ≡ old.shape
  pub labels : new.labels.items ≡ set old.labels.items old.given (Some (label tag old.next))
  pub live : new.live.items ≡ set old.live.items old.given (Some (label tag old.next))
  pub pages : new.pages.items ≡ set old.pages.items old.given from
  pub given : new.given ≡ old.given + 1
  pub room : new.room + 1 ≡ old.room
  pub free : new.free ≡ 1 + new.room / old.shape.pages
  pub stamps : new.stamps.items ≡ old.stamps.items
  pub values : new.values.items ≡ old.values.items
  pub next : new.next ≡ old.next + 1
  pub clock : new.clock ≡ saturated (old.clock + 1)
  pub later : old.clock ≤ new.clock
  pub earlier : Earlier old.clock new.clock
  pub failed : new.failed ≡ old.failed
