-- Which pointers are live after an opening, and where.
use Rattle.std.specs.Prelude.{◌≡◌, ◌≢◌, ◌⊎◌, ℕ, ◌+◌, ◌-◌, ◌*◌, ◌/◌, ◌^◌, ◌<◌, ◌≤◌, ◌==◌, not, Bool, true, false, List, [], ◌∷◌, if◌then◌else◌, find, length, map, min, take, filter, slice_get, slice_set, All, Option, Some, None, IsSome, option_map, unwrap_or, ◌||◌}
use Rattle.std.specs.List.{AllPairs, count_by, list_any, range_with_len}
use Rattle.nl_field.specs.Live.{resolve}
use Rattle.nl_field.specs.declared.pointer.Pointer.{Pointer}
use Rattle.nl_field.specs.declared.pointer.Tag.{Tag}
use Rattle.nl_field.specs.declared.shape.Shape.{Shape}
use Rattle.nl_callbacks.specs.Pending.{ArePendingEntries, PendingTable, new_entry}
use Rattle.nl_pseg.specs.Segment.{CanLead, IsNewStamp, IsOldName, KeepsBlock, KeptAreDead, IsNextCopy, Physical, TakenAsErased, held_at, soiled, is_kept}
use Rattle.nl_pseg.specs.Space.{IsWhole, waiting}
use Rattle.nl_pseg.specs.declared.held.Held.{Held}
use Rattle.nl_iface.specs.declared.Callback.{Callback}
use Rattle.nl_iface.specs.declared.counts.Counts.{Ghosts}
use Rattle.nl_iface.specs.Calls.{KeepsVirtual}
use Rattle.nl_iface.specs.Names.{Has, Names}
use Rattle.nl_iface.specs.Space.{CanLand, Space}
use Rattle.nl_device.specs.Callbacks.{CallbackNamesDiffer, callbacks_of, handled_in, held_of_callback}
use Rattle.nl_device.specs.Posting.{Posts}
use Rattle.nl_device.specs.declared.device.Device.{Device}
use Rattle.nl_device.specs.Kept.{KeptPages, has_stamp, place_among, spare_among}
use Rattle.nl_device.specs.Space.{live_in}

-- the spare block of the segment for the stamps of these pointers
abbrev pub spare_for : KeptPages → List Pointer → Option ℕ
spare_for kept pointers = spare_among kept (map (λ p. p.stamp) pointers)

-- the place of a pointer beside the spare block for the stamps of all of them
abbrev pub place_for : KeptPages → List Pointer → Pointer → Option ℕ
place_for kept pointers p = place_among kept (spare_for kept pointers) p

-- the place of a pointer that has one beside this spare block
unfoldable pub placed_at : KeptPages → Option ℕ → Pointer → ℕ
placed_at kept spare p = unwrap_or (place_among kept spare p) p.name

abbrev pub retained_at : KeptPages → List Pointer → Pointer → ℕ
retained_at kept pointers p = placed_at kept (spare_for kept pointers) p

-- the page is one of the block
abbrev pub lies_in : ℕ → ℕ → Option ℕ → Bool
lies_in size block None = false
lies_in size block (Some page) = page / size == block

-- one of these pointers has its place in the block
abbrev pub is_taken : KeptPages → Option ℕ → List Pointer → ℕ → Bool
is_taken kept spare pointers block = list_any (λ p. lies_in kept.size block (place_among kept spare p)) pointers

-- in how many blocks of the segment pointers have their places
unfoldable pub needed_blocks : KeptPages → List Pointer → ℕ
needed_blocks kept pointers = count_by (is_taken kept (spare_for kept pointers) pointers) (range_with_len kept.first kept.count)

-- what is live for a pointer on a page: the owner that the page has, and the pointer's stamp
abbrev pub held_for : KeptPages → ℕ → Pointer → Option Held
held_for kept page p = option_map (λ k. record { tag = k.tag; stamp = p.stamp }) (find (λ k. k.page == page) kept.pages)

-- the place of a pointer is not its name
abbrev pub is_moved : KeptPages → Option ℕ → Pointer → Bool
is_moved kept spare p = not (placed_at kept spare p == p.name)

-- the pointers whose places are not their names
abbrev pub moved_among : KeptPages → List Pointer → List Pointer
moved_among kept pointers = filter (is_moved kept (spare_for kept pointers)) pointers

abbrev pub no_tag : Tag
no_tag = record { ino = 0; generation = 0; index = 0 }

-- the owner that the page has
abbrev pub tag_on : KeptPages → ℕ → Tag
tag_on kept page = unwrap_or (option_map (λ k. k.tag) (find (λ k. k.page == page) kept.pages)) no_tag

-- the callback of this number: the page of the pointer's name is now at its place
abbrev pub call_for : KeptPages → Option ℕ → ℕ → Pointer → Callback
call_for kept spare number p =
    record { number = number; before = p.name; after = placed_at kept spare p; tag = tag_on kept (placed_at kept spare p); stamp = p.stamp }

-- the callbacks of those of the pointers whose places are not their names, in their order, with the numbers from the one after `posted` on
unfoldable pub calls_beside : KeptPages → Option ℕ → ℕ → List Pointer → List Callback
calls_beside kept spare posted [] = []
calls_beside kept spare posted (p ∷ ps) =
    if is_moved kept spare p then call_for kept spare (posted + 1) p ∷ calls_beside kept spare (posted + 1) ps
    else calls_beside kept spare posted ps

abbrev pub calls_for : KeptPages → List Pointer → ℕ → List Callback
calls_for kept pointers posted = calls_beside kept (spare_for kept pointers) posted pointers

-- the blocks and pages that were seen are those of the segment
pub record IsSegmentFor (kept : KeptPages) (seg : Physical) : Type 0 where
  pub first : seg.first ≡ kept.first
  pub blocks : seg.blocks ≡ kept.first + kept.count
  pub size : seg.size ≡ kept.size

-- Each block is kept, and none is written to. No page is live, and there is no pair.
pub record IsFreshSegment (seg : Physical) : Type 0 where
  pub each : (block : ℕ) → seg.first ≤ block → block < seg.blocks → is_kept seg block ≡ true
  pub no_live : (page : ℕ) → held_at seg page ≡ None
  pub pages : length seg.held ≡ seg.blocks * seg.size
  pub no_pairs : seg.pairs ≡ []
  pub whole : IsWhole seg
  pub none_in_hand : seg.victim ≡ None

-- no callback is pending, and there is room for four for each page of a block
pub record IsEmptyPending (kept : KeptPages) (t : PendingTable) : Type 0 where
  pub empty : t.callbacks ≡ []
  pub room : t.room ≡ 4 * kept.size

-- the named page does not have the stamp
abbrev pub is_stale : KeptPages → Pointer → Bool
is_stale kept p = not (has_stamp kept.pages p.name p.stamp)

-- the named page has the stamp, or was not found
abbrev pub owns_name : KeptPages → Pointer → Bool
owns_name kept p = has_stamp kept.pages p.name p.stamp || not (list_any (λ k. k.page == p.name) kept.pages)

-- The pointers have a spare block, each has a place, and no two share a stamp or a name. They own their names, and few are lost.
pub record CanRetain (kept : KeptPages) (pointers : List Pointer) : Type 0 where
  pub spare : IsSome (spare_for kept pointers)
  pub placed : All (λ p. IsSome (place_for kept pointers p)) pointers
  pub differ : AllPairs (λ p q. p.stamp ≢ q.stamp) pointers
  pub names_differ : AllPairs (λ p q. p.name ≢ q.name) pointers
  pub own : All (λ p. owns_name kept p ≡ true) pointers
  pub few_lost : length (filter (is_stale kept) pointers) ≤ 3 * kept.size

-- One pointer can be loaded: it has a place, which is neither live nor an old name, and its stamp is not live. Where its place is not
-- its name, there is room for a pair and a callback, and the name is neither live nor an old name.
pub record CanLoadPointer (kept : KeptPages) (spare : Option ℕ) (p : Pointer) (seg : Physical) (t : PendingTable) : Type 0 where
  pub page : ℕ
  pub place : place_among kept spare p ≡ Some page
  pub dead : held_at seg page ≡ None
  pub own : IsOldName seg page → ⊥
  pub new_stamp : IsNewStamp seg p.stamp
  pub lead : p.name ≢ page → CanLead seg p.name
  pub room : p.name ≢ page → 0 < t.room
  pub none_in_hand : seg.victim ≡ None

-- what a pointer leaves that is loaded at a page
pub record LoadsPointer (kept : KeptPages) (page : ℕ) (p : Pointer) (old new : Physical) : Type 0 where
  pub live : new.held ≡ slice_set old.held page (held_for kept page p)
  pub leads : resolve new.pairs p.name ≡ page
  pub names : (name : ℕ) → name ≢ p.name → resolve new.pairs name ≡ resolve old.pairs name
  pub olds : (name : ℕ) → IsOldName new name → ((name ≡ p.name) × (p.name ≢ page)) ⊎ IsOldName old name
  pub own : p.name ≡ page → new.pairs ≡ old.pairs
  pub more : p.name ≢ page → length new.pairs ≡ length old.pairs + 1
  pub same_first : new.first ≡ old.first
  pub same_blocks : new.blocks ≡ old.blocks
  pub same_size : new.size ≡ old.size
  pub others_kept : (block : ℕ) → block ≢ page / old.size → is_kept new block ≡ is_kept old block
  pub same_soiled : (block : ℕ) → soiled new block ≡ soiled old block
  pub left : new.left ≤ old.left
  pub erased : (q : ℕ) → TakenAsErased new q → TakenAsErased old q
  pub copies : (q : ℕ) → IsNextCopy new q → IsNextCopy old q
  pub whole : IsWhole new
  pub none_in_hand : new.victim ≡ None
  pub kept_block : 1 ≤ new.free + waiting new → KeepsBlock new
  pub kept_dead : KeptAreDead new

-- and what it leaves of the callbacks: one more, where the page is not the one of its name
pub record IsCalled (kept : KeptPages) (spare : Option ℕ) (p : Pointer) (old new : PendingTable) : Type 0 where
  pub here : placed_at kept spare p ≡ p.name → new ≡ old
  pub away : placed_at kept spare p ≢ p.name → (number : ℕ) × Posts (call_for kept spare number p) old new

-- The first pointers are loaded, so many of them: exactly these are live, each at its place, to which its name leads.
pub record HasLoaded (kept : KeptPages) (pointers : List Pointer) (at : ℕ) (old seg : Physical) : Type 0 where
  pub segment : IsSegmentFor kept seg
  pub listed : (i : ℕ) (p : Pointer) → i < at → slice_get pointers i ≡ Some p
      → held_at seg (retained_at kept pointers p) ≡ held_for kept (retained_at kept pointers p) p
  pub only : (page : ℕ) (h : Held) → held_at seg page ≡ Some h
      → (i : ℕ) × (p : Pointer) × (i < at) × (slice_get pointers i ≡ Some p) × (retained_at kept pointers p ≡ page) × (h.stamp ≡ p.stamp)
  pub ways : (i : ℕ) (p : Pointer) → i < at → slice_get pointers i ≡ Some p → resolve seg.pairs p.name ≡ retained_at kept pointers p
  pub olds : (name : ℕ) → IsOldName seg name
      → (i : ℕ) × (p : Pointer) × (i < at) × (slice_get pointers i ≡ Some p) × (p.name ≡ name) × (retained_at kept pointers p ≢ name)
  pub live : live_in seg.held ≡ at
  pub pages : length seg.held ≡ length old.held
  pub pairs : length seg.pairs ≡ length (filter (is_moved kept (spare_for kept pointers)) (take at pointers))
  pub blocks : (block : ℕ) → kept.first ≤ block → block < kept.first + kept.count
      → is_kept seg block ≡ not (is_taken kept (spare_for kept pointers) (take at pointers) block)
  pub kept_before : (block : ℕ) → is_kept seg block ≡ true → is_kept old block ≡ true
  pub same_soiled : (block : ℕ) → soiled seg block ≡ soiled old block
  pub left : seg.left ≤ old.left
  pub erased : (q : ℕ) → TakenAsErased seg q → TakenAsErased old q
  pub copies : (q : ℕ) → IsNextCopy seg q → IsNextCopy old q
  pub whole : IsWhole seg
  pub none_in_hand : seg.victim ≡ None
  pub unchanged : at ≡ 0 → seg ≡ old
  pub kept_block : KeepsBlock old → 1 ≤ seg.free + waiting seg → KeepsBlock seg
  pub kept_dead : KeptAreDead old → KeptAreDead seg

-- Each of the first pointers whose place is not its name has a callback. These were posted in the order of the pointers.
pub record HasCalled (kept : KeptPages) (pointers : List Pointer) (at : ℕ) (seg : Physical) (old t : PendingTable) : Type 0 where
  pub numbers : ArePendingEntries t.callbacks t.posted
  pub only : (c : Callback) → Has (callbacks_of t.callbacks) c
      → (i : ℕ) × (p : Pointer) × (i < at) × (slice_get pointers i ≡ Some p) × (p.name ≡ c.before)
      × (retained_at kept pointers p ≢ p.name) × (held_at seg (retained_at kept pointers p) ≡ held_of_callback c)
  pub each : (i : ℕ) (p : Pointer) → i < at → slice_get pointers i ≡ Some p → retained_at kept pointers p ≢ p.name
      → (c : Callback) × Has (callbacks_of t.callbacks) c × (c.before ≡ p.name)
  pub once : CallbackNamesDiffer t.callbacks
  pub unhandled : (n : ℕ) → handled_in t.callbacks n ≡ None
  pub count : length t.callbacks ≡ length (filter (is_moved kept (spare_for kept pointers)) (take at pointers))
  pub room : length t.callbacks + t.room ≡ 4 * kept.size
  pub posted : t.posted ≡ min (old.posted + length t.callbacks) (2 ^ 64 - 1)
  pub unchanged : at ≡ 0 → t ≡ old
  pub in_order : old.posted + length t.callbacks < 2 ^ 64
      → t.callbacks ≡ map new_entry (calls_beside kept (spare_for kept pointers) old.posted (take at pointers))

-- every block of the segment is Free
abbrev pub HasAllFree : Shape → Names → Type 0
HasAllFree shape names = names.space.free ≡ shape.pblocks

-- what a device keeps of the scan of its start
abbrev pub kept_of : {M : Type 0} → Device M → KeptPages
kept_of d = d.kept

-- The callbacks after an opening: exactly these, in their order, none of them handled. So many numbers were given, from the one after
-- `posted` on.
pub record HasPosted (calls : List Callback) (posted : ℕ) (names : Names) : Type 0 where
  pub pending : names.pending ≡ calls
  pub posted_now : names.posted ≡ posted + length calls

-- The numbers of the space after an opening. No block is in hand, so that there is room for it; each block in which no pointer has its
-- place is Free, or waits for old names; there is room in the Free ones but those that are kept for the cleaner; and so many names have
-- a pair.
pub record IsReopened (blocks needed moved : ℕ) (s : Space) : Type 0 where
  pub idle : s.victim ≡ 0
  pub lands : CanLand s
  pub counted : s.free + s.waiting + needed ≡ blocks
  pub room : s.room ≡ (s.free - s.keep) * s.block
  pub pairs : s.pairs ≡ moved

-- The medium, and what is known of it, is as it was.
pub record SameMedium {D : Type 0} (g : Ghosts D) (old new : D) : Type 0 where
  pub virtual : KeepsVirtual g old new
  pub contents : g.tells → g.contents new ≡ g.contents old
  pub left : g.tells → (m : ℕ) (c : g.Crash) → g.left new m c → g.left old m c
  pub bytes : g.tells → (p : ℕ) → g.bytes new p ≡ g.bytes old p
  pub found : g.found new ≡ g.found old
  pub next_stamp : g.next_stamp new ≡ g.next_stamp old
  pub clock : g.clock new ≡ g.clock old
  pub read_faults : g.read_faults new ≡ g.read_faults old
  pub write_faults : g.write_faults new ≡ g.write_faults old
