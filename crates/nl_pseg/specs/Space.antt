-- The numbers of a segment's space, and how they go on.
use Rattle.std.specs.Prelude.{◌≡◌, ◌⊎◌, ℕ, ◌+◌, ◌-◌, ◌*◌, ◌/◌, ◌≤◌, ◌&&◌, not, true, false, cond, List, length, sum_by, count_by, Contains, AllPairs, Option, Some, is_some, option_map, unwrap_or}
use Rattle.std.specs.List.{range_with_len}
use Rattle.nl_blocks.specs.Table.{is_sealed_state}
use Rattle.nl_pseg.specs.Segment.{InSegment, InVictim, IsOldName, IsUnspent, KeepsBlock, Physical, IsNextToProgram, IsNextCopy, TakenAsErased, held_at, is_free, is_kept, is_waiting, room, row_at, soiled, SameErasures}
use Rattle.nl_pseg.specs.declared.held.Held.{Held}

-- how many pages are live
abbrev pub live_in : List (Option Held) → ℕ
live_in held = sum_by (λ h. cond (is_some h) 1 0) held

-- how many pages of a block are not live
abbrev pub dead_in : Physical → ℕ → ℕ
dead_in seg block = (row_at seg block).dead

-- blocks in hand to be cleaned: one or none
abbrev pub victims : Physical → ℕ
victims seg = cond (is_some seg.victim) 1 0

-- blocks that wait for their names
abbrev pub waiting : Physical → ℕ
waiting seg = count_by (λ u. u.is_kept && not u.is_free) seg.uses

-- live pages of the victim
abbrev pub left_in_victim : Physical → ℕ
left_in_victim seg = unwrap_or (option_map (λ block. seg.size - dead_in seg block) seg.victim) 0

-- pages of the victim that are not live
abbrev pub gain_of : Physical → ℕ
gain_of seg = unwrap_or (option_map (dead_in seg) seg.victim) 0

-- pages that copies can be programmed on
abbrev pub landing : Physical → ℕ
landing seg = seg.free * seg.size + seg.copy_left

-- pages that are free for names or copies once the victim is done and the table empty
abbrev pub reach : Physical → ℕ
reach seg = (seg.free + waiting seg) * seg.size + seg.copy_left + gain_of seg

-- pages that cleaning would gain: those of the Sealed blocks that are not live
abbrev pub dead_pages : Physical → ℕ
dead_pages seg = sum_by (λ row. cond (is_sealed_state row.state) row.dead 0) seg.rows

-- The segment has room for its victim: its live pages can be copied.
abbrev pub HasRoomForVictim : Physical → Type 0
HasRoomForVictim seg = left_in_victim seg ≤ landing seg

-- With a victim in hand there are at most 3 pairs for each page of a block, its live pages counted with them.
abbrev pub HasFewPairs : Physical → Type 0
HasFewPairs seg = victims seg ≡ 1 → length seg.pairs + left_in_victim seg ≤ 3 * seg.size

-- What holds of each segment, of its pages: what is live or taken as erased lies in the segment; a live page is in a block that is in
-- use, and its number is no old name; each pair leads to a live page, and old names differ; no old name stands in a block that is
-- Free; no page that is programmed next is in the victim.
pub record PagesAreInSegment (seg : Physical) : Type 0 where
  pub live_within : (page : ℕ) (h : Held) → held_at seg page ≡ Some h → InSegment seg page
  pub erased_within : (page : ℕ) → TakenAsErased seg page → InSegment seg page
  pub copies_within : (page : ℕ) → IsNextCopy seg page → InSegment seg page
  pub in_use : (page : ℕ) (h : Held) → held_at seg page ≡ Some h → is_kept seg (page / seg.size) ≡ false
  pub own : (page : ℕ) (h : Held) → held_at seg page ≡ Some h → IsOldName seg page → ⊥
  pub to_live : (name target : ℕ) → Contains seg.pairs (name, target) → (h : Held) × (held_at seg target ≡ Some h)
  pub one_target : AllPairs (λ (p q : ℕ × ℕ). p.0 ≡ q.0 → ⊥) seg.pairs
  pub no_name_free : (name : ℕ) → IsOldName seg name → is_free seg (name / seg.size) ≡ true → ⊥
  pub victim_idle : (page : ℕ) → IsNextToProgram seg page → InVictim seg page → ⊥

-- What holds of each segment, of its numbers: each live page of a victim is counted; there are at most 4 pairs for each page of a
-- block, and with a victim in hand at most 3 with its live pages; a block that waits has a name; the blocks that are kept for the
-- cleaner are Free or wait, and where there is one or it is in hand, one is Free, waits, or is the victim; and but for three blocks
-- all pages are live, dead, or in blocks that are Free.
pub record HasNumbers (seg : Physical) : Type 0 where
  pub left : seg.left ≤ seg.size
  pub copy_left : seg.copy_left ≤ seg.size
  pub victim : left_in_victim seg + gain_of seg ≡ victims seg * seg.size
  pub none_left : left_in_victim seg ≡ 0 → (page : ℕ) (h : Held) → held_at seg page ≡ Some h → InVictim seg page → ⊥
  pub pairs : length seg.pairs + seg.pair_room ≡ 4 * seg.size
  pub busy : HasFewPairs seg
  pub few_wait : waiting seg ≤ length seg.pairs
  pub counted : seg.free + waiting seg ≡ count_by (is_kept seg) (range_with_len seg.first (seg.blocks - seg.first))
  pub kept : KeepsBlock seg → 1 ≤ seg.free + waiting seg + victims seg
  pub dead : waiting seg ≡ 0 → victims seg ≡ 0
      → (seg.blocks - seg.first) * seg.size ≤ live_in seg.held + dead_pages seg + (seg.free + 2) * seg.size

pub record IsWhole (seg : Physical) : Type 0 where
  pub pages : PagesAreInSegment seg
  pub numbers : HasNumbers seg

-- nothing of cleaning changed
pub record SameCleaning (old new : Physical) : Type 0 where
  pub victim : new.victim ≡ old.victim
  pub copies : (new.copy_next ≡ old.copy_next) × (new.copy_left ≡ old.copy_left)
  pub waits : (block : ℕ) → is_waiting new block ≡ is_waiting old block
  pub same_waiting : waiting new ≡ waiting old
  pub left : left_in_victim new ≡ left_in_victim old
  pub gain : gain_of new ≡ gain_of old

-- Pages are live no longer, so many of them at most, and pairs to them are gone. A block that waited for their names alone is Free.
pub record Lessens (gone : ℕ) (old new : Physical) : Type 0 where
  pub victim : new.victim ≡ old.victim
  pub copies : (new.copy_next ≡ old.copy_next) × (new.copy_left ≡ old.copy_left)
  pub fewer_wait : waiting new ≤ waiting old
  pub left : left_in_victim new ≤ left_in_victim old
  pub left_most : left_in_victim old ≤ left_in_victim new + gone
  pub lands : HasRoomForVictim old → HasRoomForVictim new

-- A page is live no longer, or a name is gone: no page is given out. A block that waited for names that are gone is Free, with the
-- pages that it had.
pub record GivesBackBlocks (old new : Physical) : Type 0 where
  pub next : new.next ≡ old.next
  pub left : new.left ≡ old.left
  pub soiled : (block : ℕ) → soiled new block ≡ soiled old block
  pub wears : SameErasures old new
  pub blocks : new.free + waiting new ≡ old.free + waiting old
  pub frees : (block : ℕ) → is_free new block ≡ true → (is_free old block ≡ true) ⊎ (is_waiting old block ≡ true)
  pub still : (block : ℕ) → is_free old block ≡ true → is_free new block ≡ true
  pub more_reach : reach old ≤ reach new
  pub more_room : room old ≤ room new
  pub same : waiting old ≡ 0 → IsUnspent old new
