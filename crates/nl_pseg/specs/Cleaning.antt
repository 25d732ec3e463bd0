-- What the calls of cleaning do to a segment and its medium.
use Rattle.std.specs.Prelude.{◌≡◌, ◌⊎◌, ℕ, ◌+◌, ◌*◌, ◌/◌, ◌<◌, ◌≤◌, ◌==◌, if◌then◌else◌, ⊤, Bool, true, false, List, length, filter, not, slice_set, Some, None}
use Rattle.nl_blocks.specs.Table.{worn}
use Rattle.nl_field.specs.CrashStates.{Earlier, Rose, saturated}
use Rattle.nl_field.specs.Live.{resolve}
use Rattle.nl_field.specs.Page.{Image, page_at}
use Rattle.nl_field.specs.declared.answers.Named.{Named}
use Rattle.nl_field.specs.declared.answers.Named.TheVariants as named
use Rattle.nl_pseg.specs.Effects.{Crashes}
use Rattle.nl_pseg_pages.specs.Pages.{IsUnreadable, main_of}
use Rattle.nl_pseg.specs.Segment.{InVictim, IsDead, IsOldName, Physical, erasures, held_at, is_free, is_kept, is_sealed, is_waiting, room, soiled, wear_of, CountsErases}
use Rattle.nl_pseg.specs.Space.{HasRoomForVictim, dead_in, dead_pages, landing, left_in_victim, reach, victims, waiting}
use Rattle.nl_pseg.specs.declared.cleaned.Copied.{Copied}
use Rattle.nl_pseg.specs.declared.cleaned.Copied.TheVariants as copy
use Rattle.nl_pseg.specs.declared.held.Held.{Held}

-- two segments have the same pages and names
pub record SamePhysicalTables (old new : Physical) : Type 0 where
  pub same_first : new.first ≡ old.first
  pub same_blocks : new.blocks ≡ old.blocks
  pub same_size : new.size ≡ old.size
  pub same_held : new.held ≡ old.held
  pub same_pairs : new.pairs ≡ old.pairs
  pub same_room : new.pair_room ≡ old.pair_room

-- the pairs but that of this old name
abbrev pub without_name : ℕ → List (ℕ × ℕ) → List (ℕ × ℕ)
without_name name pairs = filter (λ (pair : ℕ × ℕ). not (pair.0 == name)) pairs

-- The block of the segment is Sealed. A cold one is the least worn of these, and one block of the segment was erased at least 16
-- times more; another has the most pages that are not live, and has one. Of equals it is the one of the least number.
pub record IsChosen (cold : Bool) (seg : Physical) (block : ℕ) : Type 0 where
  pub from : seg.first ≤ block
  pub below : block < seg.blocks
  pub sealed : is_sealed seg block ≡ true
  pub some : cold ≡ false → 0 < dead_in seg block
  pub first_most : cold ≡ false → (other : ℕ) → seg.first ≤ other → other < block → is_sealed seg other ≡ true
      → dead_in seg other < dead_in seg block
  pub first_least : cold ≡ true → (other : ℕ) → seg.first ≤ other → other < block → is_sealed seg other ≡ true
      → erasures seg block < erasures seg other
  pub most : cold ≡ false → (other : ℕ) → seg.first ≤ other → other < seg.blocks → is_sealed seg other ≡ true
      → dead_in seg other ≤ dead_in seg block
  pub least : cold ≡ true → (other : ℕ) → seg.first ≤ other → other < seg.blocks → is_sealed seg other ≡ true
      → erasures seg block ≤ erasures seg other
  pub worn : cold ≡ true → (other : ℕ) × (seg.first ≤ other) × (other < seg.blocks) × (erasures seg block + 16 ≤ erasures seg other)

-- no block can be chosen as the victim
abbrev pub NoneChosen : Bool → Physical → Type 0
NoneChosen true seg =
    (block : ℕ) → seg.first ≤ block → block < seg.blocks → is_sealed seg block ≡ true → (other : ℕ) → seg.first ≤ other
    → other < seg.blocks → erasures seg other < erasures seg block + 16
NoneChosen false seg = dead_pages seg ≡ 0

-- why no victim is begun
abbrev pub CannotBegin : Bool → Physical → Type 0
CannotBegin cold seg = (victims seg ≡ 1) ⊎ ((2 * seg.size < length seg.pairs) ⊎ ((seg.free ≡ 0) ⊎ NoneChosen cold seg))

-- The block is the victim now, and nothing else changed.
pub record BeginsBlock (block : ℕ) (old new : Physical) : Type 0 where
  pub tables : SamePhysicalTables old new
  pub none : old.victim ≡ None
  pub few : length old.pairs ≤ 2 * old.size
  pub victim : new.victim ≡ Some block
  pub next : (new.next ≡ old.next) × (new.left ≡ old.left)
  pub copies : (new.copy_next ≡ old.copy_next) × (new.copy_left ≡ old.copy_left)
  pub free : new.free ≡ old.free
  pub frees : (other : ℕ) → is_free new other ≡ is_free old other
  pub keeps : (other : ℕ) → is_kept new other ≡ is_kept old other
  pub wears : (other : ℕ) → wear_of new other ≡ wear_of old other
  pub same_erasures : (other : ℕ) → erasures new other ≡ erasures old other
  pub same_soiled : (other : ℕ) → soiled new other ≡ soiled old other
  pub waits : (other : ℕ) → is_waiting new other ≡ is_waiting old other
  pub same_waiting : waiting new ≡ waiting old
  pub left : left_in_victim new + dead_in old block ≡ old.size
  pub dead : dead_pages new + dead_in old block ≡ dead_pages old
  pub gains : reach new ≡ reach old + dead_in old block
  pub lands : HasRoomForVictim new

-- A live page of the victim was moved: it is live at another page, all names that led to it lead there, and its number is an old name.
-- No other page changed, and no page that is taken for new names but those of one Free block.
pub record MovesLivePage (before after : ℕ) (h : Held) (old new : Physical) : Type 0 where
  pub same_first : new.first ≡ old.first
  pub same_blocks : new.blocks ≡ old.blocks
  pub same_size : new.size ≡ old.size
  pub same_wear : (block : ℕ) → wear_of new block ≡ wear_of old block
  pub in_victim : InVictim old before
  pub was : held_at old before ≡ Some h
  pub dead : IsDead old after
  pub held : new.held ≡ slice_set (slice_set old.held after (Some h)) before None
  pub ways : (name : ℕ) → resolve new.pairs name ≡ (if resolve old.pairs name == before then after else resolve old.pairs name)
  pub own : IsOldName new before
  pub names : (name : ℕ) → IsOldName new name → (name ≡ before) ⊎ IsOldName old name
  pub pairs : length new.pairs ≡ length old.pairs + 1
  pub pair_room : new.pair_room + 1 ≡ old.pair_room
  pub victim : new.victim ≡ old.victim
  pub same_waiting : waiting new ≡ waiting old
  pub left : left_in_victim new + 1 ≡ left_in_victim old
  pub same_reach : reach new ≡ reach old
  pub lands : HasRoomForVictim old → HasRoomForVictim new
  pub wears : CountsErases old new
  pub next : (new.next ≡ old.next) × (new.left ≡ old.left)
  pub less_room : room new ≤ room old
  pub room_most : room old ≤ room new + old.size

-- No page was moved: pages and names are as they were, and where a program or an erase failed a page for copies may be lost.
pub record MovesNone (old new : Physical) : Type 0 where
  pub tables : SamePhysicalTables old new
  pub same_wear : (block : ℕ) → wear_of new block ≡ wear_of old block
  pub victim : new.victim ≡ old.victim
  pub same_waiting : waiting new ≡ waiting old
  pub left : left_in_victim new ≡ left_in_victim old
  pub wears : CountsErases old new
  pub less_landing : landing new ≤ landing old
  pub landing_most : landing old ≤ landing new + 1
  pub less_room : room new ≤ room old
  pub room_most : room old ≤ room new + old.size

abbrev pub IfMoved : Copied → (ℕ → ℕ → Held → Type 0) → Type 0
IfMoved (copy.Moved before after tag stamp) P = P before after (record { tag = tag; stamp = stamp })
IfMoved copy.Nothing P = ⊤
IfMoved (copy.Lost wanted found) P = ⊤
IfMoved copy.Fault P = ⊤

abbrev pub IsMoved : Copied → Type 0
IsMoved (copy.Moved before after tag stamp) = ⊤
IsMoved copy.Nothing = ⊥
IsMoved (copy.Lost wanted found) = ⊥
IsMoved copy.Fault = ⊥

-- the answer of the program that a move makes
abbrev pub programmed_by : Copied → Named
programmed_by (copy.Moved before after tag stamp) = named.Placed (record { name = after; stamp = stamp })
programmed_by copy.Nothing = named.Fault
programmed_by (copy.Lost wanted found) = named.Fault
programmed_by copy.Fault = named.Fault

-- What a stop within a move may leave, and what the move leaves: that of a write of one live page of the victim, with its owner, its
-- number and its bytes.
pub record CrashesMove {M : Type 0} (clock : M → ℕ) (contents : M → Image) (left : M → ℕ → Image → Type 0) (seg : Physical)
    (old new : M) (answer : Copied) : Type 0 where
  pub before : ℕ
  pub h : Held
  pub in_victim : InVictim seg before
  pub was : held_at seg before ≡ Some h
  pub moved : IfMoved answer (λ was after held. (was ≡ before) × (held ≡ h))
  pub crash : Crashes clock contents left seg h.tag h.stamp (main_of (page_at (contents old) before)) old new (programmed_by answer)

-- each page is as it was, or one of this block from which nothing is read
abbrev pub KeepsBeside : Physical → ℕ → Image → Image → Type 0
KeepsBeside seg block old c = (page : ℕ) → (page_at c page ≡ page_at old page) ⊎ ((page / seg.size ≡ block) × IsUnreadable (page_at c page))

-- The victim is erased: it is Free, or waits for the names that stand in it. Pages, names and pairs are as they were.
pub record ErasesBlock (block : ℕ) (old new : Physical) : Type 0 where
  pub tables : SamePhysicalTables old new
  pub was : old.victim ≡ Some block
  pub none_left : left_in_victim old ≡ 0
  pub victim : new.victim ≡ None
  pub next : (new.next ≡ old.next) × (new.left ≡ old.left)
  pub copies : (new.copy_next ≡ old.copy_next) × (new.copy_left ≡ old.copy_left)
  pub blocks : ((new.free ≡ old.free + 1) × (waiting new ≡ waiting old)) ⊎ ((new.free ≡ old.free) × (waiting new ≡ waiting old + 1))
  pub frees : (other : ℕ) → (other ≡ block → ⊥) → is_free new other ≡ is_free old other
  pub keeps : (other : ℕ) → (other ≡ block → ⊥) → is_kept new other ≡ is_kept old other
  pub kept : is_kept new block ≡ true
  pub here : (is_free new block ≡ true) ⊎ (is_waiting new block ≡ true)
  pub names : (name : ℕ) → IsOldName old name → name / old.size ≡ block → is_waiting new block ≡ true
  pub clean : soiled new block ≡ None
  pub same_soiled : (other : ℕ) → (other ≡ block → ⊥) → soiled new other ≡ soiled old other
  pub wear : erasures new block ≡ worn (erasures old block)
  pub wears : (other : ℕ) → (other ≡ block → ⊥) → erasures new other ≡ erasures old other
  pub left : left_in_victim new ≡ 0
  pub same_reach : reach new ≡ reach old
  pub more_room : room old ≤ room new

-- The counts of a medium over a move. Where no Free block has to be erased before use, the clock counts the copy and nothing else.
pub record CountedMove {M : Type 0} (clock read_faults write_faults : M → ℕ) (clean : Type 0) (old new : M) (answer : Copied) : Type 0 where
  pub later : clock old ≤ clock new
  pub few : clock new ≤ clock old + 2
  pub moved : IsMoved answer → Earlier (clock old) (clock new)
  pub one : clean → IsMoved answer → clock new ≡ saturated (clock old + 1)
  pub none : clean → (IsMoved answer → ⊥) → clock new ≡ clock old
  pub reads : read_faults old ≤ read_faults new
  pub writes : write_faults old ≤ write_faults new
  pub failed : answer ≡ copy.Fault → Rose (read_faults old) (read_faults new) ⊎ Rose (write_faults old) (write_faults new)
  pub well : (answer ≡ copy.Fault → ⊥) → (read_faults new ≡ read_faults old) × (write_faults new ≡ write_faults old)
