-- A round of cleaning in numbers: its steps, and what it gains.
use Rattle.std.specs.Prelude.{◌≡◌, ◌⊎◌, ℕ, ◌+◌, ◌*◌, ◌≤◌}
use Rattle.nl_iface.specs.Moves.{HasNothingToCopy, TakesVictim}
use Rattle.nl_iface.specs.Space.{VictimBegun, CanLand, Copied, Erased, Freed, IsSpace, NamesGone, NoneRetired, SameSegment, Space}

-- Pages were freed and old names ended. The victim is the one before.
pub record Empties (s t : Space) : Type 0 where
  pub same : SameSegment s t
  pub bad : NoneRetired s t
  pub victim : t.victim ≡ s.victim
  pub reach : s.reach ≤ t.reach

-- Pages were moved. A victim is in hand; one that was begun brought pages within reach.
pub record MovesSomePages (s t : Space) : Type 0 where
  pub same : SameSegment s t
  pub bad : NoneRetired s t
  pub waiting : t.waiting ≡ s.waiting
  pub live : t.live ≡ s.live
  pub victim : t.victim ≡ 1
  pub reach : s.reach ≤ t.reach
  pub gain : (s.victim ≡ 1) ⊎ (s.reach + 1 ≤ t.reach)

-- A victim was moved and erased, or there was none to begin.
abbrev pub Cleans : Space → Space → Type 0
Cleans s t = ((m : Space) × ((m ≡ s) ⊎ MovesSomePages s m) × Erased m t) ⊎ (HasNothingToCopy s × (s.victim ≡ 0) × (t ≡ s))

-- what a round does after its commit, which has emptied the table
pub record IsReclaimPass (s t : Space) : Type 0 where
  pub emptied : Space
  pub empties : Empties s emptied
  pub no_pairs : emptied.pairs ≡ 0
  pub cleans : Cleans emptied t

-- The pages of a segment are those of the files and some more, so many of which are live at most.
pub record HasCapacity (s : Space) : Type 0 where
  pub cap : ℕ
  pub all : s.all ≡ cap + (s.keep + s.bad + 3) * s.block + 160
  pub live : s.live ≤ cap + 145

-- more blocks are Free than are kept for the cleaner, so that a page can be programmed
abbrev pub HasFreed : Space → Type 0
HasFreed s = s.keep + 1 ≤ s.free

-- what a round gains
abbrev pub GainsByPass : Space → Space → Type 0
GainsByPass s t = HasFreed t ⊎ ((1 ≤ s.victim) ⊎ (s.reach + 1 ≤ t.reach))

-- A free and the end of old names empty the table, and so do several.
pub record EmptiesLaws : Type 0 where
  pub freed : (s t : Space) → Freed s t → Empties s t
  pub gone : (s t : Space) → NamesGone s t → Empties s t
  pub none : (s : Space) → Empties s s
  pub then : (r s t : Space) → Empties r s → Empties s t → Empties r t

-- A move does, and a victim that is begun and has no live page; and so do several.
pub record MovesLaws : Type 0 where
  pub moved : (s m t : Space) → TakesVictim s m → Copied m t → NoneRetired s t → MovesSomePages s t
  pub begun : (s t : Space) → 1 ≤ s.block → VictimBegun s t → t.left ≡ 0 → MovesSomePages s t
  pub then : (r s t : Space) → MovesSomePages r s → MovesSomePages s t → MovesSomePages r t

-- A round gives a Free block more than are kept, or finished a victim that was in hand, or brings more pages within reach.
abbrev pub ReclaimPassGains : Type 0
ReclaimPassGains = (s t : Space) → (is : IsReclaimPass s t) → IsSpace is.emptied → HasCapacity is.emptied → GainsByPass s t

-- After a round no victim is in hand, and one block waits at most. So rounds end: once so many pages are within reach, a block is Free.
pub record ReclaimPassesEnd : Type 0 where
  pub none_in_hand : (s t : Space) → (is : IsReclaimPass s t) → IsSpace is.emptied → (t.victim ≡ 0) × (t.waiting ≤ 1)
  pub free : (s : Space) → IsSpace s → s.victim ≡ 0 → s.waiting ≤ 1 → (s.keep + 2) * s.block + 1 ≤ s.reach → HasFreed s
  pub low : (s : Space) → IsSpace s → CanLand s → s.block ≤ s.reach
