-- A tree of marks in a list: nodes 2·i and 2·i + 1 are below node i, and each node is set where one below it is. Node 0 is not there.
use Rattle.std.specs.Prelude.{◌≡◌, ◌≢◌, ℕ, ◌+◌, ◌*◌, ◌^◌, ◌≤◌, ◌<◌, Bool, true, false, ◌||◌, List, length, slice_index_or}

abbrev pub mark_at : List Bool → ℕ → Bool
mark_at tree i = slice_index_or tree i false

-- node i is set exactly where one of the two below it is
abbrev pub HoldsAt : List Bool → ℕ → Type 0
HoldsAt tree i = mark_at tree i ≡ (mark_at tree (2 * i) || mark_at tree (2 * i + 1))

pub record MarksBelow (tree : List Bool) : Type 0 where
  pub each : (i : ℕ) → 1 ≤ i → 2 * i + 1 < length tree → HoldsAt tree i

-- each node is set where one below it is, but at one node
pub record MarksBelowBut (but : ℕ) (tree : List Bool) : Type 0 where
  pub each : (i : ℕ) → 1 ≤ i → 2 * i + 1 < length tree → i ≢ but → HoldsAt tree i

-- Of two trees the leaves are the same.
pub record SameLeaves (old new : List Bool) : Type 0 where
  pub size : length new ≡ length old
  pub each : (i : ℕ) → length old ≤ 2 * i → mark_at new i ≡ mark_at old i

-- A leaf is set, and is the first one that is, of so many leaves from one on.
pub record IsFirstIn (tree : List Bool) (from width leaf : ℕ) : Type 0 where
  pub above : from ≤ leaf
  pub below : leaf < from + width
  pub set : mark_at tree leaf ≡ true
  pub first : (i : ℕ) → from ≤ i → i < leaf → mark_at tree i ≡ false

-- A tree for so many numbers: its leaves from `width` on are theirs, and those behind are not set.
pub record IsFreeBitTree (tree : List Bool) (width height count : ℕ) : Type 0 where
  pub size : length tree ≡ 2 * width
  pub power : width ≡ 2 ^ height
  pub fits : count ≤ width
  pub small : width ≤ 2 ^ 33
  pub few : count < 2 ^ 32
  pub marks : MarksBelow tree
  pub outside : (k : ℕ) → count ≤ k → k < width → mark_at tree (width + k) ≡ false
