-- A tournament in a list: node i has the better of what nodes 2·i and 2·i + 1 have, the leaves stand from `count` on, and node 0 is
-- not used.
use Rattle.std.specs.Prelude.{◌≡◌, ◌≢◌, ℕ, ◌+◌, ◌*◌, ◌^◌, ◌<◌, ◌≤◌, List, length, map, drop, Bool, ◌||◌, ◌&&◌, ◌==◌, nat_lt, Option, Some, None, IfSome, slice_index_or, if◌then◌else◌}
use Rattle.nl_blocks.specs.declared.tournament.Entrant.{Entrant}

abbrev pub key_of_entrant : Option Entrant → Option ℕ
key_of_entrant None = None
key_of_entrant (Some e) = Some e.key

abbrev pub entrant_of : ℕ → Option ℕ → Option Entrant
entrant_of place None = None
entrant_of place (Some key) = Some (record { key = key; place = place })

abbrev pub entrant_at : List (Option Entrant) → ℕ → Option Entrant
entrant_at tree i = slice_index_or tree i None

-- Whether a goes before b: by a lesser key, of equals by a lesser place.
abbrev pub is_before : Entrant → Entrant → Bool
is_before a b = nat_lt a.key b.key || (a.key == b.key && nat_lt a.place b.place)

abbrev pub better : Option Entrant → Option Entrant → Option Entrant
better None b = b
better (Some a) None = Some a
better (Some a) (Some b) = if is_before b a then Some b else Some a

-- the keys at the leaves
abbrev pub keys_of : ℕ → List (Option Entrant) → List (Option ℕ)
keys_of count tree = map key_of_entrant (drop count tree)

-- at node i
abbrev pub HasBetter : List (Option Entrant) → ℕ → Type 0
HasBetter tree i = entrant_at tree i ≡ better (entrant_at tree (2 * i)) (entrant_at tree (2 * i + 1))

pub record HasWinners (count : ℕ) (tree : List (Option Entrant)) : Type 0 where
  pub each : (i : ℕ) → 1 ≤ i → i < count → HasBetter tree i

-- each inner node has the better of the two below it, but for one node
pub record HasWinnersBut (but count : ℕ) (tree : List (Option Entrant)) : Type 0 where
  pub each : (i : ℕ) → 1 ≤ i → i < count → i ≢ but → HasBetter tree i

-- Each leaf has the one of its place, or none.
pub record HasLeaves (count : ℕ) (tree : List (Option Entrant)) : Type 0 where
  pub size : length tree ≡ 2 * count
  pub each : (k : ℕ) → k < count → IfSome (entrant_at tree (count + k)) (λ e. e.place ≡ k)

-- Two trees have the same leaves.
pub record HasSameLeaves (count : ℕ) (old new : List (Option Entrant)) : Type 0 where
  pub size : length new ≡ length old
  pub each : (i : ℕ) → count ≤ i → entrant_at new i ≡ entrant_at old i

pub record IsTournament (tree : List (Option Entrant)) (count : ℕ) : Type 0 where
  pub few : count < 2 ^ 32
  pub leaves : HasLeaves count tree
  pub winners : HasWinners count tree

abbrev pub key_at : List (Option ℕ) → ℕ → Option ℕ
key_at keys i = slice_index_or keys i None

abbrev pub NonePresent : List (Option ℕ) → Type 0
NonePresent keys = (j : ℕ) → key_at keys j ≡ None

-- Place i is the first of those with the least key.
pub record IsFirstOfLeast (keys : List (Option ℕ)) (i : ℕ) : Type 0 where
  pub key : ℕ
  pub within : i < length keys
  pub present : key_at keys i ≡ Some key
  pub least : (j other : ℕ) → key_at keys j ≡ Some other → key ≤ other
  pub earlier : (j other : ℕ) → j < i → key_at keys j ≡ Some other → key < other
