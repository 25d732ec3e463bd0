-- Which pages of a transaction the device has at their addresses, whatever the transaction's number.
use Rattle.std.specs.Prelude.{◌≡◌, ◌⊎◌, ℕ, ◌+◌, ◌<◌, ◌==◌, if◌then◌else◌, List, length, Some, None, slice_index}
use Rattle.nl_meta.specs.Committed.{VirtualMap}
use Rattle.nl_meta.specs.Pages.{Frozen, none_frozen}
use Rattle.nl_journal.specs.Outcomes.{IsHome}
use Rattle.nl_journal.specs.Progress.{Progress}
use Rattle.nl_journal.specs.Transaction.{main_at, place}
use Rattle.nl_journal.specs.declared.answers.Phase.{Phase}
use Rattle.nl_journal.specs.declared.answers.Phase.TheVariants.{Header, Image, Commit, Home}

-- the map with these bytes at one address
abbrev pub with_bytes : VirtualMap → ℕ → List ℕ → VirtualMap
with_bytes map v main u = if u == v then Some main else map u

-- how many pages are home, by which page is due
abbrev pub copied : Phase → ℕ
copied Header = 0
copied (Image i) = 0
copied Commit = 0
copied (Home i) = i

-- how many pages are home once the write is done that is due
abbrev pub copied_next : Phase → ℕ
copied_next Header = 0
copied_next (Image i) = 0
copied_next Commit = 0
copied_next (Home i) = i + 1

-- so many pages of the transaction are home
abbrev pub AreHome : Frozen → ℕ → VirtualMap → Type 0
AreHome frozen n map = (j : ℕ) → j < n → map (slice_index frozen.addresses j) ≡ Some (main_at frozen.images j)

-- A write of a transaction changes no page of the volume but that of an address of the transaction, and brings the page home that is due.
pub record WritesHome (phase : Phase) (frozen : Frozen) (done : Type 0) (count : ℕ) (old new : VirtualMap) : Type 0 where
  pub beside : (v : ℕ) → IsHome count v → place frozen v ≡ None → new v ≡ old v
  pub waits : (done → ⊥) → (v : ℕ) → new v ≡ old v
  pub brings : done → AreHome frozen (copied phase) old → AreHome frozen (copied_next phase) new

-- As many pages are home as the journal says; once nothing is frozen any more, all.
abbrev pub HomeBy : Progress → Frozen → Frozen → VirtualMap → Type 0
HomeBy p frozen now map =
    ((now ≡ frozen) × AreHome frozen (copied p.phase) map) ⊎ ((now ≡ none_frozen) × AreHome frozen (length frozen.addresses) map)

-- Writes of a transaction change no page of the volume but those of its addresses, and bring pages home.
pub record BringsHome (count : ℕ) (p q : Progress) (frozen now : Frozen) (old new : VirtualMap) : Type 0 where
  pub beside : (v : ℕ) → IsHome count v → place frozen v ≡ None → new v ≡ old v
  pub brings : AreHome frozen (copied p.phase) old → HomeBy q frozen now new
