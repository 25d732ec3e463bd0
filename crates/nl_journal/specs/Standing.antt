-- How a transaction stands on the device, at each place between two writes.
use Rattle.std.specs.Prelude.{◌≡◌, ◌⊎◌, ℕ, ◌+◌, ◌<◌, ◌≤◌, List, length, Option, Some, None}
use Rattle.nl_field.specs.declared.shape.Shape.{Shape}
use Rattle.nl_iface.specs.declared.counts.Counts.{Ghosts}
use Rattle.nl_iface.specs.Stored.{Value}
use Rattle.nl_meta.specs.Committed.{VirtualMap, committed}
use Rattle.nl_meta.specs.Pages.{Frozen}
use Rattle.nl_journal.specs.Outcomes.{bytes_of, May, Within, IsHome, Agrees}
use Rattle.nl_journal.specs.Progress.{HasNumber, IsPhase, Progress, transaction}
use Rattle.nl_journal.specs.Transaction.{head, mark, IsTransaction, Older, header, main_at, place}
use Rattle.nl_journal.specs.declared.answers.Phase.{Phase}
use Rattle.nl_journal.specs.declared.answers.Phase.TheVariants.{Header, Image, Commit, Home}

-- No transaction is on its way: each page is home, a transaction that counts changes nothing, and a header of this number
-- counts with no commit page that may be shown.
pub record AtRest (shape : Shape) (may : ℕ → Option (List ℕ) → Type 0) (base : VirtualMap) (number : ℕ) : Type 0 where
  pub home : (v : ℕ) (b : Option (List ℕ)) → IsHome shape.vaddrs v → may v b → b ≡ base v
  pub older : (b : Option (List ℕ)) → may 66 b → Older number b
  pub agrees : (f : VirtualMap) → Within shape.vaddrs may f → Agrees shape.vaddrs (committed shape f) base

-- The header stands, and so many images. The pages at home are the committed ones.
pub record Staged (shape : Shape) (may : ℕ → Option (List ℕ) → Type 0) (base : VirtualMap) (number : ℕ) (frozen : Frozen)
    (done : ℕ) : Type 0 where
  pub begins : (b : Option (List ℕ)) → may 1 b → head shape b ≡ Some (header number frozen)
  pub images : (i : ℕ) (b : Option (List ℕ)) → i < done → may (2 + i) b → b ≡ Some (main_at frozen.images i)
  pub home : (v : ℕ) (b : Option (List ℕ)) → IsHome shape.vaddrs v → may v b → b ≡ base v

-- A commit page may be shown that is of an earlier transaction alone.
pub record Undecided (may : ℕ → Option (List ℕ) → Type 0) (number : ℕ) : Type 0 where
  pub older : (b : Option (List ℕ)) → may 66 b → Older number b

-- All images stand. Where the write of the commit page failed, it may be shown.
pub record Deciding (may : ℕ → Option (List ℕ) → Type 0) (now : Option (List ℕ)) (number : ℕ) : Type 0 where
  pub before : Older number now
  pub either : (b : Option (List ℕ)) → may 66 b → Older number b ⊎ (mark b ≡ Some (record { number = number }))

-- The transaction counts, and so many of its pages are home.
pub record TransactionCounts (shape : Shape) (may : ℕ → Option (List ℕ) → Type 0) (base : VirtualMap) (number : ℕ) (frozen : Frozen)
    (copied : ℕ) : Type 0 where
  pub begins : (b : Option (List ℕ)) → may 1 b → head shape b ≡ Some (header number frozen)
  pub ends : (b : Option (List ℕ)) → may 66 b → mark b ≡ Some (record { number = number })
  pub images : (i : ℕ) (b : Option (List ℕ)) → i < length frozen.addresses → may (2 + i) b → b ≡ Some (main_at frozen.images i)
  pub listed : (v i : ℕ) → IsHome shape.vaddrs v → place frozen v ≡ Some i → base v ≡ Some (main_at frozen.images i)
  pub home : (v i : ℕ) (b : Option (List ℕ)) → IsHome shape.vaddrs v → place frozen v ≡ Some i → i < copied → may v b
      → b ≡ Some (main_at frozen.images i)
  pub others : (v : ℕ) (b : Option (List ℕ)) → IsHome shape.vaddrs v → place frozen v ≡ None → may v b → b ≡ base v

-- By which page is due: what may be shown, and what is shown where no failed write is.
abbrev pub JournalInPhase : Phase → Shape → (ℕ → Option (List ℕ) → Type 0) → VirtualMap → VirtualMap → ℕ → Frozen → Type 0
JournalInPhase Header shape may now base number frozen = AtRest shape may base number
JournalInPhase (Image i) shape may now base number frozen = Staged shape may base number frozen i × Undecided may number
JournalInPhase Commit shape may now base number frozen =
    Staged shape may base number frozen (length frozen.addresses) × Deciding may (now 66) number
JournalInPhase (Home i) shape may now base number frozen = TransactionCounts shape may base number frozen i

-- The pages of the journal stand on a device of this map, but for writes that failed. The committed pages are those of the map.
abbrev pub JournalMatchesMap : Shape → (ℕ → Option Value) → (ℕ → Value → Type 0) → Progress → Frozen → Type 0
JournalMatchesMap shape map failed p frozen =
    JournalInPhase p.phase shape (May map failed) (bytes_of map) (committed shape (bytes_of map)) (transaction p) frozen

-- The journal of a device, between calls: the frozen pages are a transaction, and its pages stand as far as it is. Where a number
-- has no spelling, nothing is said of what is stored.
pub record JournalInOrder {D : Type 0} (g : Ghosts D) (s : D) (p : Progress) (frozen : Frozen) : Type 0 where
  pub phase : IsPhase p.phase (length frozen.addresses)
  pub pages : 1 ≤ length frozen.addresses → IsTransaction (g.shape s).vaddrs frozen
  pub keeps : g.tells → HasNumber p (length frozen.addresses) → JournalMatchesMap (g.shape s) (g.map s) (g.failed s) p frozen
