-- In which orders the lines of a script may be answered, and how many calls a sync has made safe.
use Rattle.std.specs.Prelude.{◌≡◌, ℕ, ◌+◌, ◌<◌, ◌≤◌, max, nat_le, nat_lt, ◌==◌, Bool, ◌&&◌, ◌||◌, if◌then◌else◌, IsTrue, IsFalse, List, map, fold, filter_map, slice_get, IfSome, Option, Some, None, option_map, AllPairs, IsPermutation}
use Rattle.std.specs.List.{AllByRecursion}
use Rattle.nl_tree.specs.declared.call.Line.{Line}
use Rattle.nl_tree.specs.declared.reply.Reply.{Reply}
use Rattle.nl_tree.specs.declared.reply.Reply.TheVariants.{Synced}

-- a line of an earlier round, or an earlier line of the same worker in the same round
abbrev pub has_to_precede : Line → Line → Bool
has_to_precede a b = nat_lt a.round b.round || (a.round == b.round && a.worker == b.worker && nat_lt a.line b.line)

-- each line once and no other, and none before one that has to precede it
pub record IsOrderOf (lines answered : List Line) : Type 0 where
  pub each_once : IsPermutation lines answered
  pub in_order : AllPairs (λ a b. IsFalse (has_to_precede b a)) answered

-- a sync that was answered ok: how many calls it made safe, and the moment of the last commit page then
pub record SyncPoint : Type 0 where
  pub upto : ℕ
  pub moment : ℕ

-- The calls that a stop can no longer lose: the greatest `upto` of the syncs up to a moment, and the count of the opening where
-- there is none.
unfoldable pub durable_prefix : List SyncPoint → ℕ → ℕ → ℕ
durable_prefix syncs count moment = fold (λ best sync. if nat_le sync.moment moment then max best sync.upto else best) count syncs

-- the numbers of a sync that was answered ok
abbrev pub sync_answered : Reply → Option SyncPoint
sync_answered (Synced upto moment) = Some (record { upto = upto; moment = moment })
sync_answered _ = None

-- The line at i, from 0, has the place count + i + 1. A sync there makes safe no call at or behind its own place, and all
-- that come before it for its worker or by their round.
pub record IsSyncAt (count : ℕ) (answered : List Line) (i : ℕ) (line : Line) (sync : SyncPoint) : Type 0 where
  pub not_below_opening : count ≤ sync.upto
  pub below_place : sync.upto < count + i + 1
  pub earlier_lines : (j : ℕ) → j < i
      → IfSome (slice_get answered j) (λ earlier. IsTrue (has_to_precede earlier line) → count + j + 1 ≤ sync.upto)

-- a sync that was answered ok, with the number of its line
pub record LineSync : Type 0 where
  pub line : ℕ
  pub sync : SyncPoint

abbrev pub line_sync : Line × Reply → Option LineSync
line_sync (line, reply) = option_map (λ s. record { line = line.line; sync = s }) (sync_answered reply)

-- the syncs of answered lines, by place, where the medium's clock went from first to last
pub record AreSyncs (count first last : ℕ) (answered : List (Line × Reply)) (syncs : List LineSync) : Type 0 where
  pub listed : syncs ≡ filter_map line_sync answered
  pub numbers : (i : ℕ) → IfSome (slice_get answered i) (λ x. IfSome (sync_answered x.1) (IsSyncAt count (map (λ y. y.0) answered) i x.0))
  pub moments : AllByRecursion (λ s. (first ≤ s.sync.moment) × (s.sync.moment ≤ last)) syncs
  pub moments_rise : AllPairs (λ a b. a.sync.moment ≤ b.sync.moment) syncs
