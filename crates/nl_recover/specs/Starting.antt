-- What an opening hands out, as the metadata of a volume that runs.
use Rattle.std.specs.Prelude.{◌≡◌, ℕ, ◌<◌, ◌≤◌, List, length, slice_index, None, Some, IsSome}
use Rattle.nl_field.specs.declared.seen.Seen.{Seen}
use Rattle.nl_iface.specs.Stored.{NoneFailed}
use Rattle.nl_iface.specs.declared.counts.Counts.{Ghosts}
use Rattle.nl_journal.specs.Homes.{AreHome, copied}
use Rattle.nl_journal.specs.Outcomes.{bytes_of}
use Rattle.nl_journal.specs.Progress.{units_left}
use Rattle.nl_journal.specs.Standing.{JournalInOrder}
use Rattle.nl_journal.specs.Transaction.{main_at}
use Rattle.nl_meta.specs.Pages.{page_of}
use Rattle.nl_meta_running.specs.Running.{RunningIsRight}
use Rattle.nl_recover.specs.Recovering.{IsWalked}
use Rattle.nl_recover.specs.declared.opening.Walked.{Walked}

-- What a volume is begun with: its metadata runs and its journal is in order, as many of the frozen pages are home as the journal says,
-- each of them runs as it was frozen, and no transaction waits for its commit page. The super page is resident, and no page of the
-- journal's addresses is.
pub record Starts {D : Type 0} (g : Ghosts D) (s : D) (w : Walked) : Type 0 where
  pub runs : RunningIsRight g s w.meta
  pub order : JournalInOrder g s w.journal w.meta.frozen
  pub home : g.tells → AreHome w.meta.frozen (copied w.journal.phase) (bytes_of (g.map s))
  pub frozen : (i : ℕ) → i < length w.meta.frozen.addresses
      → page_of w.meta (slice_index w.meta.frozen.addresses i) ≡ Some (main_at w.meta.frozen.images i)
  pub decided : units_left w.journal.phase (length w.meta.frozen.addresses) ≤ length w.meta.frozen.addresses
  pub super_page : IsSome (page_of w.meta 0)
  pub apart : (v : ℕ) → 1 ≤ v → v < 67 → page_of w.meta v ≡ None

-- What a walk found sound starts a volume where no write of an address failed before.
abbrev pub WalkedStarts : {D : Type 0} → Ghosts D → Type 0
WalkedStarts {D} g =
    (s : D) (seen : List Seen) (w : Walked) → IsWalked g s seen w → (g.tells → NoneFailed (g.shape s).vaddrs (g.failed s)) → Starts g s w
