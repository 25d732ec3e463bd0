-- Who holds live pages for the committed metadata of a volume, and for a transaction that is frozen.
use Rattle.std.specs.Prelude.{◌≡◌, ◌+◌, List, [], length}
use Rattle.nl_field.specs.Virtual.{or_zeros}
use Rattle.nl_field.specs.declared.pointer.Pointer.{Pointer}
use Rattle.nl_field.specs.declared.pointer.Tag.{Tag}
use Rattle.nl_field.specs.declared.shape.Shape.{Shape}
use Rattle.nl_iface.specs.Names.{Has}
use Rattle.nl_iface.specs.declared.counts.Counts.{Ghosts}
use Rattle.nl_spec_holders.specs.Holding.{Holding}
use Rattle.nl_journal.specs.Committing.{committed_on, finished_on}
use Rattle.nl_journal.specs.Progress.{HasNumber, Progress, begun}
use Rattle.nl_meta.specs.Committed.{VirtualMap}
use Rattle.nl_meta.specs.Pages.{Pages}
use Rattle.nl_meta.specs.PointerLists.{tagged_in}
use Rattle.nl_meta_running.specs.FileLaws.{IsRight}
use Rattle.nl_journal_commit.specs.Completing.{AwaitsCommitPage}
use Rattle.nl_journal_commit.specs.Holding.{IsHoldingOf}

-- what the addresses read as that have these pages: an inode page that was never written is zeros
abbrev pub read_as : Shape → VirtualMap → VirtualMap
read_as shape pages v = or_zeros shape v (pages v)

-- Nodes, addresses and entries of these pages are right, and each pointer of their files is one of those that are kept.
pub record AreKept (shape : Shape) (pages : VirtualMap) (kept : List Pointer) : Type 0 where
  pub right : IsRight shape (read_as shape pages)
  pub listed : (h : Tag × Pointer) → Has (tagged_in shape (read_as shape pages)) h → Has kept h.1

-- The holding keeps the pages that are committed, under the number of the last transaction that counts, and those of a frozen transaction
-- whose commit page is still to be written, under the number that it will have. A transaction that begins then has the number behind.
pub record KeepsJournaled {D : Type 0} (g : Ghosts D) (s : D) (p : Progress) (pages : Pages) (v : Holding) : Type 0 where
  pub decided : v.decided ≡ p.number
  pub number : v.number ≡ begun p (length pages.frozen.addresses)
  pub next : v.next ≡ begun p (length pages.frozen.addresses) + 1
  pub committed : AreKept (g.shape s) (committed_on g s) v.committed
  pub frozen : AwaitsCommitPage p pages.frozen → AreKept (g.shape s) (finished_on g s p pages) v.frozen
  -- where none is to be written, no page is held for one
  pub thawed : (AwaitsCommitPage p pages.frozen → ⊥) → (v.frozen ≡ []) × (v.leaving ≡ 0)

-- The holding is that of the device and the metadata as it runs. Where the medium tells its contents and the numbers of transactions have
-- not ended, it is that of the journal too.
pub record IsHoldingOn {D : Type 0} (g : Ghosts D) (s : D) (p : Progress) (pages : Pages) (v : Holding) : Type 0 where
  pub runs : IsHoldingOf g s pages v
  pub told : g.tells → HasNumber p (length pages.frozen.addresses) → KeepsJournaled g s p pages v
