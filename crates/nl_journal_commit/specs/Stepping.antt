-- One unit of a frozen transaction, with the metadata that runs and who holds pages.
use Rattle.std.specs.Prelude.{◌≡◌, ◌≢◌, ℕ, ⊤, length, Option, Some, None}
use Rattle.nl_iface.specs.Names.{SameTables}
use Rattle.nl_iface.specs.declared.counts.Counts.{Ghosts}
use Rattle.nl_journal.specs.Left.{UnitWrites}
use Rattle.nl_journal.specs.Progress.{HasNumber, Progress, next, next_after}
use Rattle.nl_journal.specs.Units.{frozen_after}
use Rattle.nl_journal.specs.declared.answers.Phase.TheVariants.{Commit}
use Rattle.nl_meta.specs.Pages.{Pages}
use Rattle.nl_journal_commit.specs.Standing.{PreservesGraph}

-- A unit that was done leaves the journal at the next one, and of the metadata only the frozen pages change, once all are home. One that
-- was not is still to be done.
pub record GoesOneUnit (done : Type 0) (p q : Progress) (pages now : Pages) : Type 0 where
  pub taken : done → (q ≡ next p (length pages.frozen.addresses)) × (now ≡ record pages { frozen = frozen_after p.phase pages.frozen })
  pub waits : (done → ⊥) → (q ≡ p) × (now ≡ pages)

-- Of which transaction a unit finished the commit page: of the one after the last, where the commit page was due and was written.
abbrev pub TellsCommitPage : Type 0 → Progress → Option ℕ → Type 0
TellsCommitPage done p None = done → p.phase ≢ Commit
TellsCommitPage done p (Some number) = done × (p.phase ≡ Commit) × (number ≡ next_after p.number)

-- What a unit says of the metadata and of who holds pages.
pub record TakesUnit {D : Type 0} (g : Ghosts D) (done : Type 0) (s : D) (p : Progress) (pages : Pages) (t : D) (q : Progress)
    (now : Pages) : Type 0 where
  pub same_shape : g.shape t ≡ g.shape s
  pub tables : SameTables (g.names s) (g.names t)
  pub stands : PreservesGraph g s pages t q now
  pub goes : GoesOneUnit done p q pages now
  pub writes : g.tells → HasNumber p (length pages.frozen.addresses) → UnitWrites g done p q pages now s t
