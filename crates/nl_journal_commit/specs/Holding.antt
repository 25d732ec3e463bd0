-- Who holds live pages, through a commit.
use Rattle.std.specs.Prelude.{◌≡◌, List}
use Rattle.nl_field.specs.declared.pointer.Pointer.{Pointer}
use Rattle.nl_field.specs.declared.pointer.Tag.{Tag}
use Rattle.nl_iface.specs.Names.{SameTables}
use Rattle.nl_iface.specs.declared.counts.Counts.{Ghosts}
use Rattle.nl_spec_holders.specs.Holding.{Holding}
use Rattle.nl_spec_holders.specs.Laws.{PreservesHolding}
use Rattle.nl_journal.specs.Progress.{Progress}
use Rattle.nl_meta.specs.Pages.{Pages}
use Rattle.nl_meta.specs.PointerLists.{tagged_in}
use Rattle.nl_meta_running.specs.Running.{running_on}
use Rattle.nl_journal_commit.specs.Standing.{PreservesGraph}

-- the pointers of the running metadata, each with its tag
abbrev pub running_holders : {D : Type 0} → Ghosts D → D → Pages → List (Tag × Pointer)
running_holders g s pages = tagged_in (g.shape s) (running_on g s pages)

-- The holding is that of the device and the metadata.
pub record IsHoldingOf {D : Type 0} (g : Ghosts D) (s : D) (pages : Pages) (v : Holding) : Type 0 where
  pub names : v.names ≡ g.names s
  pub running : v.running ≡ running_holders g s pages

-- Where the metadata stands on and no name changes, the same pages are held, and what is committed leads.
abbrev pub HoldersArePreserved : {D : Type 0} → Ghosts D → Type 0
HoldersArePreserved {D} g =
    (s t : D) (q : Progress) (pages now : Pages) (v : Holding) → IsHoldingOf g s pages v → g.shape t ≡ g.shape s
    → SameTables (g.names s) (g.names t) → PreservesGraph g s pages t q now
    → PreservesHolding v (record v { names = g.names t; running = running_holders g t now })
