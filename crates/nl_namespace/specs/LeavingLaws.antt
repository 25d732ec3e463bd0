-- What every answer of a call that changes names leaves of the metadata around the names.
use Rattle.std.specs.Prelude.{◌≡◌}
use Rattle.nl_iface.specs.Device.{IsVolumeShape}
use Rattle.nl_iface.specs.declared.counts.Counts.{Ghosts}
use Rattle.nl_inode.specs.Nodes.{Spaces}
use Rattle.nl_meta.specs.Pages.{Pages}
use Rattle.nl_meta.specs.PointerLists.{tagged_in}
use Rattle.nl_meta.specs.Steps.{ChangesRunningPages}
use Rattle.nl_meta_running.specs.Running.{running_on}
use Rattle.nl_namespace.specs.Changing.{ChangeLeaves}
use Rattle.nl_namespace.specs.declared.answer.Change.{Change}

-- No page of those in memory is lost, and the pointers of all files are what they were.
pub record KeepsAround {D : Type 0} (g : Ghosts D) (s : D) (p : Pages) (t : D) (q : Pages) : Type 0 where
  pub pages : ChangesRunningPages p q
  pub pointers : tagged_in (g.shape t) (running_on g t q) ≡ tagged_in (g.shape s) (running_on g s p)

abbrev pub NamesKeepAround : {D : Type 0} → Ghosts D → Type 0
NamesKeepAround {D} g =
    (s : D) (p : Pages) (free : Spaces) (t : D) (q : Pages) (after : Spaces) (answer : Change) → IsVolumeShape (g.shape s)
    → ChangeLeaves g s p free t q after answer → KeepsAround g s p t q
