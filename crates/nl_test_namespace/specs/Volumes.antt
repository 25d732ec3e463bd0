-- A volume over a device.
use Rattle.std.specs.Prelude.{◌≡◌, ℕ, Option, None}
use Rattle.nl_field.specs.Numbers.{ShapeBounds}
use Rattle.nl_field.specs.declared.shape.Shape.{Shape}
use Rattle.nl_iface.specs.declared.counts.Counts.{Ghosts}
use Rattle.nl_inode.specs.Nodes.{Spaces}
use Rattle.nl_meta.specs.Pages.{Pages}
use Rattle.nl_namespace.specs.Changing.{FreeFits}
use Rattle.nl_namespace.specs.declared.answer.Change.{Change}
use Rattle.nl_namespace.specs.declared.answer.Change.TheVariants as change
use Rattle.nl_meta_running.specs.Running.{RunningIsRight}

-- the device is of these numbers, and its addresses can be written
pub record AddressesCanBeWritten {D : Type 0} (g : Ghosts D) (s : D) (shape : Shape) : Type 0 where
  pub formed : g.formed s
  pub numbers : g.shape s ≡ shape
  pub bounds : ShapeBounds shape
  pub spare : g.keeps_spare s

-- Names can be looked up and changed in the volume.
pub record IsOpen {D : Type 0} (g : Ghosts D) (s : D) (p : Pages) (free : Spaces) : Type 0 where
  pub runs : RunningIsRight g s p
  pub fits : FreeFits g s p free

-- the node that lost its name
abbrev pub gone_of : Change → Option ℕ
gone_of (change.Changed gone) = gone
gone_of (change.No refusal) = None
gone_of change.Fault = None
gone_of (change.Lost w f) = None
