-- Which callback cannot be handled, and what a call answers then.
use Rattle.std.specs.Prelude.{Option, Some, None}
use Rattle.nl_handler.specs.Handling.{CannotBeDirty, IsElsewhere}
use Rattle.nl_iface.specs.declared.Callback.{Callback}
use Rattle.nl_iface.specs.declared.counts.Counts.{Ghosts}
use Rattle.nl_meta_running.specs.declared.answer.Stop.{Stop}
use Rattle.nl_meta_running.specs.declared.answer.Stop.TheVariants as stop
use Rattle.nl_core_callbacks.specs.Handled.{Volume, running_of}
use Rattle.nl_core_callbacks.specs.declared.draining.Drained.{Drained}
use Rattle.nl_core_callbacks.specs.declared.draining.Drained.TheVariants as drained

-- The metadata has the pointer of the callback, in a page that cannot be made dirty. No page in flight has it, and none that awaits its
-- free.
pub record IsBlocked {D : Type 0} (g : Ghosts D) (v : Volume D) (c : Callback) : Type 0 where
  pub nowhere : IsElsewhere c.stamp v.flight v.freeing → ⊥
  pub full : CannotBeDirty (g.shape v.device) (running_of g v) v.pages c.tag c.stamp

-- what ended the handling early
abbrev pub drained_stop : Drained → Option Stop
drained_stop drained.Done = None
drained_stop drained.NoRoom = None
drained_stop drained.Fault = Some stop.Fault
drained_stop (drained.Lost w f) = Some (stop.Lost w f)
