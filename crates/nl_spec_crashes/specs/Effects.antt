-- When a step of a file call is the effect of a call.
use Rattle.std.specs.Prelude.{Option}
use Rattle.nl_tree.specs.declared.call.Call.{Call}
use Rattle.nl_tree.specs.declared.reply.FaultReply.{FaultReply}
use Rattle.nl_iface.specs.Device.{IsVolumeShape}
use Rattle.nl_iface.specs.declared.counts.Counts.{Ghosts}
use Rattle.nl_core.specs.Calls.{counted}
use Rattle.nl_core.specs.Core.{IsCore}
use Rattle.nl_core.specs.declared.state.Core.{Core}
use Rattle.nl_calls_steps.specs.Steps.{Steps}
use Rattle.nl_calls_steps.specs.Calls.{MakesTree}
use Rattle.nl_spec_crashes.specs.Laws.{TakesEffect}

-- A step whose pages stand for that tree, and that is counted, is the effect of the call.
abbrev pub StepTakesEffect : {D : Type 0} → Ghosts D → Type 0
StepTakesEffect {D} g =
    (old new : Core D) (x : Call × Option FaultReply) → IsVolumeShape (g.shape old.device) → IsCore g old → Steps g old new
    → MakesTree g old new x → TakesEffect g old (counted new) x
