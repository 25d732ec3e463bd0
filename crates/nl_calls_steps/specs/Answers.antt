-- How a part of a call on a core ends early.
use Rattle.std.specs.Prelude.{◌≢◌, ◌⊎◌, ⊤, Option, Some, None}
use Rattle.nl_field.specs.CrashStates.{Rose}
use Rattle.nl_iface.specs.declared.counts.Counts.{Ghosts}
use Rattle.nl_meta_running.specs.declared.answer.Stop.{Stop}
use Rattle.nl_meta_running.specs.declared.answer.Stop.TheVariants as stop
use Rattle.nl_core.specs.declared.state.Core.{Core}

-- A fault comes only where a count of failures rose, and a page is lost only with another number found, never where the medium tells what
-- it stores.
abbrev pub EndsEarly : {D : Type 0} → Ghosts D → Core D → Core D → Option Stop → Type 0
EndsEarly g old new None = ⊤
EndsEarly g old new (Some stop.Fault) =
    Rose (g.read_faults old.device) (g.read_faults new.device) ⊎ Rose (g.write_faults old.device) (g.write_faults new.device)
EndsEarly g old new (Some (stop.Lost w f)) = (f ≢ w) × (g.tells → ⊥)
