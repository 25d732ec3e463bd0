-- What ends a call early that reads pages.
use Rattle.std.specs.Prelude.{◌≡◌, ℕ, ⊤, Option, Some, None, Result, Ok, Err}
use Rattle.nl_iface.specs.Counting.{FailuresCounted}
use Rattle.nl_iface.specs.declared.counts.Counts.{Ghosts}
use Rattle.nl_meta_running.specs.declared.answer.Stop.{Stop}
use Rattle.nl_meta_running.specs.declared.answer.Stop.TheVariants as stop

abbrev pub stop_of : {X : Type 0} → Result X Stop → Option Stop
stop_of (Ok x) = None
stop_of (Err s) = Some s

-- A call without fault had no failed read, and one with a fault had one. Where a page was lost, its address was written under the
-- wanted sequence number, and the device does not tell what it stores.
abbrev pub ReadsExplainStop : {D : Type 0} → Ghosts D → D → D → Option Stop → Type 0
ReadsExplainStop g old new None = g.read_faults new ≡ g.read_faults old
ReadsExplainStop g old new (Some stop.Fault) = FailuresCounted ⊤ (g.read_faults old) (g.read_faults new) ⊤
ReadsExplainStop g old new (Some (stop.Lost w f)) =
    (g.read_faults new ≡ g.read_faults old) × ((v : ℕ) × (g.stamps old v ≡ Some w)) × (f ≡ w → ⊥) × (g.tells → ⊥)
