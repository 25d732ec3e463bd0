-- Once each callback is handled and acknowledged, none is pending.
use Rattle.std.proofs.Common.{refl}
use Rattle.nl_core_callbacks.specs.Handled.{AllHandled}
use Rattle.nl_iface.specs.Names.{Has, Names}
use Rattle.nl_iface.specs.declared.Callback.{Callback}
use Rattle.nl_core.specs.Calls.{Acknowledged}

-- what is pending after that was unhandled
pub none_pending : (s t : Names) → AllHandled s → Acknowledged s t → (c : Callback) → Has t.pending c → ⊥
none_pending s t all a c has = let k = a.pending c has in all c.number (c, k.0, refl, k.1)
