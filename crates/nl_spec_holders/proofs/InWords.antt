-- What the invariant says of callbacks.
use Rattle.std.proofs.Common.{◌≡◌, ℕ, ◌≤◌}
use Rattle.nl_iface.specs.Moves.{Acknowledges, IsHandledBy}
use Rattle.nl_iface.specs.Names.{Has, Names, led, told_page}
use Rattle.nl_iface.specs.declared.Callback.{Callback}
use Rattle.nl_spec_holders.specs.Holding.{Holding}
use Rattle.nl_spec_holders.proofs.Words.{Holds, IsPending, held}

-- the page of a pending callback has one holder
pub never-gone : (v : Holding) → Holds v → (c : Callback) → IsPending v.names c → 1 ≤ held v c.stamp
never-gone v f c has = f.each (led v.names c.before) (told_page c) (f.table.called c has)

-- Where all were handled by transactions that are acknowledged, none is left, and every name is its own place.
pub none-left : (upto : ℕ) (old new : Names) → Acknowledges upto old new → ((c : Callback) → IsPending old c → IsHandledBy old upto c) → (c : Callback) → IsPending new c → ⊥
none-left upto old new s all c has = let h = s.only c has in h.1 (all c h.0)
