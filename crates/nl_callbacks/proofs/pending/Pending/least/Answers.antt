use Rattle.std.proofs.Common.{arith}
use Rattle.nl_callbacks.proofs.PendingProofs.{least_least, least_none, least_some}
use Rattle.nl_callbacks.proofs.pending.Pending.least.Goals as goal

pub returns-then-len-eq0-clause-none : goal.returns-then-len-eq0-clause-none
returns-then-len-eq0-clause-none c = rw (← c.self.view_is) (λ number waits. least_none c.self.inside.entries.items c.self.inside.names.items c.self.inside.waiting.items c.self.inside.done.items number c.self.invariant.kept (omega (arith, c.self.inside.waiting.ok)) waits)

pub returns-clause-some : goal.returns-clause-some
returns-clause-some c = rw (← c.self.view_is) (least_some c.self.inside.entries.items c.self.inside.names.items c.self.inside.waiting.items c.self.inside.done.items c.index-link.result.now c.self.invariant.kept (omega (arith, c.self.inside.waiting.ok)) c.index-link.ensures)

pub returns-clause-least : goal.returns-clause-least
returns-clause-least c = rw (← c.self.view_is) (λ other waits. least_least c.self.inside.entries.items c.self.inside.names.items c.self.inside.waiting.items c.self.inside.done.items c.index-link.result.now other c.self.invariant.kept (omega (arith, c.self.inside.waiting.ok)) c.index-link.ensures waits)
