-- What the cleaner and the handler share.
use Rattle.std.specs.Prelude.{ℕ, Option, Some, None}
use Rattle.nl_callbacks.specs.Notices.{IsTaker}
use Rattle.nl_callbacks.specs.declared.notices.Notices.{Notices}
use Rattle.nl_workers.specs.Duties.{IsOutbox}
use Rattle.nl_workers.specs.declared.kit.Passes.{Passes}

-- for how many numbers of callbacks the queue has room
pub record KitState : Type 0 where
  pub room : ℕ

-- both ends of the queue are there
abbrev pub IsKit : Notices → Option Passes → Type 0
IsKit notices None = ⊥
IsKit notices (Some passes) = IsOutbox notices passes.outbox × IsTaker notices passes.taker
