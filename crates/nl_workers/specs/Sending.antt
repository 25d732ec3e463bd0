-- The cleaner's end of the queue on its way to a number.
use Rattle.std.specs.Prelude.{◌≡◌, ℕ, ◌≤◌, max}
use Rattle.nl_callbacks.specs.declared.notices.Notices.{Notices}
use Rattle.nl_workers.specs.Duties.{IsOutbox}
use Rattle.nl_workers.specs.declared.outbox.Outbox.{Outbox}

-- The cleaner's end has sent on up to this number.
pub record IsSending (notices : Notices) (posted number : ℕ) (outbox after : Outbox) : Type 0 where
  pub sends : IsOutbox notices after
  pub at : after.last ≡ number
  pub since : outbox.last ≤ number
  pub within : number ≤ max outbox.last posted
