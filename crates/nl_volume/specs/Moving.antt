-- What a device tells of the pages that it moves, out of all that it tells.
use Rattle.std.specs.Prelude.{ℕ, Option}
use Rattle.nl_iface.specs.declared.moving_pages.MovingPages.{Ghosts as Moving}

abbrev pub moving : {D : Type 0} → (D → Option ℕ) → (D → ℕ → Type 0) → (D → ℕ → Type 0) → (D → ℕ → Type 0) → Moving D
moving victim most_dead coldest blank = record { victim = victim; most_dead = most_dead; coldest = coldest; blank = blank }
