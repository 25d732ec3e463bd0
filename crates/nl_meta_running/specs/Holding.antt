-- A page that a call needs at once.
use Rattle.std.specs.Prelude.{◌≡◌, ℕ, IsSome}
use Rattle.nl_meta.specs.Pages.{Pages, page_of, touched}

-- The address is resident and touched, and each page stays that is resident.
pub record HoldsPage (v : ℕ) (old new : Pages) : Type 0 where
  pub there : IsSome (page_of new v)
  pub recent : new.recent ≡ touched v old.recent
  pub stays : (u : ℕ) → IsSome (page_of old u) → IsSome (page_of new u)
