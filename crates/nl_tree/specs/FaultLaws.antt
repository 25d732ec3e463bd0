-- What a rise of a count of faults says of the numbers of failed lines.
use Rattle.std.specs.Prelude.{◌≡◌, ◌⊎◌, ℕ, ◌<◌}
use Rattle.nl_field.specs.CrashStates.{top}
use Rattle.nl_tree.specs.Causes.{Counts, NeverFall, FaultRose, fault_sum, IsSumSince}

pub record FaultLaws : Type 0 where
  -- the sum behind a failed operation is a sum since the opening
  pub cause : (opening before now : Counts) → NeverFall opening before → NeverFall before now → FaultRose before now
      → IsSumSince opening now (fault_sum now)
  -- a sum since the opening stays one
  pub stays : (opening before now : Counts) (n : ℕ) → IsSumSince opening before n → NeverFall before now → IsSumSince opening now n
  -- below the top it is above every earlier one
  pub above : (opening before now : Counts) (n : ℕ) → IsSumSince opening before n → NeverFall before now → FaultRose before now
      → (n < fault_sum now) ⊎ (fault_sum now ≡ top)
