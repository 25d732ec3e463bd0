-- What a stop leaves of the pages of the operation that it cuts short.
use Rattle.std.specs.Prelude.{◌≡◌, ◌⊎◌, ℕ, ◌-◌, ◌/◌, ◌%◌, ◌^◌, ◌<◌, ◌≤◌, zero, suc}
use Rattle.nl_field.specs.Page.{Page, uncorrectable, Image, page_at}
use Rattle.nl_nand.specs.Nand.{SameImageShape}
use Rattle.nl_nand.specs.declared.stop.Cut.{Cut}
use Rattle.nl_nand.specs.declared.stop.Cut.TheVariants as cut
use Rattle.nl_nand.specs.declared.stop.Outcome.{Outcome}
use Rattle.nl_nand.specs.declared.stop.Outcome.TheVariants as outcome

abbrev pub outcome_of_digit : ℕ → Outcome
outcome_of_digit zero = outcome.Stays
outcome_of_digit (suc zero) = outcome.Finished
outcome_of_digit (suc (suc _)) = outcome.Lost

-- what becomes of the page at a place of the range
abbrev pub outcome_of : Cut → ℕ → Outcome
outcome_of cut.Before at = outcome.Stays
outcome_of cut.After at = outcome.Finished
outcome_of cut.Spoilt at = outcome.Lost
outcome_of (cut.Mixed number) at = outcome_of_digit (number / 3 ^ (at % 40) % 3)

abbrev pub page_after : Outcome → Page → Page → Page
page_after outcome.Stays value old = old
page_after outcome.Finished value old = value
page_after outcome.Lost value old = uncorrectable

-- an operation that a stop cut short: its range, the value that it gives to each page of it, and the cut
pub record CutShort : Type 0 where
  pub low : ℕ
  pub high : ℕ
  pub value : Page
  pub how : Cut

-- the image that the stop leaves of the old one
pub record IsCrashImage (stopped : CutShort) (old new : Image) : Type 0 where
  pub shape : SameImageShape old new
  pub inside : (p : ℕ) → stopped.low ≤ p → p < stopped.high
      → page_at new p ≡ page_after (outcome_of stopped.how (p - stopped.low)) stopped.value (page_at old p)
  pub outside : (p : ℕ) → (p < stopped.low) ⊎ (stopped.high ≤ p) → page_at new p ≡ page_at old p
