-- The copies of a stamp after one more page of it.
use Rattle.std.specs.Prelude.{ℕ, ◌/◌, ◌==◌, ◌||◌, if◌then◌else◌, Option, Some, None, is_some}
use Rattle.nl_device.specs.declared.kept.copies.Copies.{Copies}

abbrev pub noted : ℕ → ℕ → Option Copies → Copies
noted size page None = record { first = page; apart = None }
noted size page (Some c) = if is_some c.apart || page / size == c.first / size then c else record { first = c.first; apart = Some page }
