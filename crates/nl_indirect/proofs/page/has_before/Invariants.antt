use Rattle.std.proofs.Common.{◌≡◌, ◌<◌, ℕ, true}
use Rattle.nl_field.specs.Pointers.{is_none_pointer}
use Rattle.nl_indirect.specs.Ranges.{pointer_in}
use Rattle.nl_indirect.proofs.page.has_before.Given as goal

abbrev pub invariant-loop-i : goal.invariant-loop-i
invariant-loop-i l = (j : ℕ) → j < l.i → is_none_pointer (pointer_in l.page.main j) ≡ true
