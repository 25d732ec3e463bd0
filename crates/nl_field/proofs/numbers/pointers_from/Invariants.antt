use Rattle.std.proofs.Common.{◌≡◌, ◌*◌, ◌<◌, ℕ, drop, get_or}
use Rattle.nl_field.specs.Pointers.{no_pointer, pointer_fields}
use Rattle.nl_field.proofs.numbers.pointers_from.Given as goal

abbrev pub invariant-loop-i : goal.invariant-loop-i
invariant-loop-i l = (k : ℕ) → k < l.i → get_or l.into k no_pointer ≡ pointer_fields (drop (16 * k) l.bytes)
