use Rattle.std.proofs.Common.{◌≡◌, ◌*◌, take}
use Rattle.std.specs.Prelude.{IsTrue}
use Rattle.std.specs.List.{flat_map, list_all}
use Rattle.nl_field.specs.Pointers.{pointer_bytes, fits_pointer}
use Rattle.nl_field.proofs.numbers.fill_pointers.Given as goal

abbrev pub invariant-loop-i : goal.invariant-loop-i
invariant-loop-i l = (take (16 * l.i) l.out ≡ flat_map pointer_bytes (take l.i l.from)) × IsTrue (list_all fits_pointer (take l.i l.from))
