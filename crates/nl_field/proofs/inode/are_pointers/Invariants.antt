use Rattle.std.proofs.Common.{◌≡◌, true, take}
use Rattle.std.specs.List.{list_all}
use Rattle.nl_field.specs.Pointers.{is_pointer}
use Rattle.nl_field.proofs.inode.are_pointers.Given as goal

abbrev pub invariant-loop-pointer : goal.invariant-loop-pointer
invariant-loop-pointer l = list_all is_pointer (take l.pointer-index l.pointers) ≡ true
