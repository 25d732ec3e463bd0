use Rattle.std.proofs.Common.{◌≡◌, true, take}
use Rattle.std.specs.List.{list_all}
use Rattle.nl_meta.specs.Nodes.{is_physical_name}
use Rattle.nl_recover.proofs.nodes.are_physical.Given as goal

abbrev pub invariant-loop-pointer : goal.invariant-loop-pointer
invariant-loop-pointer l = list_all (is_physical_name l.shape) (take l.pointer-index l.pointers) ≡ true
