-- What a pointer of a file is seen as.
use Rattle.nl_meta.specs.Nodes.{Held}
use Rattle.nl_recover_pointers.specs.declared.held.HeldPointer.{HeldPointer}

abbrev pub held_of : HeldPointer → Held
held_of h = record { size = h.size; tag = h.tag; pointer = h.pointer }
