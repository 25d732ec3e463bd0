-- The record of a node that was never used.
use Rattle.std.specs.Prelude.{replicate}
use Rattle.nl_field.specs.Pointers.{no_pointer}
use Rattle.nl_field.specs.declared.inode.InodeRec.{InodeRec}
use Rattle.nl_field.specs.declared.inode.Kind.TheVariants.{Unused}

abbrev pub unused_record : InodeRec
unused_record = record { kind = Unused; generation = 0; size = 0; direct = replicate 8 no_pointer; addresses = replicate 16 0 }
