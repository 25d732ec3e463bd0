-- A journal that writes a transaction, and a pointer of a file.
use Rattle.nl_field.specs.declared.pointer.Pointer.{Pointer}
use Rattle.nl_journal.specs.Progress.{Progress}
use Rattle.nl_journal.specs.declared.answers.Phase.TheVariants.{Image}

-- transactions up to number 3 count, and the first image of number 4 is to be written
abbrev pub fourth_frozen : Progress
fourth_frozen = record { number = 3; phase = Image 0 }

abbrev pub some_pointer : Pointer
some_pointer = record { name = 40; stamp = 7 }
