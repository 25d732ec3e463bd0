-- The word that names a cause.
use Rattle.std.specs.Prelude.{ℕ, List, codes}
use Rattle.nl_script.specs.declared.why.Why.{Why}
use Rattle.nl_script.specs.declared.why.Why.TheVariants.{Size, Long, Byte, Worker, Command, Path, Number, Hex, Missing, Extra, Lines, Total}

abbrev pub cause_word : Why → List ℕ
cause_word Size = codes "size"
cause_word Long = codes "long"
cause_word Byte = codes "byte"
cause_word Worker = codes "worker"
cause_word Command = codes "command"
cause_word Path = codes "path"
cause_word Number = codes "number"
cause_word Hex = codes "hex"
cause_word Missing = codes "missing"
cause_word Extra = codes "extra"
cause_word Lines = codes "lines"
cause_word Total = codes "total"
