-- The bits of a check's findings.
use Rattle.std.specs.Prelude.{ℕ, ◌==◌, Bool}
use Rattle.std.specs.Int.RustNames.{bit_and}
use Rattle.nl_field.specs.declared.findings.Findings.{Findings}
use Rattle.nl_field.specs.declared.place.What.{What}
use Rattle.nl_field.specs.declared.place.What.TheVariants.{Super, Stamp, Inode, Pages, Entry, Pointer, Names, Charges, Crowded}

-- the bit of a finding: the lowest for the first phase
abbrev pub bit_of : What → ℕ
bit_of Super = 1
bit_of Stamp = 2
bit_of Inode = 4
bit_of Pages = 8
bit_of Entry = 16
bit_of Pointer = 32
bit_of Names = 64
bit_of Charges = 128
bit_of Crowded = 256

-- the bits that are set, as a number
abbrev pub bits_of : Findings → ℕ
bits_of findings = findings.0

-- the bit of this finding is set
abbrev pub has_finding : Findings → What → Bool
has_finding findings what = bit_and (bits_of findings) (bit_of what) == bit_of what
