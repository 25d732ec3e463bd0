-- Which phases a check tells, of those of a walk with these faults.
use Rattle.std.specs.Prelude.{◌≡◌, ℕ, Bool, true, ◌&&◌, Option, is_none, is_some}
use Rattle.nl_field.specs.FindingBits.{has_finding}
use Rattle.nl_field.specs.declared.findings.Findings.{Findings}
use Rattle.nl_field.specs.declared.place.What.{What}
use Rattle.nl_field.specs.declared.place.What.TheVariants.{Super, Stamp, Inode, Pages as PagesPhase, Entry, Pointer as PointerPhase, Names, Charges, Crowded}

-- A phase can be judged where no phase is at fault that ends a check: `super` ends it, and so does `inode`. An address whose page is not
-- there has no bytes, and the later phases pass over it.
abbrev pub is_judged : (What → Option ℕ) → What → Bool
is_judged fault Super = true
is_judged fault Stamp = is_none (fault Super)
is_judged fault Inode = is_none (fault Super)
is_judged fault PagesPhase = is_none (fault Super) && is_none (fault Inode)
is_judged fault Entry = is_none (fault Super) && is_none (fault Inode)
is_judged fault PointerPhase = is_none (fault Super) && is_none (fault Inode)
is_judged fault Names = is_none (fault Super) && is_none (fault Inode)
is_judged fault Charges = is_none (fault Super) && is_none (fault Inode)
is_judged fault Crowded = is_none (fault Super) && is_none (fault Inode)

-- The bit of each phase is set exactly where the phase can be judged and has a fault.
abbrev pub TellsFaults : (What → Option ℕ) → Findings → Type 0
TellsFaults fault bits = (what : What) → has_finding bits what ≡ (is_judged fault what && is_some (fault what))
