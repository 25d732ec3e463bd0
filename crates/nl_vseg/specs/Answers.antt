-- When the calls answer what.
use Rattle.std.specs.Prelude.{◌≡◌, ◌⊎◌, ℕ, ⊤, List, Option, Some, None}
use Rattle.nl_field.specs.Page.{PageBytes, Page, written}
use Rattle.nl_field.specs.declared.answers.VirtualRead.{VirtualRead}
use Rattle.nl_field.specs.declared.answers.VirtualRead.TheVariants as read
use Rattle.nl_field.specs.declared.answers.VirtualWrite.{VirtualWrite}
use Rattle.nl_field.specs.declared.answers.VirtualWrite.TheVariants as write
use Rattle.nl_vseg.specs.Pages.{stamp_found, stamp_at}
use Rattle.nl_vseg.specs.Places.{stamp_for}
use Rattle.nl_vseg.specs.declared.place.Place.{Place}

-- what the read of a page answers that is to hold this number, and what the buffer then has
abbrev pub ReadsPage : Page → ℕ → PageBytes → VirtualRead → Type 0
ReadsPage page wanted buf read.Done = page ≡ written buf
ReadsPage page wanted buf read.Unmapped = ⊥
ReadsPage page wanted buf (read.Lost w f) = stamp_at page ≡ f
ReadsPage page wanted buf read.Fault = ⊤

-- What the read of an address answers that has this number: Unmapped exactly where it has none, and Lost with the number that
-- is wanted and another one that was found.
abbrev pub ReadsStampInto : Option ℕ → PageBytes → VirtualRead → Type 0
ReadsStampInto stamp buf read.Done = stamp ≡ Some (stamp_found buf)
ReadsStampInto stamp buf read.Unmapped = stamp ≡ None
ReadsStampInto stamp buf (read.Lost w f) = (stamp ≡ Some w) × (f ≡ w → ⊥)
ReadsStampInto stamp buf read.Fault = stamp ≡ None → ⊥

-- what a lost read tells to have found: the number that the spare bytes which were read spell, or 0
abbrev pub TellsStampFound : PageBytes → VirtualRead → Type 0
TellsStampFound buf read.Done = ⊤
TellsStampFound buf read.Unmapped = ⊤
TellsStampFound buf (read.Lost w f) = (f ≡ 0) ⊎ (f ≡ stamp_found buf)
TellsStampFound buf read.Fault = ⊤

-- What the read of an address answers that has this value: the value, and never Lost.
abbrev pub ReadsValueInto : Option (ℕ × List ℕ) → PageBytes → VirtualRead → Type 0
ReadsValueInto value buf read.Done = value ≡ Some (stamp_found buf, buf.main)
ReadsValueInto value buf read.Unmapped = value ≡ None
ReadsValueInto value buf (read.Lost w f) = ⊥
ReadsValueInto value buf read.Fault = ⊤

-- Lost tells the number of an address, and another one that was found.
abbrev pub LosesPlaceStamp : List (Option Place) → VirtualWrite → Type 0
LosesPlaceStamp places write.Done = ⊤
LosesPlaceStamp places (write.Lost w f) = ((v : ℕ) × (stamp_for places v ≡ Some w)) × (f ≡ w → ⊥)
LosesPlaceStamp places write.Fault = ⊤

abbrev pub IsLostWrite : VirtualWrite → Type 0
IsLostWrite write.Done = ⊥
IsLostWrite (write.Lost w f) = ⊤
IsLostWrite write.Fault = ⊥
