-- What a check answers.
use Rattle.std.specs.Prelude.{◌≡◌, ◌≢◌, ◌↔◌, ⊤, ℕ, true, List, Option, Some, None, is_none}
use Rattle.nl_field.specs.FindingBits.{bits_of, has_finding}
use Rattle.nl_field.specs.Page.{Image}
use Rattle.nl_field.specs.declared.findings.Findings.{Findings}
use Rattle.nl_field.specs.declared.place.Place.{Place}
use Rattle.nl_field.specs.declared.place.What.{What}
use Rattle.nl_field.specs.declared.seen.Seen.{Seen}
use Rattle.nl_field.specs.declared.shape.Shape.{Shape}
use Rattle.nl_field.specs.declared.super_page.SuperRec.{SuperRec}
use Rattle.nl_meta.specs.Committed.{VirtualMap, committed_of}
use Rattle.nl_meta.specs.Nodes.{super_of_pages}
use Rattle.nl_meta.specs.Walk.{AreFindings, fault_in, phase_fault, walk}
use Rattle.nl_check.specs.Told.{TellsFaults}
use Rattle.nl_check.specs.declared.check.Checked.{Checked}
use Rattle.nl_check.specs.declared.check.Checked.TheVariants.{Found, Blank, Fault, Memory}

-- what holds of the findings and the count of a check that found anything out
abbrev pub IfFound : Checked → (Findings → ℕ → Type 0) → Type 0
IfFound (Found bits count) P = P bits count
IfFound Blank P = ⊤
IfFound Fault P = ⊤
IfFound Memory P = ⊤

-- The super page tells this count of calls.
abbrev pub CountsCalls : VirtualMap → ℕ → Type 0
CountsCalls pages count = (rec : SuperRec) × (super_of_pages pages ≡ Some rec) × (rec.count ≡ count)

-- What a check finds of an image: the bit of each phase is set exactly where the phase has a fault, but none after `super` or `inode`; so
-- that of the walk's first fault is always, and none exactly where a walk finds no fault. Of a sound image it tells the count of calls, and
-- else 0.
pub record Checks (image : Image) (bits : Findings) (count : ℕ) : Type 0 where
  pub each : TellsFaults (phase_fault image) bits
  pub findings : AreFindings image (has_finding bits)
  pub empty : (bits_of bits ≡ 0) ↔ (walk image ≡ None)
  pub sound : walk image ≡ None → CountsCalls (committed_of image) count
  pub damaged : (place : Place) → walk image ≡ Some place → count ≡ 0

-- ---- over pages and a list of a scan

abbrev pub count_in : Option SuperRec → ℕ
count_in None = 0
count_in (Some rec) = rec.count

-- Each phase that can be judged is told, and no bit is set where none has a fault.
pub record Judges (fault : What → Option ℕ) (bits : Findings) : Type 0 where
  pub each : TellsFaults fault bits
  pub none : ((what : What) → is_none (fault what) ≡ true) → bits_of bits ≡ 0

-- What a check finds of pages, beside the list of a scan: the count is that of the super page where there is no finding, and else 0.
pub record ChecksOver (shape : Shape) (pages : VirtualMap) (seen : List Seen) (bits : Findings) (count : ℕ) : Type 0 where
  pub judges : Judges (fault_in shape pages seen) bits
  pub sound : bits_of bits ≡ 0 → count ≡ count_in (super_of_pages pages)
  pub damaged : bits_of bits ≢ 0 → count ≡ 0

abbrev pub IsCheckFault : Checked → Type 0
IsCheckFault (Found bits count) = ⊥
IsCheckFault Blank = ⊥
IsCheckFault Fault = ⊤
IsCheckFault Memory = ⊥
