-- How the bits of phases are gathered, one phase after the other.
use Rattle.std.specs.Prelude.{◌≡◌, ℕ, Bool, true, ◌||◌, ◌==◌, if◌then◌else◌, List, [], ◌∷◌, Option, is_none, is_some}
use Rattle.nl_field.specs.FindingBits.{bit_of, has_finding}
use Rattle.nl_field.specs.declared.findings.Findings.{Findings}
use Rattle.nl_field.specs.declared.place.What.{What}
use Rattle.nl_field.specs.declared.place.What.TheVariants.{Pages as PagesPhase, Entry, Pointer as PointerPhase, Names, Charges, Crowded}

-- the phases that are set, and this one where it has a fault
abbrev pub with_phase : (What → Bool) → What → Option ℕ → What → Bool
with_phase set phase fault what = if bit_of phase == bit_of what then set what || is_some fault else set what

abbrev pub with_phases : (What → Option ℕ) → List What → (What → Bool) → What → Bool
with_phases fault [] set = set
with_phases fault (phase ∷ phases) set = with_phases fault phases (with_phase set phase (fault phase))

-- the phases that look at pages and entries, and those that look at pointers
abbrev pub page_phases : List What
page_phases = PagesPhase ∷ Entry ∷ []

abbrev pub pointer_phases : List What
pointer_phases = PointerPhase ∷ Names ∷ Charges ∷ Crowded ∷ []

-- These are the bits that were set, and those of these phases that have a fault. So where none has, they are as before.
pub record AddsPhases (fault : What → Option ℕ) (phases : List What) (old new : Findings) : Type 0 where
  pub each : (what : What) → has_finding new what ≡ with_phases fault phases (has_finding old) what
  pub none : ((what : What) → is_none (fault what) ≡ true) → new ≡ old
