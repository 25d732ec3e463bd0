-- A device stays firm through each step, and through a unit or a whole commit in which no write failed.
use Rattle.std.specs.Prelude.{◌≡◌, ◌⊎◌, ℕ, List}
use Rattle.nl_field.specs.declared.answers.Named.{Named}
use Rattle.nl_field.specs.declared.answers.VirtualWrite.{VirtualWrite}
use Rattle.nl_field.specs.declared.answers.VirtualWrite.TheVariants as write
use Rattle.nl_field.specs.declared.pointer.Tag.{Tag}
use Rattle.nl_iface.specs.Calls.{KeepsMedium, KeepsVirtual, LeavesNew, NoWriteFailed, StoresPages, stored}
use Rattle.nl_iface.specs.Stored.{NamedAgree, SameVirtual}
use Rattle.nl_iface.specs.declared.counts.Counts.{Ghosts}
use Rattle.nl_journal.specs.Left.{CommitWrites, UnitWrites}
use Rattle.nl_journal.specs.Passes.{ChangesAddressesOnly}
use Rattle.nl_journal.specs.Progress.{Progress}
use Rattle.nl_meta.specs.Pages.{Pages}
use Rattle.nl_spec_commits.specs.Standing.{IsFirm}

-- What is stored of the addresses stays, and pages of one stamp agree where they did: so it is where pages are moved, and a victim is
-- erased.
abbrev pub StoredKeepsFirm : {D : Type 0} → Ghosts D → Type 0
StoredKeepsFirm {D} g =
    (s t : D) → g.tells → IsFirm g s → KeepsVirtual g s t → SameVirtual (stored g s) (stored g t)
    → (NamedAgree (stored g s) → NamedAgree (stored g t)) → StoresPages g t → IsFirm g t

-- The medium is as it was: so it is where it is only read, where pages are freed, and callbacks handled or acknowledged.
abbrev pub MediumKeepsFirm : {D : Type 0} → Ghosts D → Type 0
MediumKeepsFirm {D} g = (s t : D) → g.tells → IsFirm g s → KeepsMedium g s t → StoresPages g t → IsFirm g t

-- A page is programmed under a new name, or its program failed: no other page has its stamp.
abbrev pub ProgramKeepsFirm : {D : Type 0} → Ghosts D → Type 0
ProgramKeepsFirm {D} g =
    (s t : D) (tag : Tag) (main : List ℕ) (answer : Named) → g.tells → IsFirm g s → KeepsVirtual g s t → LeavesNew g tag main answer s t
    → StoresPages g t → IsFirm g t

-- A commit is done, or no write failed in it.
abbrev pub CommitKeepsFirm : {D : Type 0} → Ghosts D → Type 0
CommitKeepsFirm {D} g =
    (answer : VirtualWrite) (most : ℕ) (s t : D) (p r : Progress) (pages now : Pages) → g.tells → IsFirm g s
    → CommitWrites g (answer ≡ write.Done) p r pages now s t
    → ChangesAddressesOnly g (answer ≡ write.Done) most s t → (answer ≡ write.Done) ⊎ NoWriteFailed g s t → StoresPages g t → IsFirm g t

-- A unit is done, or no write failed in it.
abbrev pub UnitKeepsFirm : {D : Type 0} → Ghosts D → Type 0
UnitKeepsFirm {D} g =
    (answer : VirtualWrite) (most : ℕ) (s t : D) (p q : Progress) (pages now : Pages) → g.tells → IsFirm g s
    → UnitWrites g (answer ≡ write.Done) p q pages now s t
    → ChangesAddressesOnly g (answer ≡ write.Done) most s t → (answer ≡ write.Done) ⊎ NoWriteFailed g s t → StoresPages g t → IsFirm g t
