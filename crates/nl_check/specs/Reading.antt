-- What it means that pages of a device become resident, those of the journal's addresses among them.
use Rattle.std.specs.Prelude.{◌≡◌, ◌⊎◌, ⊤, ℕ, List, length, Option, Some, None}
use Rattle.nl_meta.specs.Committed.{VirtualMap}
use Rattle.nl_meta.specs.Pages.{Pages, page_of}
use Rattle.nl_meta.specs.Running.{running_over}
use Rattle.nl_check.specs.declared.reading.Fill.{Fill}
use Rattle.nl_check.specs.declared.reading.Fill.TheVariants as fill
use Rattle.nl_check.specs.declared.reading.ReadAll.{ReadAll}
use Rattle.nl_check.specs.declared.reading.ReadAll.TheVariants as read

-- Pages of a device that has these bytes were made resident.
pub record MakesResident (tells : Type 0) (stored : VirtualMap) (old new : Pages) : Type 0 where
  pub count : length new.running ≡ length old.running
  pub each : (u : ℕ) → (page_of new u ≡ page_of old u) ⊎ (tells → page_of new u ≡ running_over stored old u)

-- What the address has is resident, where it has anything.
abbrev pub IsResident : Type 0 → VirtualMap → Pages → Pages → ℕ → Type 0
IsResident tells stored old new u = tells → page_of new u ≡ running_over stored old u

-- What reading a page into a buffer finds: the bytes of the address, or none.
abbrev pub ReadsInto : Option (List ℕ) → List ℕ → Fill → Type 0
ReadsInto stored main fill.Ready = stored ≡ Some main
ReadsInto stored main fill.Absent = stored ≡ None
ReadsInto stored main fill.Fault = ⊤

-- what holds of the pages, where they were read
abbrev pub IfAllRead : ReadAll → (Pages → Type 0) → Type 0
IfAllRead (read.Done p) P = P p
IfAllRead read.Fault P = ⊤
IfAllRead read.Memory P = ⊤

abbrev pub IsNotRead : ReadAll → Type 0
IsNotRead (read.Done p) = ⊥
IsNotRead read.Fault = ⊤
IsNotRead read.Memory = ⊥
