-- What the answers of calls on a file tell.
use Rattle.std.specs.Prelude.{◌≡◌, ◌≢◌, ℕ, ◌<◌, ⊤, false, slice_index, Option, Some}
use Rattle.nl_field.specs.Pointers.{is_none_pointer}
use Rattle.nl_field.specs.declared.inode.InodeRec.{InodeRec}
use Rattle.nl_field.specs.declared.pointer.Pointer.{Pointer}
use Rattle.nl_meta.specs.Committed.{VirtualMap}
use Rattle.nl_meta.specs.Nodes.{pointer_at, slots_of}
use Rattle.nl_files.specs.declared.answer.CountPages.{CountPages}
use Rattle.nl_files.specs.declared.answer.CountPages.TheVariants as counted
use Rattle.nl_files.specs.declared.answer.FileAnswer.{FileAnswer}
use Rattle.nl_files.specs.declared.answer.FileAnswer.TheVariants as answer
use Rattle.nl_files.specs.declared.answer.Looked.{Looked}
use Rattle.nl_files.specs.declared.answer.Looked.TheVariants as looked

-- the stamp of a page of pointers of the file
pub record IsPageStamp (stamps : ℕ → Option ℕ) (rec : InodeRec) (w : ℕ) : Type 0 where
  pub at : ℕ
  pub not_zero : slice_index (slots_of rec) at ≢ 0
  pub stamp : stamps (slice_index (slots_of rec) at) ≡ Some w

-- the stamp of a pointer of the file
pub record IsPointerStamp (pages : VirtualMap) (rec : InodeRec) (w : ℕ) : Type 0 where
  pub at : ℕ
  pub below : at < 4104
  pub some : is_none_pointer (pointer_at pages rec at) ≡ false
  pub stamp : (pointer_at pages rec at).stamp ≡ w

-- Lost tells a stamp that is wanted, and another one that was found.
abbrev pub LosesFile : (ℕ → Type 0) → FileAnswer → Type 0
LosesFile wanted answer.Done = ⊤
LosesFile wanted answer.Fault = ⊤
LosesFile wanted (answer.Lost w f) = wanted w × (f ≡ w → ⊥)

abbrev pub IsLostFile : FileAnswer → Type 0
IsLostFile answer.Done = ⊥
IsLostFile answer.Fault = ⊥
IsLostFile (answer.Lost w f) = ⊤

-- what holds of a count of pages that came to an end
abbrev pub IfPages : CountPages → (ℕ → Type 0) → Type 0
IfPages (counted.Pages n) P = P n
IfPages counted.Fault P = ⊤
IfPages (counted.Lost w f) P = ⊤

abbrev pub LosesCount : (ℕ → Type 0) → CountPages → Type 0
LosesCount wanted (counted.Pages n) = ⊤
LosesCount wanted counted.Fault = ⊤
LosesCount wanted (counted.Lost w f) = wanted w × (f ≡ w → ⊥)

abbrev pub IsLostCount : CountPages → Type 0
IsLostCount (counted.Pages n) = ⊥
IsLostCount counted.Fault = ⊥
IsLostCount (counted.Lost w f) = ⊤

-- what holds of what a look at a pointer found
abbrev pub IfPointerAt : Looked → (Option Pointer → Type 0) → Type 0
IfPointerAt (looked.At found) P = P found
IfPointerAt looked.Fault P = ⊤
IfPointerAt (looked.Lost w f) P = ⊤

abbrev pub LosesLook : (ℕ → Type 0) → Looked → Type 0
LosesLook wanted (looked.At found) = ⊤
LosesLook wanted looked.Fault = ⊤
LosesLook wanted (looked.Lost w f) = wanted w × (f ≡ w → ⊥)

abbrev pub IsLostLook : Looked → Type 0
IsLostLook (looked.At found) = ⊥
IsLostLook looked.Fault = ⊥
IsLostLook (looked.Lost w f) = ⊤
