-- What it means that a page index of a file gets a pointer.
use Rattle.std.specs.Prelude.{◌≡◌, ◌↔◌, ℕ, false, true, MatchOption, Option, Some, IsSome}
use Rattle.nl_field.specs.declared.inode.InodeRec.{InodeRec}
use Rattle.nl_field.specs.declared.pointer.Pointer.{Pointer}
use Rattle.nl_meta.specs.Pages.{Pages}
use Rattle.nl_inode.specs.Nodes.{AddressBecomes, IsLeastAddress, Spaces, is_free_address}
use Rattle.nl_indirect.specs.Storing.{BeginsRange, IsForNew, Stores}
use Rattle.nl_indirect.specs.declared.answer.Stored.TheVariants.{Done}

-- Each free address may become a new page of the file.
abbrev pub FreeAreNewToFile : Spaces → Pages → InodeRec → Type 0
FreeAreNewToFile s p rec = (a : ℕ) → is_free_address s a ≡ true → IsForNew p rec a

-- some address is free
abbrev pub HasFree : Spaces → Type 0
HasFree s = (a : ℕ) × (is_free_address s a ≡ true)

-- the least free address is taken, where one is
abbrev pub TakesLeastAddress : Option ℕ → Spaces → Spaces → Type 0
TakesLeastAddress fresh s t = MatchOption fresh (t ≡ s) (λ a. IsLeastAddress a s × AddressBecomes a false s t)

-- The index has the pointer. Where its range had none, it has a new page at the least free address, which is taken.
pub record Installs (index : ℕ) (to : Pointer) (was is : InodeRec) (old new : Pages) (s t : Spaces) : Type 0 where
  pub fresh : Option ℕ
  pub begins : IsSome fresh ↔ BeginsRange was index (Some to)
  pub taken : TakesLeastAddress fresh s t
  pub stores : Stores index to fresh was is old new Done
