-- What the change of one pointer of one file means for those that hold live pages.
use Rattle.std.specs.Prelude.{◌≡◌, ◌⊎◌, ℕ, ◌+◌, List, length}
use Rattle.nl_field.specs.Members.{Has}
use Rattle.nl_field.specs.declared.pointer.Pointer.{Pointer}
use Rattle.nl_field.specs.declared.pointer.Tag.{Tag}
use Rattle.nl_iface.specs.Holders.{tagged, times}
use Rattle.nl_meta.specs.PointerLists.{OneChanges, shown}

-- One list has the second pointer in place of the first: by how many those of a write sequence number changed, which are new, which are
-- gone, and by how many there are more.
pub record HoldersChange (tag : Tag) (p q : Pointer) (old new : List (Tag × Pointer)) : Type 0 where
  pub count : (s : ℕ) → times tagged s new + times tagged s (shown tag p) ≡ times tagged s old + times tagged s (shown tag q)
  pub only : (x : Tag × Pointer) → Has new x → Has old x ⊎ Has (shown tag q) x
  pub kept : (x : Tag × Pointer) → Has old x → Has new x ⊎ Has (shown tag p) x
  pub size : length new + length (shown tag p) ≡ length old + length (shown tag q)

abbrev pub OneChangesHolders : Type 0
OneChangesHolders =
    (tag : Tag) (p q : Pointer) (old new : List (Tag × Pointer)) → OneChanges tag p q old new → HoldersChange tag p q old new
