-- The file of the tests: at most one of its ranges has a page, which is that of address 71.
use Rattle.std.specs.Prelude.{◌≡◌, ◌≢◌, ℕ, true, length, slice_index}
use Rattle.nl_field.specs.declared.inode.InodeRec.{InodeRec}
use Rattle.nl_meta.specs.Nodes.{slots_of}
use Rattle.nl_meta.specs.Pages.{Pages, has_room, page_of}
use Rattle.nl_indirect.specs.Ranges.{HasPointers, IsFileRecord}

pub record IsTested (range : ℕ) (rec : InodeRec) (p : Pages) : Type 0 where
  pub file : IsFileRecord rec
  pub others : (r : ℕ) → r ≢ range → slice_index (slots_of rec) r ≡ 0
  pub page : slice_index (slots_of rec) range ≢ 0 → (slice_index (slots_of rec) range ≡ 71) × HasPointers (page_of p) 71
  pub room : has_room p 71 ≡ true
  pub count : length p.running ≡ 103
