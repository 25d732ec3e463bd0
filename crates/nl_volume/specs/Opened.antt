-- A volume that opened on a medium, or why none did.
use Rattle.std.specs.Prelude.{◌≡◌, ◌≢◌, ⊤, ℕ, ◌+◌, ◌<◌, ◌≤◌, ◌^◌, [], Some}
use Rattle.nl_field.specs.CrashStates.{Rose}
use Rattle.nl_field.specs.Medium.{readable_pages, shape_of_image}
use Rattle.nl_field.specs.Page.{Image}
use Rattle.nl_field.specs.Scan.{next_stamp_of}
use Rattle.nl_field.specs.Virtual.{virtual_bytes}
use Rattle.nl_tree.specs.Tree.{Tree}
use Rattle.nl_iface.specs.declared.counts.Counts.{Ghosts}
use Rattle.nl_meta.specs.Committed.{next_number}
use Rattle.nl_meta.specs.Walk.{walk}
use Rattle.nl_core.specs.Core.{begun_of}
use Rattle.nl_core.specs.declared.state.Core.{Core}
use Rattle.nl_spec_image.specs.Stands.{IsConsistentImage, ConsistentAs}
use Rattle.nl_volume.specs.declared.opened.NotOpened.{NotOpened}
use Rattle.nl_volume.specs.declared.opened.NotOpened.TheVariants.{Blank, Damaged, Fault, Memory}

-- The volume opened as what the image is: with this tree, as which it is sound, and the numbers that it tells.
pub record VolumeOpensAs {D : Type 0} (g : Ghosts D) (image : Image) (v : Core D) (tree : Tree) : Type 0 where
  pub sound : ConsistentAs image v.count tree
  pub shape : g.shape v.device ≡ shape_of_image image
  pub next_stamp : g.next_stamp v.device ≡ next_stamp_of image

-- Where the medium tells its contents, the volume opened as what the image is, with this tree, and its next transaction has the number that
-- the image tells. Over any medium its count of calls and its next write sequence number are no more than pages can spell.
pub record OpensOn {D : Type 0} (g : Ghosts D) (image : Image) (v : Core D) : Type 0 where
  pub tree : Tree
  pub opens : g.tells → VolumeOpensAs g image v tree
  pub number : g.tells → begun_of v + 1 ≡ next_number (shape_of_image image) (virtual_bytes image)
  pub few : v.count < 2 ^ 63
  pub spelled : (0 < g.next_stamp v.device) × (g.next_stamp v.device ≤ 2 ^ 63)

-- the medium that came back
abbrev pub medium_in : {M : Type 0} → NotOpened M → M
medium_in (Blank m) = m
medium_in (Damaged m place) = m
medium_in (Fault m) = m
medium_in (Memory m) = m

-- No page is readable; a page is and the image is not sound, with this first place at fault; a read failed; or memory was wanting.
abbrev pub IsReason : {M : Type 0} → Type 0 → (M → Image) → (M → ℕ) → M → NotOpened M → Type 0
IsReason tells contents read_faults before (Blank m) = tells → readable_pages (contents before) ≡ []
IsReason tells contents read_faults before (Damaged m place) =
    tells → (readable_pages (contents before) ≢ []) × (walk (contents before) ≡ Some place) × (IsConsistentImage (contents before) → ⊥)
IsReason tells contents read_faults before (Fault m) = Rose (read_faults before) (read_faults m)
IsReason tells contents read_faults before (Memory m) = ⊤
