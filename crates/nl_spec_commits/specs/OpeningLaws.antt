-- An image that can be opened is firm.
use Rattle.std.specs.Prelude.{◌≡◌, true}
use Rattle.nl_field.specs.Page.{Image}
use Rattle.nl_iface.specs.Calls.{StoresPages, stored}
use Rattle.nl_iface.specs.Stored.{NamedAgree, NoneFailed, stored_in}
use Rattle.nl_iface.specs.declared.counts.Counts.{Ghosts}
use Rattle.nl_meta.specs.Consistent.{Consistent}
use Rattle.nl_spec_commits.specs.Standing.{IsFirm}

-- What a consistent image stores: a firm virtual segment, and pages under names of which those of one number agree.
pub record StoresFirm (image : Image) : Type 0 where
  pub firm : (stored_in image).firm ≡ true
  pub agree : NamedAgree (stored_in image)

abbrev pub ConsistentIsFirm : Type 0
ConsistentIsFirm = (image : Image) → Consistent image → StoresFirm image

-- A device that was opened over a firm image is firm, where no write counts as failed.
abbrev pub OpenedIsFirm : {D : Type 0} → Ghosts D → Type 0
OpenedIsFirm {D} g =
    (s : D) (image : Image) → stored g s ≡ stored_in image → Consistent image → NoneFailed (g.shape s).vaddrs (g.failed s) → StoresPages g s
    → IsFirm g s
