-- What a core is begun with, and what it is then.
use Rattle.std.specs.Prelude.{◌≡◌, ℕ, ◌<◌, nat_lt, cond, true, List, [], None, Some, option_map}
use Rattle.nl_field.specs.CrashStates.{top}
use Rattle.nl_field.specs.Medium.{shape_of_image}
use Rattle.nl_field.specs.Members.{Has}
use Rattle.nl_field.specs.Page.{Image}
use Rattle.nl_field.specs.ScanList.{physical_seen, virtual_spare_seen}
use Rattle.nl_field.specs.SpareRecord.{stamp_of}
use Rattle.nl_field.specs.Virtual.{newest}
use Rattle.nl_field.specs.declared.seen.Seen.{Seen}
use Rattle.nl_field.specs.declared.shape.Shape.{Shape}
use Rattle.nl_tree.specs.Tree.{Tree}
use Rattle.nl_device.specs.Kept.{kept_of_scan}
use Rattle.nl_device.specs.Retain.{SameMedium, kept_of}
use Rattle.nl_device.specs.declared.device.Device.{Device}
use Rattle.nl_flight.specs.Flight.{nothing}
use Rattle.nl_iface.specs.Calls.{stored}
use Rattle.nl_iface.specs.Stored.{NoneFailed, stored_in, value_on}
use Rattle.nl_iface.specs.declared.counts.Counts.{Ghosts}
use Rattle.nl_meta.specs.Consistent.{Consistent, tag_on}
use Rattle.nl_spec_image.specs.Stands.{ConsistentAs}
use Rattle.nl_recover.specs.declared.opening.Walked.{Walked}
use Rattle.nl_core.specs.declared.state.Core.{Core}

-- of two pages of files that agree with the lower ones of their stamp, and have one stamp, both have one owner
abbrev pub HaveOneOwner : Shape → List Seen → Type 0
HaveOneOwner shape seen =
    (s q : Seen) → Has (physical_seen shape seen) s → Has (physical_seen shape seen) q → s.agrees ≡ true → q.agrees ≡ true
    → stamp_of s.rec ≡ stamp_of q.rec → tag_on s.rec ≡ tag_on q.rec

-- A volume on which no more failed write can be counted is begun read-only.
abbrev pub stopped_by : ℕ → ℕ
stopped_by write_faults = cond (nat_lt write_faults top) 0 top

-- The device is as a start leaves it: no page is live, no block in hand, and what it keeps is what its scan saw. Its virtual segment keeps
-- a spare block where the scan saw one. Where the medium tells what it stores, that is a sound image, and no write of an address failed.
pub record IsAsStarted {M : Type 0} (g : Ghosts (Device M)) (s : Device M) (seen : List Seen) : Type 0 where
  pub idle : (g.names s).space.victim ≡ 0
  pub no_live : (p : ℕ) → (g.names s).live p ≡ None
  pub kept : kept_of s ≡ kept_of_scan (g.shape s) seen
  pub owners : HaveOneOwner (g.shape s) seen
  pub spare : (block : ℕ) → virtual_spare_seen (g.shape s) seen ≡ Some block → g.keeps_spare s
  pub none_failed : g.tells → NoneFailed (g.shape s).vaddrs (g.failed s)
  pub image : g.tells → (image : Image) × (stored g s ≡ stored_in image) × Consistent image

-- The device was started over this image, which is sound as this tree after as many calls as the walk tells.
pub record IsStartedOver {M : Type 0} (g : Ghosts (Device M)) (s : Device M) (w : Walked) (image : Image) (tree : Tree) : Type 0 where
  pub shape : g.shape s ≡ shape_of_image image
  pub stored : stored g s ≡ stored_in image
  pub map : (v : ℕ) → v < (g.shape s).vaddrs → g.map s v ≡ option_map value_on (newest image v)
  pub sound : ConsistentAs image w.count tree

-- The medium is as it was. The core has what the walk handed out, nothing is in flight or awaits its free, and all calls are committed.
pub record BeginsCore {M : Type 0} (g : Ghosts (Device M)) (s : Device M) (w : Walked) (v : Core (Device M)) : Type 0 where
  pub medium : SameMedium g s v.device
  pub metadata : (v.journal ≡ w.journal) × (v.meta ≡ w.meta) × (v.nodes ≡ w.nodes)
  pub counts : (v.count ≡ w.count) × (v.committed ≡ w.count) × (v.moment ≡ g.clock s) × (v.stopped ≡ stopped_by (g.write_faults s))
  pub flight : v.flight ≡ nothing
  pub freeing : v.freeing.items ≡ []
