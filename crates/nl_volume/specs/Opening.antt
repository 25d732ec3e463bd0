-- What the opening of a volume answers, and for which opening of a run it stands then.
use Rattle.std.specs.Prelude.{◌≡◌, ◌≢◌, ⊤, [], List, Some}
use Rattle.nl_field.specs.Medium.{readable_pages}
use Rattle.nl_field.specs.Page.{Image}
use Rattle.nl_tree.specs.Tree.{Tree}
use Rattle.nl_tree.specs.declared.call.Line.{Line}
use Rattle.nl_device.specs.Medium.{medium_of}
use Rattle.nl_iface.specs.declared.counts.Counts.{Ghosts}
use Rattle.nl_meta.specs.Consistent.{Consistent}
use Rattle.nl_meta.specs.Walk.{walk}
use Rattle.nl_core.specs.declared.state.Core.{Core}
use Rattle.nl_turns.specs.History.{Opening}
use Rattle.nl_volume.specs.declared.opening.Opened.{Opened}
use Rattle.nl_volume.specs.declared.opening.Opened.TheVariants.{Opened as Ready, Blank, Damaged, Fault, Memory}
use Rattle.nl_volume.specs.declared.volume.Volume.{Volume}

-- the opening of a run by a core, with this tree and these lines to come
abbrev pub opening_of : {D : Type 0} → Ghosts D → Core D → Tree → List Line → Opening
opening_of g v tree lines =
    record {
      shape = g.shape v.device;
      count = v.count;
      tree = tree;
      clock = g.clock v.device;
      read_faults = g.read_faults v.device;
      write_faults = g.write_faults v.device;
      next_stamp = g.next_stamp v.device;
      lines = lines;
    }

abbrev pub IfOpened : {M : Type 0} → Opened M → (Volume M → Type 0) → Type 0
IfOpened (Ready v) P = P v
IfOpened (Blank m) P = ⊤
IfOpened (Damaged m place) P = ⊤
IfOpened (Fault m) P = ⊤
IfOpened (Memory m) P = ⊤

abbrev pub IsVolumeOpenFault : {M : Type 0} → Opened M → Type 0
IsVolumeOpenFault (Ready v) = ⊥
IsVolumeOpenFault (Blank m) = ⊥
IsVolumeOpenFault (Damaged m place) = ⊥
IsVolumeOpenFault (Fault m) = ⊤
IsVolumeOpenFault (Memory m) = ⊥

-- the medium of an answer
abbrev pub opened_medium : {M : Type 0} → Opened M → M
opened_medium (Ready v) = medium_of v.core.device
opened_medium (Blank m) = m
opened_medium (Damaged m place) = m
opened_medium (Fault m) = m
opened_medium (Memory m) = m

-- What an image opens as: blank where no page is readable, and else a volume where the image is consistent, or damaged at the first place
-- at which a walk finds a fault.
abbrev pub OpensImage : {M : Type 0} → Image → Opened M → Type 0
OpensImage image (Ready v) = (readable_pages image ≢ []) × Consistent image
OpensImage image (Blank m) = readable_pages image ≡ []
OpensImage image (Damaged m place) = (readable_pages image ≢ []) × (walk image ≡ Some place)
OpensImage image (Fault m) = ⊤
OpensImage image (Memory m) = ⊤
