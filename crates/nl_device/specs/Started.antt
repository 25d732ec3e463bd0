-- What a start answers.
use Rattle.std.specs.Prelude.{◌≡◌, ◌⊎◌, ℕ, ◌+◌, List, [], None, Some, ⊤}
use Rattle.nl_field.specs.Numbers.{shape_for}
use Rattle.nl_field.specs.Page.{Image}
use Rattle.nl_field.specs.ScanList.{virtual_spare_seen}
use Rattle.nl_field.specs.Space.{virtual_spare}
use Rattle.nl_field.specs.declared.seen.Seen.{Seen}
use Rattle.nl_field.specs.declared.shape.Shape.{Shape}
use Rattle.nl_iface.specs.Names.{Names}
use Rattle.nl_nand.specs.declared.geometry.Geometry.{Geometry}
use Rattle.nl_scan.specs.Tables.{ScanTable, greatest_stamp}
use Rattle.nl_device.specs.declared.device.Device.{Device}
use Rattle.nl_device.specs.declared.start.Started.{Started}
use Rattle.nl_device.specs.declared.start.Started.TheVariants.{Ready, Fault, Memory}

-- the device and the tables have P, where there are some
abbrev pub IfStarted : {M : Type 0} → Started M → (Device M → ScanTable → Type 0) → Type 0
IfStarted (Ready d t) P = P d t
IfStarted (Fault m) P = ⊤
IfStarted (Memory m) P = ⊤

abbrev pub IfStartFault : {M : Type 0} → Started M → (M → Type 0) → Type 0
IfStartFault (Ready d t) P = ⊤
IfStartFault (Fault m) P = P m
IfStartFault (Memory m) P = ⊤

abbrev pub IfStartMemory : {M : Type 0} → Started M → (M → Type 0) → Type 0
IfStartMemory (Ready d t) P = ⊤
IfStartMemory (Fault m) P = ⊤
IfStartMemory (Memory m) P = P m

-- A block of the virtual segment can be done without, by what was seen or on a medium that tells its contents.
abbrev pub HasVirtualSpare : Type 0 → Image → Shape → List Seen → Type 0
HasVirtualSpare tells image shape seen =
    (block : ℕ) × ((virtual_spare_seen shape seen ≡ Some block) ⊎ (tells × (virtual_spare image ≡ Some block)))

-- What a device has after a start: the numbers of its medium; no page under a name, nothing that leads to one, and no callback
-- posted; no block in hand; each block of the segment Free, and room in all but one; and the stamp after the greatest that was
-- seen.
pub record IsStarted (geometry : Geometry) (t : ScanTable) (shape : Shape) (names : Names) (next : ℕ) : Type 0 where
  pub numbers : shape ≡ shape_for geometry.blocks geometry.pages
  pub live : (p : ℕ) → names.live p ≡ None
  pub pairs : names.pairs ≡ []
  pub pending : names.pending ≡ []
  pub posted : names.posted ≡ 0
  pub victim : names.space.victim ≡ 0
  pub free : names.space.free ≡ shape.pblocks
  pub room : names.space.room + names.space.block ≡ names.space.all
  pub stamp : next ≡ 1 + greatest_stamp t.seen
