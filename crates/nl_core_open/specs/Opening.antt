-- What an opening answers.
use Rattle.std.specs.Prelude.{◌≡◌, ◌≢◌, ◌+◌, ◌≤◌, ◌^◌, ℕ, ⊤, [], length, Some}
use Rattle.nl_field.specs.Medium.{readable_pages}
use Rattle.nl_field.specs.Page.{Image}
use Rattle.nl_field.specs.declared.super_page.SuperRec.{SuperRec}
use Rattle.nl_device.specs.Medium.{medium_of}
use Rattle.nl_flight.specs.Flight.{nothing}
use Rattle.nl_iface.specs.declared.counts.Counts.{Ghosts}
use Rattle.nl_nand.specs.declared.geometry.Geometry.{Geometry}
use Rattle.nl_scan.specs.Tables.{FitsMedium, ScanTable, greatest_stamp}
use Rattle.nl_device.specs.declared.device.Device.{Device}
use Rattle.nl_meta.specs.Committed.{committed_of}
use Rattle.nl_meta.specs.Consistent.{Consistent}
use Rattle.nl_meta.specs.Nodes.{super_of_pages}
use Rattle.nl_meta.specs.Walk.{walk}
use Rattle.nl_journal_commit.specs.Holding.{running_holders}
use Rattle.nl_core.specs.declared.state.Core.{Core}
use Rattle.nl_core_open.specs.Beginning.{stopped_by}
use Rattle.nl_core_open.specs.declared.opening.Opened.{Opened}
use Rattle.nl_core_open.specs.declared.opening.Opened.TheVariants.{Ready, Blank, Damaged, Fault, Memory}

abbrev pub IfCoreReady : {M : Type 0} → Opened M → (Core (Device M) → Type 0) → Type 0
IfCoreReady (Ready v figures) P = P v
IfCoreReady (Blank m) P = ⊤
IfCoreReady (Damaged place m) P = ⊤
IfCoreReady (Fault m) P = ⊤
IfCoreReady (Memory m) P = ⊤

-- A core is handed out with the number of pages that its files have.
abbrev pub IfCounted : {M : Type 0} → Ghosts (Device M) → Opened M → Type 0
IfCounted g (Ready v figures) = figures.files ≡ length (running_holders g v.device v.meta)
IfCounted g (Blank m) = ⊤
IfCounted g (Damaged place m) = ⊤
IfCounted g (Fault m) = ⊤
IfCounted g (Memory m) = ⊤

abbrev pub IsCoreOpenFault : {M : Type 0} → Opened M → Type 0
IsCoreOpenFault (Ready v figures) = ⊥
IsCoreOpenFault (Blank m) = ⊥
IsCoreOpenFault (Damaged place m) = ⊥
IsCoreOpenFault (Fault m) = ⊤
IsCoreOpenFault (Memory m) = ⊥

-- the medium of an answer
abbrev pub opened_medium : {M : Type 0} → Opened M → M
opened_medium (Ready v figures) = medium_of v.device
opened_medium (Blank m) = m
opened_medium (Damaged place m) = m
opened_medium (Fault m) = m
opened_medium (Memory m) = m

-- The medium was only read, as far as it tells what it holds.
pub record OnlyReadsMedium {M : Type 0} (tells : Type 0) (contents : M → Image) (clock write_faults : M → ℕ) (left : M → ℕ → Image → Type 0)
    (old new : M) : Type 0 where
  pub same_contents : tells → contents new ≡ contents old
  pub no_more_left : tells → (m : ℕ) (c : Image) → left new m c → left old m c
  pub same_clock : clock new ≡ clock old
  pub same_write_faults : write_faults new ≡ write_faults old

-- What an image opens as: blank where no page is readable, and else ready with the count that its super page tells where it is consistent,
-- or damaged at the first place at which a walk finds a fault.
abbrev pub CoreOpensImage : {M : Type 0} → Image → Opened M → Type 0
CoreOpensImage image (Ready v figures) =
    (readable_pages image ≢ []) × Consistent image
    × ((rec : SuperRec) × (super_of_pages (committed_of image) ≡ Some rec) × (rec.count ≡ v.count))
CoreOpensImage image (Blank m) = readable_pages image ≡ []
CoreOpensImage image (Damaged place m) = (readable_pages image ≢ []) × (walk image ≡ Some place)
CoreOpensImage image (Fault m) = ⊤
CoreOpensImage image (Memory m) = ⊤

-- Nothing is in flight or awaits its free, and all calls are committed, as of now. It can be written to, unless the count of failed writes
-- stands at its end.
pub record IsOpenedCore {D : Type 0} (g : Ghosts D) (v : Core D) : Type 0 where
  pub flight : v.flight ≡ nothing
  pub freeing : v.freeing.items ≡ []
  pub committed : v.committed ≡ v.count
  pub moment : v.moment ≡ g.clock v.device
  pub stopped : v.stopped ≡ stopped_by (g.write_faults v.device)

-- Over any medium: the number is the one behind the greatest write sequence number of the pages in a table that a scan of a medium with
-- this geometry can make. No page spells a greater one than 2^63 - 1.
pub record IsBehindScan (geometry : Geometry) (next : ℕ) : Type 0 where
  pub table : ScanTable
  pub fits : FitsMedium geometry table
  pub next_is : next ≡ 1 + greatest_stamp table.seen
  pub spelled : next ≤ 2 ^ 63
