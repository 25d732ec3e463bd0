-- The committed pages of a volume, read as far as a walk looks at them.
use Rattle.std.specs.Prelude.{⊤}
use Rattle.nl_field.specs.Virtual.{map_bytes}
use Rattle.nl_iface.specs.declared.counts.Counts.{Ghosts}
use Rattle.nl_journal.specs.Restoring.{BringsBack}
use Rattle.nl_meta.specs.Pages.{Pages, page_of}
use Rattle.nl_meta.specs.Running.{running_over}
use Rattle.nl_recover.specs.Loading.{LoadsMetadata}
use Rattle.nl_recover.specs.Looking.{LooksAlike}
use Rattle.nl_recover.specs.declared.metadata.Metadata.{Metadata}
use Rattle.nl_recover.specs.declared.metadata.ReadPages.{ReadPages}
use Rattle.nl_recover.specs.declared.metadata.ReadPages.TheVariants as read

-- The pages read: the committed ones, as far as a walk looks at them.
pub record MetadataIsRead {D : Type 0} (g : Ghosts D) (s : D) (m : Metadata) : Type 0 where
  -- what was resident after the journal was read back
  pub restored : Pages
  pub back : BringsBack g s m.journal restored
  pub loads : LoadsMetadata g.tells (map_bytes (g.shape s) (g.map s)) restored m.meta
  pub alike : g.tells → LooksAlike (g.shape s) (running_over (map_bytes (g.shape s) (g.map s)) restored) (page_of m.meta)

abbrev pub IfRead : ReadPages → (Metadata → Type 0) → Type 0
IfRead (read.Done m) P = P m
IfRead read.Fault P = ⊤
IfRead read.Memory P = ⊤

abbrev pub IsFailed : ReadPages → Type 0
IsFailed (read.Done m) = ⊥
IsFailed read.Fault = ⊤
IsFailed read.Memory = ⊥
