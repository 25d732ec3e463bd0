-- What is known of a core of which one node was read.
use Rattle.std.specs.Prelude.{ℕ, IsSome}
use Rattle.nl_field.specs.declared.inode.InodeRec.{InodeRec}
use Rattle.nl_iface.specs.declared.counts.Counts.{Ghosts}
use Rattle.nl_inode.specs.Nodes.{page_of_node}
use Rattle.nl_meta.specs.Pages.{page_of}
use Rattle.nl_meta_running.specs.Running.{IsNodeOf}
use Rattle.nl_core.specs.declared.state.Core.{Core}

-- The node has this record, before and after, and its page is resident.
pub record HasRecordThroughout {D : Type 0} (g : Ghosts D) (old new : Core D) (n : ℕ) (rec : InodeRec) : Type 0 where
  pub before : IsNodeOf g old.device old.meta n rec
  pub after : IsNodeOf g new.device new.meta n rec
  pub there : IsSome (page_of new.meta (page_of_node n))
