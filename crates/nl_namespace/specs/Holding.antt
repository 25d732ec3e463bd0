-- The pages of a directory.
use Rattle.std.specs.Prelude.{◌≡◌}
use Rattle.nl_field.specs.declared.inode.InodeRec.{InodeRec}
use Rattle.nl_iface.specs.declared.counts.Counts.{Ghosts}
use Rattle.nl_meta.specs.Nodes.{entries_of_inode}
use Rattle.nl_meta.specs.Pages.{Pages, page_of}
use Rattle.nl_dir.specs.Directory.{IsDirectory}
use Rattle.nl_meta_running.specs.Running.{running_on}

-- The directory is one in memory, with the entries that it had.
pub record HasEntries {D : Type 0} (g : Ghosts D) (s : D) (old new : Pages) (rec : InodeRec) : Type 0 where
  pub directory : IsDirectory (page_of new) rec
  pub entries : entries_of_inode (page_of new) rec ≡ entries_of_inode (running_on g s old) rec
