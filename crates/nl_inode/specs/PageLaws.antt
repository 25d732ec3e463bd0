-- What the calls on nodes mean for the pages in memory as a whole.
use Rattle.std.specs.Prelude.{ℕ, List, Option}
use Rattle.nl_field.specs.declared.inode.InodeRec.{InodeRec}
use Rattle.nl_iface.specs.declared.counts.Counts.{Ghosts}
use Rattle.nl_meta.specs.PageLaws.{IsApart}
use Rattle.nl_meta.specs.Pages.{Pages}
use Rattle.nl_meta.specs.Steps.{ChangesRunningPages}
use Rattle.nl_inode.specs.Fetching.{Fetches, FetchesNone}
use Rattle.nl_inode.specs.Nodes.{PutsNode}

-- The pages change where a node gets a record, and where a page is fetched that is none of the journal's, or could not be fetched.
pub record NodePages {D : Type 0} (g : Ghosts D) (old new : Pages) : Type 0 where
  pub put : (n : ℕ) (rec : InodeRec) → PutsNode n rec old new → ChangesRunningPages old new
  pub fetched : (stored : Option (List ℕ)) (v : ℕ) → IsApart v → Fetches g.tells stored v old new → ChangesRunningPages old new
  pub not_fetched : (v : ℕ) → FetchesNone v old new → ChangesRunningPages old new

abbrev pub NodesChangePages : {D : Type 0} → Ghosts D → Type 0
NodesChangePages g = (old new : Pages) → NodePages g old new
