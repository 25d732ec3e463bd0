-- The parts of a commit.
use Rattle.std.proofs.Common.{◌≡◌, ℕ, refl, sym, ◌∙◌, ap, subst}
use Rattle.nl_iface.specs.declared.counts.Counts.{Ghosts}
use Rattle.nl_journal.specs.Progress.{Progress}
use Rattle.nl_meta.specs.Committed.{VirtualMap}
use Rattle.nl_meta.specs.Nodes.{graph_of}
use Rattle.nl_meta.specs.Pages.{Pages}
use Rattle.nl_meta.specs.Running.{running_over}
use Rattle.nl_meta_running.specs.Running.{IsNeeded, running_on}
use Rattle.nl_journal_commit.specs.Counting.{with_frozen}
use Rattle.nl_journal_commit.specs.Standing.{PreservesGraph}

module _ {D : Type 0} (g : Ghosts D) (s : D) (pages : Pages) where
  -- freezing changes no running page
  pub frozen_runs : running_on g s (with_frozen pages) ≡ running_on g s pages
  unfolding running_over
  frozen_runs = refl

  pub stands_frozen : (t : D) (q : Progress) (now : Pages) → PreservesGraph g s pages t q now → PreservesGraph g s (with_frozen pages) t q now
  stands_frozen t q now stands = record {
    journaled = stands.journaled;
    needed = subst (λ (m : VirtualMap). (v : ℕ) → IsNeeded (g.shape s) m v → running_on g t now v ≡ m v) (sym frozen_runs) stands.needed;
    graph = stands.graph ∙ ap (λ (m : VirtualMap). graph_of (g.shape s) m) (sym frozen_runs);
  }
