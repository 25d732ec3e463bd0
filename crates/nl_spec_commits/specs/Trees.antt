-- For which trees a volume stands between two calls.
use Rattle.std.specs.Prelude.{◌≡◌, ℕ, ◌≤◌, List, [], ◌∷◌, Option}
use Rattle.nl_field.specs.declared.shape.Shape.{Shape}
use Rattle.nl_tree.specs.Charges.{data_charge}
use Rattle.nl_tree.specs.Tree.{Tree}
use Rattle.nl_iface.specs.Names.{Names}
use Rattle.nl_iface.specs.Stored.{Stored}
use Rattle.nl_iface.specs.declared.counts.Counts.{Ghosts}
use Rattle.nl_journal.specs.Committing.{committed_on, finished_on}
use Rattle.nl_journal.specs.Progress.{Progress}
use Rattle.nl_meta.specs.Committed.{VirtualMap}
use Rattle.nl_meta.specs.Consistent.{PageOfStamp, RightFor}
use Rattle.nl_meta.specs.Pages.{Pages}
use Rattle.nl_meta_running.specs.Running.{running_on}
use Rattle.nl_spec_image.specs.CrashConsistency.{LeavesTree, MapRepresents}
use Rattle.nl_spec_image.specs.RightFor.{PagesRepresent}
use Rattle.nl_journal_commit.specs.Completing.{AwaitsCommitPage}
use Rattle.nl_spec_commits.specs.Committed.{read_as}

-- a tree after so many calls
abbrev pub Prefix : Type 0
Prefix = ℕ × Tree

-- The tree that is committed; that of a transaction that is frozen and whose commit page is to be written, the committed one where there is
-- none; and the tree of all calls so far.
pub record Trees : Type 0 where
  pub committed : Prefix
  pub frozen : Prefix
  pub running : Tree

-- all trees of a volume are this one, after so many calls
abbrev pub all_at : ℕ → Tree → Trees
all_at count tree = record { committed = (count, tree); frozen = (count, tree); running = tree }

-- the trees that are committed, now or later, where so many calls were answered, each with its count of calls
abbrev pub prefixes : ℕ → Trees → List Prefix
prefixes count t = t.committed ∷ t.frozen ∷ (count, t.running) ∷ []

-- The pages, whatever count their super page has, represent a tree that the volume may have.
pub record RepresentsTree (shape : Shape) (pages : VirtualMap) (page_of_stamp : ℕ → Option PageOfStamp) (tree : Tree) : Type 0 where
  pub right : RightFor shape pages page_of_stamp
  pub represents : PagesRepresent shape pages page_of_stamp tree
  pub data_fits : data_charge tree ≤ shape.cap

-- the pages stand for the tree after so many calls, read with the zeros of inode pages that were never written
abbrev pub RepresentsPrefix : Shape → VirtualMap → (ℕ → Option PageOfStamp) → Prefix → Type 0
RepresentsPrefix shape pages page_of_stamp x = MapRepresents shape (read_as shape pages) page_of_stamp x.0 x.1

-- The running pages, the committed ones and those of a frozen transaction stand for these trees, with what the page of each write sequence
-- number holds.
pub record RepresentsTrees {D : Type 0} (g : Ghosts D) (s : D) (p : Progress) (pages : Pages) (count : ℕ) (page_of_stamp : ℕ → Option PageOfStamp)
    (t : Trees) : Type 0 where
  pub running : RepresentsTree (g.shape s) (running_on g s pages) page_of_stamp t.running
  pub committed : RepresentsPrefix (g.shape s) (committed_on g s) page_of_stamp t.committed
  pub frozen : AwaitsCommitPage p pages.frozen → RepresentsPrefix (g.shape s) (finished_on g s p pages) page_of_stamp t.frozen
  pub thawed : (AwaitsCommitPage p pages.frozen → ⊥) → t.frozen ≡ t.committed
  pub later : t.committed.0 ≤ t.frozen.0
  pub latest : t.frozen.0 ≤ count

-- what is stored opens as the tree after so many calls
abbrev pub StoredOpensAs : Shape → Stored → Prefix → Type 0
StoredOpensAs shape c x =
    (names : Names) × (bytes : ℕ → List ℕ) × (page_of_stamp : ℕ → Option PageOfStamp) × LeavesTree shape names bytes page_of_stamp c x.0 x.1
