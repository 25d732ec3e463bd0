-- A volume goes along a run: each tree that it has committed, or will commit, is one of the run, and so is what a stop leaves.
use Rattle.std.specs.Prelude.{◌≡◌, ◌⊎◌, ℕ, ◌+◌, ◌-◌, ◌≤◌, length, take, Option}
use Rattle.nl_field.specs.CrashStates.{saturated}
use Rattle.nl_field.specs.Members.{Has}
use Rattle.nl_field.specs.declared.shape.Shape.{Shape}
use Rattle.nl_tree.specs.Order.{SyncPoint}
use Rattle.nl_tree.specs.Replay.{replay}
use Rattle.nl_tree.specs.Tree.{Tree}
use Rattle.nl_iface.specs.declared.counts.Counts.{Ghosts}
use Rattle.nl_meta.specs.Consistent.{PageOfStamp}
use Rattle.nl_spec_image.specs.Crash.{OpensAsPrefix, Run, CrashesSafely}
use Rattle.nl_spec_commits.specs.Trees.{StoredOpensAs, Prefix, Trees}
use Rattle.nl_core.specs.Goes.{PaidSince}
use Rattle.nl_core.specs.Trees.{CoreRepresentsTree, CoreRepresents, CoreIsObservable}
use Rattle.nl_core.specs.declared.state.Core.{Core}

-- the tree after so many calls, counted as the volume counts them: the calls of the run behind those before it
abbrev pub tree_at : Run → ℕ → Tree
tree_at run k = replay run.shape run.tree (take (k - run.count) run.calls)

-- the tree after all calls of the run
abbrev pub last_tree : Run → Tree
last_tree run = replay run.shape run.tree run.calls

-- what a stop leaves opens as this tree after so many calls
abbrev pub opens_as : {D : Type 0} (g : Ghosts D) → Shape → g.Crash → ℕ → Tree → Type 0
opens_as g shape c count tree = StoredOpensAs shape (g.stored_of c) (count, tree)

-- a tree of the run, after so many calls
pub record IsOfRun (run : Run) (x : Prefix) : Type 0 where
  pub from : run.count ≤ x.0
  pub to : x.0 ≤ run.count + length run.calls
  pub tree : x.1 ≡ tree_at run x.0

-- No sync of the run made more calls durable than the committed tree has.
abbrev pub SyncsAreCommitted : Run → Trees → Type 0
SyncsAreCommitted run t = (s : SyncPoint) → Has run.syncs s → s.upto ≤ t.committed.0

-- The core stands for the last tree of the run, and commits trees of it. Each sync made durable no more than is committed.
pub record IsAlong {D : Type 0} (g : Ghosts D) (run : Run) (v : Core D) (page_of_stamp : ℕ → Option PageOfStamp) (t : Trees) : Type 0 where
  pub stands : CoreRepresents g v page_of_stamp t
  pub running : t.running ≡ tree_at run v.count
  pub committed : IsOfRun run t.committed
  pub frozen : IsOfRun run t.frozen
  pub synced : SyncsAreCommitted run t

-- What a stop may leave at a moment from that of the last commit on was left before the run, or opens as a tree of it with at least the calls
-- that are committed. So a sync may be answered with the last commit, whoever's it was.
abbrev pub LastCommitIsHeld : {D : Type 0} → Ghosts D → Core D → Run → Core D → Type 0
LastCommitIsHeld g origin run v =
    (m : ℕ) (c : g.Crash) → g.left v.device m c → v.moment ≤ m
    → g.left origin.device m c ⊎ ((o : OpensAsPrefix (opens_as g run.shape) run m c) × (v.committed ≤ o.prefix))

-- The volume has answered the calls of the run since its first moment, when it was this one, the origin: what a stop had left before is no
-- part of the run. The number of its transactions has risen by no more than the clock since. While the medium tells its contents, it runs
-- as the tree after all of the calls. While counts have not ended either, it goes along the run, and so does what a stop leaves, with what is
-- committed from the moment of the last commit on.
pub record FollowsRun {D : Type 0} (g : Ghosts D) (origin : Core D) (first : ℕ) (run : Run) (v : Core D) : Type 0 where
  pub shape : g.shape v.device ≡ run.shape
  pub from : first ≤ g.clock v.device
  pub count : v.count ≡ saturated (run.count + length run.calls)
  pub paid : PaidSince g first origin.journal.number v
  pub runs : g.tells → (page_of_stamp : ℕ → Option PageOfStamp) × CoreRepresentsTree g v page_of_stamp (last_tree run)
  pub trees : CoreIsObservable g v → (page_of_stamp : ℕ → Option PageOfStamp) × (t : Trees) × IsAlong g run v page_of_stamp t
  pub stops : CoreIsObservable g v
      → CrashesSafely (opens_as g run.shape) (λ m c. g.left origin.device m c) (λ m c. g.left v.device m c) first (g.clock v.device) run
  pub held : CoreIsObservable g v → LastCommitIsHeld g origin run v
