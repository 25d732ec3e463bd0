-- How a volume goes along its run: from its opening on, through calls of its core, effects of calls, and syncs.
use Rattle.std.specs.Prelude.{◌≡◌, ℕ, ◌+◌, ◌≤◌, [], IsTrue, Option}
use Rattle.nl_field.specs.CrashStates.{saturated, top}
use Rattle.nl_field.specs.Medium.{shape_of_image}
use Rattle.nl_field.specs.Page.{Image, is_image}
use Rattle.nl_tree.specs.Replay.{step_marked}
use Rattle.nl_tree.specs.Tree.{Tree}
use Rattle.nl_tree.specs.declared.call.Call.{Call}
use Rattle.nl_tree.specs.declared.reply.FaultReply.{FaultReply}
use Rattle.nl_iface.specs.Calls.{stored}
use Rattle.nl_iface.specs.Stored.{stored_in}
use Rattle.nl_iface.specs.declared.counts.Counts.{Ghosts}
use Rattle.nl_meta.specs.Consistent.{PageOfStamp}
use Rattle.nl_spec_image.specs.Crash.{OpensAsPrefix, Run, with_call, with_sync}
use Rattle.nl_spec_image.specs.Stands.{ConsistentAs}
use Rattle.nl_spec_commits.specs.Trees.{StoredOpensAs, Trees, all_at}
use Rattle.nl_core.specs.Goes.{PreservesVolume}
use Rattle.nl_core.specs.Laws.{StoredOpens}
use Rattle.nl_core.specs.Trees.{CoreRepresentsTree, CoreRepresents, CoreIsObservable}
use Rattle.nl_core.specs.declared.state.Core.{Core}
use Rattle.nl_spec_crashes.specs.Along.{FollowsRun, last_tree, opens_as}

-- A volume as an opening leaves it goes along the run without calls from its count and its tree on.
abbrev pub OpeningFollowsRun : {D : Type 0} → Ghosts D → Type 0
OpeningFollowsRun {D} g =
    (v : Core D) (tree : Tree) → (g.tells → (page_of_stamp : ℕ → Option PageOfStamp) × CoreRepresents g v page_of_stamp (all_at v.count tree))
    → v.count ≤ top
    → FollowsRun g v (g.clock v.device) (record { shape = g.shape v.device; count = v.count; tree = tree; calls = []; syncs = [] }) v

-- A call of the core answers no call of a file.
abbrev pub CallFollowsRun : {D : Type 0} → Ghosts D → Type 0
CallFollowsRun {D} g =
    (n : ℕ) (u v : Core D) (origin : Core D) (first : ℕ) (run : Run) → PreservesVolume g n u v → FollowsRun g origin first run u
    → FollowsRun g origin first run v

-- A call of a file takes effect: nothing is written to the medium, what is committed stays, and as whatever tree the core ran, it runs as
-- what the call makes of it.
pub record TakesEffect {D : Type 0} (g : Ghosts D) (u v : Core D) (x : Call × Option FaultReply) : Type 0 where
  pub same_shape : g.shape v.device ≡ g.shape u.device
  pub same_clock : g.clock v.device ≡ g.clock u.device
  pub same_number : v.journal.number ≡ u.journal.number
  pub same_moment : v.moment ≡ u.moment
  pub same_committed : v.committed ≡ u.committed
  pub left : g.tells → (m : ℕ) (c : g.Crash) → g.left v.device m c → g.left u.device m c
  pub count : v.count ≡ saturated (u.count + 1)
  pub told : CoreIsObservable g v → CoreIsObservable g u
  pub runs : g.tells → (page_of_stamp : ℕ → Option PageOfStamp) (tree : Tree) → CoreRepresentsTree g u page_of_stamp tree
      → CoreRepresentsTree g v page_of_stamp (step_marked (g.shape u.device) tree x).tree
  pub trees : CoreIsObservable g v → (page_of_stamp : ℕ → Option PageOfStamp) (t : Trees) → CoreRepresents g u page_of_stamp t
      → CoreRepresents g v page_of_stamp (record t { running = (step_marked (g.shape u.device) t.running x).tree })

abbrev pub EffectFollowsRun : {D : Type 0} → Ghosts D → Type 0
EffectFollowsRun {D} g =
    (u v : Core D) (x : Call × Option FaultReply) (origin : Core D) (first : ℕ) (run : Run) → TakesEffect g u v x
    → FollowsRun g origin first run u
    → FollowsRun g origin first (with_call run x) v

-- A sync is answered with as many calls as are committed, and the moment of the last commit, which may lie before its turn: nothing that a
-- stop left since that moment has fewer calls.
abbrev pub SyncFollowsRun : {D : Type 0} → Ghosts D → Type 0
SyncFollowsRun {D} g =
    (v : Core D) (origin : Core D) (first : ℕ) (run : Run) → FollowsRun g origin first run v
    → FollowsRun g origin first (with_sync run (record { upto = v.committed; moment = v.moment })) v

-- Where all calls are committed, and what is stored opens as the committed tree, it opens as the tree after all calls of the run.
abbrev pub EndsDurable : {D : Type 0} → Ghosts D → Type 0
EndsDurable {D} g =
    (v : Core D) (origin : Core D) (first : ℕ) (run : Run) → StoredOpens g v → FollowsRun g origin first run v → v.committed ≡ v.count
    → CoreIsObservable g v
    → StoredOpensAs run.shape (stored g v.device) (v.count, last_tree run)

-- What opens as a tree of the run is an image that is sound as that tree.
abbrev pub OpensConsistent : {D : Type 0} → Ghosts D → Type 0
OpensConsistent g =
    (run : Run) (m : ℕ) (c : g.Crash) (image : Image) → g.stored_of c ≡ stored_in image → IsTrue (is_image image)
    → run.shape ≡ shape_of_image image
    → OpensAsPrefix (opens_as g run.shape) run m c → OpensAsPrefix ConsistentAs run m image
