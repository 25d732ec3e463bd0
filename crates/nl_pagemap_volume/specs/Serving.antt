-- What a core is between two calls of one thread, and what a call makes of its tree.
use Rattle.std.specs.Prelude.{◌≡◌, ℕ, ◌+◌, ◌<◌, ◌≤◌, ⊤, Option}
use Rattle.nl_field.specs.CrashStates.{top}
use Rattle.nl_tree.specs.Causes.{fault_in}
use Rattle.nl_tree.specs.Replay.{step_marked}
use Rattle.nl_tree.specs.Tree.{Tree}
use Rattle.nl_tree.specs.declared.call.Call.{Call}
use Rattle.nl_tree.specs.declared.reply.Reply.{Reply}
use Rattle.nl_tree.specs.declared.reply.Reply.TheVariants.{Synced}
use Rattle.nl_flight.specs.Flight.{begun, of_worker}
use Rattle.nl_iface.specs.declared.counts.Counts.{Ghosts}
use Rattle.nl_meta.specs.Consistent.{PageOfStamp}
use Rattle.nl_core.specs.Core.{IsCore}
use Rattle.nl_core.specs.Goes.{PreservesTree}
use Rattle.nl_core.specs.Trees.{CoreRepresentsTree}
use Rattle.nl_core.specs.declared.state.Core.{Core}
use Rattle.nl_calls_steps.specs.Calls.{RepresentsSomeTree}
use Rattle.nl_calls.specs.Answering.{pages_of_files}

-- The core is in order and runs as some tree, and its files have so many pages. No worker has a line in flight.
pub record CoreServes {D : Type 0} (g : Ghosts D) (files : ℕ) (v : Core D) : Type 0 where
  pub core : IsCore g v
  pub runs : RepresentsSomeTree g v
  pub counted : files ≡ pages_of_files g v
  pub idle : (worker : ℕ) → of_worker v.flight worker ≡ begun 0

-- For each tree as which the core ran, it runs as the tree after the call's step, with the fault of the reply if it is one.
abbrev pub TakesStep : {D : Type 0} → Ghosts D → Call → Core D → Core D → Reply → Type 0
TakesStep g call old new reply =
    g.tells → (page_of_stamp : ℕ → Option PageOfStamp) (tree : Tree) → CoreRepresentsTree g old page_of_stamp tree
    → PreservesTree g new page_of_stamp (step_marked (g.shape old.device) tree (call, fault_in reply)).tree

-- The numbers of a sync are the count of all calls before it, which are committed then, and the moment of the last commit page.
abbrev pub TellsAllCalls : {D : Type 0} → Core D → Core D → Reply → Type 0
TellsAllCalls old new (Synced upto moment) = (upto ≡ old.count) × (new.committed ≡ old.count) × (moment ≡ new.moment)
TellsAllCalls old new reply = ⊤

-- The next write sequence number rises by no more than the clock and the count of failed writes, while these stand below their end.
abbrev pub StampsPaid : {D : Type 0} → Ghosts D → D → D → Type 0
StampsPaid g old new =
    g.clock new < top → g.write_faults new < top
    → g.next_stamp new + g.clock old + g.write_faults old ≤ g.next_stamp old + g.clock new + g.write_faults new
