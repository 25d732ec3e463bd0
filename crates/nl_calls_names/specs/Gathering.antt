-- Which node loses its name in a call, and what is read of it before the names change.
use Rattle.std.specs.Prelude.{◌≡◌, ℕ, ◌+◌, ◌≤◌, List, [], ◌++◌, length, map, Option, Some, None, option_and_then, IsSome}
use Rattle.nl_field.specs.Graph.{Graph}
use Rattle.nl_field.specs.declared.pointer.Pointer.{Pointer}
use Rattle.nl_iface.specs.declared.counts.Counts.{Ghosts}
use Rattle.nl_inode.specs.Nodes.{page_of_node}
use Rattle.nl_meta.specs.Nodes.{graph_of, pointers_in}
use Rattle.nl_meta.specs.Pages.{page_of}
use Rattle.nl_tree.specs.Represents.{node_reached}
use Rattle.nl_tree.specs.declared.call.Call.{Call}
use Rattle.nl_tree.specs.declared.call.Call.TheVariants.{Rename, Rmdir, Unlink}
use Rattle.nl_meta_running.specs.Running.{IsUsedNode}
use Rattle.nl_core.specs.Core.{running_of}
use Rattle.nl_core.specs.declared.state.Core.{Core}
use Rattle.nl_calls_steps.specs.Steps.{ReadsOn}

-- the path of a name that the call takes from a node, where it is done
abbrev pub path_lost : Call → Option (List (List ℕ))
path_lost (Rmdir path) = Some path
path_lost (Unlink path) = Some path
path_lost (Rename from to) = Some to
path_lost _ = None

-- the node that has it
abbrev pub node_lost : Graph → Call → Option ℕ
node_lost graph call = option_and_then (node_reached graph 0) (path_lost call)

-- the pointers of a node: a file has some
abbrev pub pointers_of_node : Graph → Option ℕ → List Pointer
pointers_of_node graph None = []
pointers_of_node graph (Some n) = map (λ p. p.1) (pointers_in (graph n).body)

abbrev pub graph_on : {D : Type 0} → Ghosts D → Core D → Graph
graph_on g v = graph_of (g.shape v.device) (running_of g v)

-- Pages were read, and these pointers stand behind those that await their free.
pub record GathersOn {D : Type 0} (g : Ghosts D) (old new : Core D) (gone : List Pointer) : Type 0 where
  pub reads : ReadsOn g old (record new { freeing = old.freeing })
  pub items : new.freeing.items ≡ old.freeing.items ++ gone
  pub room : length old.freeing.items + old.freeing.room ≤ length new.freeing.items + new.freeing.room

-- The node was used, and the page of its record is resident.
pub record OpensNode {D : Type 0} (g : Ghosts D) (old new : Core D) (n : ℕ) : Type 0 where
  pub used : IsUsedNode g old.device old.meta n
  pub there : IsSome (page_of new.meta (page_of_node n))
