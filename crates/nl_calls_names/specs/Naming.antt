-- How a call that changes names ends, in the tree for which a core stands.
use Rattle.std.specs.Prelude.{◌≡◌, ℕ, [], Option, Some, None}
use Rattle.nl_iface.specs.declared.counts.Counts.{Ghosts}
use Rattle.nl_meta.specs.Consistent.{PageOfStamp}
use Rattle.nl_meta_running.specs.declared.answer.Stop.{Stop}
use Rattle.nl_meta_running.specs.declared.answer.Stop.TheVariants as stop
use Rattle.nl_tree.specs.Step.{step}
use Rattle.nl_tree.specs.Tree.{Tree}
use Rattle.nl_tree.specs.declared.call.Call.{Call}
use Rattle.nl_tree.specs.declared.reply.Reply.TheVariants.{Done, No}
use Rattle.nl_spec_commits.specs.Trees.{RepresentsTree}
use Rattle.nl_core.specs.Core.{running_of}
use Rattle.nl_core.specs.declared.state.Core.{Core}
use Rattle.nl_namespace.specs.declared.answer.Change.{Change}
use Rattle.nl_namespace.specs.declared.answer.Change.TheVariants as change
use Rattle.nl_namespace.specs.Taking.{TakesLeast}
use Rattle.nl_calls_names.specs.Gathering.{graph_on}
use Rattle.nl_calls_names.specs.declared.answer.Naming.{Naming}
use Rattle.nl_calls_names.specs.declared.answer.Naming.TheVariants as naming

-- the metadata of a core stands for the tree, with what the page of each write sequence number holds
abbrev pub MetadataRepresents : {D : Type 0} → Ghosts D → Core D → (ℕ → Option PageOfStamp) → Tree → Type 0
MetadataRepresents g v page_of_stamp tree = RepresentsTree (g.shape v.device) (running_of g v) page_of_stamp tree

-- Done, the call is what the step of the tree is, and the core stands for the tree after it. Refused, it is refused as the step is, also
-- for want of room. Where a read failed, and where a page was lost, the tree stays too.
abbrev pub EndsAsStep : {D : Type 0} → Ghosts D → Call → Core D → (ℕ → Option PageOfStamp) → Tree → Naming → Type 0
EndsAsStep g call v page_of_stamp tree naming.Done =
    ((step (g.shape v.device) tree call).reply ≡ Done) × MetadataRepresents g v page_of_stamp (step (g.shape v.device) tree call).tree
EndsAsStep g call v page_of_stamp tree (naming.No refusal) =
    (step (g.shape v.device) tree call ≡ record { reply = No refusal; bytes = []; tree = tree }) × MetadataRepresents g v page_of_stamp tree
EndsAsStep g call v page_of_stamp tree naming.Fault = MetadataRepresents g v page_of_stamp tree
EndsAsStep g call v page_of_stamp tree (naming.Lost w f) = MetadataRepresents g v page_of_stamp tree

-- The call ends so for any tree for which the core stood.
abbrev pub AnswersAs : {D : Type 0} → Ghosts D → Call → Core D → Core D → Naming → Type 0
AnswersAs g call old new answer =
    (page_of_stamp : ℕ → Option PageOfStamp) (tree : Tree) → MetadataRepresents g old page_of_stamp tree
    → EndsAsStep g call new page_of_stamp tree answer

-- A new node of a core has the least free number and the next generation, and a new page the least free address.
abbrev pub TakesLeastOn : {D : Type 0} → Ghosts D → Core D → Core D → Type 0
TakesLeastOn g old new = TakesLeast old.nodes new.nodes (graph_on g old) (graph_on g new)

-- what ended the call early
abbrev pub naming_stop : Naming → Option Stop
naming_stop naming.Done = None
naming_stop (naming.No refusal) = None
naming_stop naming.Fault = Some stop.Fault
naming_stop (naming.Lost w f) = Some (stop.Lost w f)

abbrev pub answer_of : Change → Naming
answer_of (change.Changed _) = naming.Done
answer_of (change.No refusal) = naming.No refusal
answer_of change.Fault = naming.Fault
answer_of (change.Lost w f) = naming.Lost w f

abbrev pub stopped_by : Stop → Naming
stopped_by stop.Fault = naming.Fault
stopped_by (stop.Lost w f) = naming.Lost w f
