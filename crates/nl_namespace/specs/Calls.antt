-- The calls that change names, and what each does to the nodes and to the tree that they stand for.
use Rattle.std.specs.List.{AllByRecursion}
use Rattle.std.specs.Prelude.{◌≡◌, ℕ, ⊤, List, [], Option}
use Rattle.nl_field.specs.FileContent.{empty_file}
use Rattle.nl_field.specs.Graph.{Graph}
use Rattle.nl_field.specs.declared.inode.Kind.TheVariants.{Dir, File}
use Rattle.nl_field.specs.declared.shape.Shape.{Shape}
use Rattle.nl_inode.specs.Nodes.{Spaces}
use Rattle.nl_meta.specs.Committed.{VirtualMap}
use Rattle.nl_meta.specs.Consistent.{PageOfStamp}
use Rattle.nl_meta.specs.Nodes.{graph_of}
use Rattle.nl_spec_image.specs.Stands.{bytes_for}
use Rattle.nl_tree.specs.Calls.{AreNames}
use Rattle.nl_tree.specs.Represents.{Represents}
use Rattle.nl_tree.specs.Step.{paths_of, step}
use Rattle.nl_tree.specs.Tree.{Tree, directory, file}
use Rattle.nl_tree.specs.declared.call.Call.{Call}
use Rattle.nl_tree.specs.declared.call.Call.TheVariants.{Create, Mkdir, Rename, Rmdir, Unlink}
use Rattle.nl_tree.specs.declared.reply.Reply.TheVariants.{Done, No}
use Rattle.nl_namespace.specs.Moving.{RenamesName}
use Rattle.nl_namespace.specs.Naming.{MakesNode, RemovesName}
use Rattle.nl_namespace.specs.Standing.{HoldsTree}
use Rattle.nl_namespace.specs.declared.answer.Change.{Change}
use Rattle.nl_namespace.specs.declared.answer.Change.TheVariants as change

-- one of the five calls that change names
abbrev pub IsOfNames : Call → Type 0
IsOfNames (Mkdir path) = ⊤
IsOfNames (Rmdir path) = ⊤
IsOfNames (Create path) = ⊤
IsOfNames (Unlink path) = ⊤
IsOfNames (Rename from to) = ⊤
IsOfNames _ = ⊥

-- Each name of its paths is one but for its length.
abbrev pub PathsHaveNames : Call → Type 0
PathsHaveNames call = AllByRecursion AreNames (paths_of call)

-- how the call answers, with what is free and the nodes before it, and the nodes after it
abbrev pub ChangesNames : Spaces → Graph → Graph → Call → Change → Type 0
ChangesNames free old new (Mkdir path) answer = MakesNode free old new path directory answer
ChangesNames free old new (Rmdir path) answer = RemovesName Dir old new path answer
ChangesNames free old new (Create path) answer = MakesNode free old new path (file empty_file) answer
ChangesNames free old new (Unlink path) answer = RemovesName File old new path answer
ChangesNames free old new (Rename from to) answer = RenamesName free old new from to answer
ChangesNames free old new _ answer = ⊥

-- The call answers as the tree's step does, on a volume of these numbers: it is done and the nodes stand for the tree that the step leaves,
-- or it is refused as the step refuses it, also for want of room.
abbrev pub IsStep : Shape → (ℕ → List ℕ) → Graph → Tree → Call → Change → Type 0
IsStep shape bytes_of new tree call (change.Changed lost) =
    ((step shape tree call).reply ≡ Done) × Represents bytes_of new (step shape tree call).tree
IsStep shape bytes_of new tree call (change.No refusal) = step shape tree call ≡ record { reply = No refusal; bytes = []; tree = tree }
IsStep shape bytes_of new tree call change.Fault = ⊤
IsStep shape bytes_of new tree call (change.Lost w f) = ⊤

abbrev pub ChangesInTree : Type 0
ChangesInTree =
    (shape : Shape) (pages : VirtualMap) (page_of_stamp : ℕ → Option PageOfStamp) (free : Spaces) (new : Graph) (tree : Tree) (call : Call)
    (answer : Change)
    → HoldsTree shape pages page_of_stamp free tree → ChangesNames free (graph_of shape pages) new call answer
    → IsStep shape (bytes_for page_of_stamp) new tree call answer
