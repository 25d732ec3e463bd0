-- What a truncate does to a core, and what it answers.
use Rattle.std.specs.Prelude.{◌≡◌, ℕ, ◌<◌, ◌/◌, ◌^◌, ⊤, [], List, IsSome, Option, Some}
use Rattle.nl_tree_content.specs.ContentLaws.{cut_page}
use Rattle.nl_field.specs.FileContent.{cut_to, page_bytes}
use Rattle.nl_field.specs.declared.inode.InodeRec.{InodeRec}
use Rattle.nl_tree.specs.Represents.{node_reached}
use Rattle.nl_tree.specs.Step.{step}
use Rattle.nl_tree.specs.Tree.{Tree, content_of, node_at, with_content}
use Rattle.nl_tree.specs.declared.call.Call.TheVariants.{Truncate}
use Rattle.nl_tree.specs.declared.reply.Reply.TheVariants.{Done, No}
use Rattle.nl_flight.specs.Flight.{begun, of_worker, with_line}
use Rattle.nl_iface.specs.declared.counts.Counts.{Ghosts}
use Rattle.nl_inode.specs.Nodes.{page_of_node}
use Rattle.nl_meta.specs.Consistent.{PageOfStamp}
use Rattle.nl_meta.specs.Pages.{page_of}
use Rattle.nl_spec_commits.specs.Trees.{RepresentsTree}
use Rattle.nl_core.specs.Core.{IsCore, running_of}
use Rattle.nl_core.specs.Goes.{PreservesVolume}
use Rattle.nl_core.specs.Trees.{CoreRepresentsTree}
use Rattle.nl_core.specs.declared.state.Core.{Core}
use Rattle.nl_calls_files.specs.Fits.{IsFileOf}
use Rattle.nl_calls_steps.specs.Lines.{worker_pages}
use Rattle.nl_calls_steps.specs.Steps.{Steps}
use Rattle.nl_calls_steps.specs.Truncating.{AreCut, HasPartial}
use Rattle.nl_calls_steps.specs.declared.answer.Written.TheVariants as written
use Rattle.nl_calls_steps.specs.Answers.{EndsEarly}
use Rattle.nl_calls_steps.specs.Calls.{HasPagesOfFiles, IfWritten, IfUndone, OtherLinesStay, RepresentsSomeTree, TakesCall, stop_in}
use Rattle.nl_calls_steps.specs.Finding.{nodes_of}
use Rattle.nl_calls_steps.specs.declared.answer.Written.{Written}

-- What holds before a truncate of a worker without a line: the volume runs and can be written.
pub record CanTruncate {D : Type 0} (g : Ghosts D) (v : Core D) (worker line : ℕ) : Type 0 where
  pub writes : v.stopped ≡ 0
  pub runs : RepresentsSomeTree g v
  pub known : worker < 8
  pub some : 0 < line
  pub none : of_worker v.flight worker ≡ begun 0

-- the node is a file with this record, before and after, and its page is resident
pub record IsOpenFile {D : Type 0} (g : Ghosts D) (old new : Core D) (n : ℕ) (rec : InodeRec) : Type 0 where
  pub before : IsFileOf g old.device old.meta n rec
  pub after : IsFileOf g new.device new.meta n rec
  pub there : IsSome (page_of new.meta (page_of_node n))

-- of the file to which a path leads in whatever tree the core runs as, these are the bytes of the page in which it ends, without those from
-- this size on
abbrev pub HasCutPage : {D : Type 0} → Ghosts D → Core D → ℕ → ℕ → List ℕ → Type 0
HasCutPage g v n size bytes =
    g.tells → (page_of_stamp : ℕ → Option PageOfStamp) (tree : Tree) (path : List (List ℕ)) → CoreRepresentsTree g v page_of_stamp tree
    → node_reached (nodes_of g v) 0 path ≡ Some n
    → bytes ≡ cut_page size (size / 4096) (page_bytes (content_of (node_at tree path)) (size / 4096))

-- the worker's pages in flight are those of a cut of the file to this size, in whatever tree the core runs as
abbrev pub HasCutPages : {D : Type 0} → Ghosts D → Core D → ℕ → ℕ → ℕ → Type 0
HasCutPages g v worker n size =
    g.tells → (page_of_stamp : ℕ → Option PageOfStamp) (tree : Tree) (path : List (List ℕ)) → CoreRepresentsTree g v page_of_stamp tree
    → node_reached (nodes_of g v) 0 path ≡ Some n
    → AreCut page_of_stamp (content_of (node_at tree path)) size (worker_pages v worker)

-- The node is a file, and where it has bytes from this size on in the page in which it ends then, the worker has that page without them in
-- flight.
pub record CanCut {D : Type 0} (g : Ghosts D) (v : Core D) (worker n size : ℕ) : Type 0 where
  pub rec : InodeRec
  pub file : IsFileOf g v.device v.meta n rec
  pub partial : HasPartial g v worker n size rec
  pub pages : HasCutPages g v worker n size

-- The file is cut to the size in whatever tree the core ran as, and the worker has no line.
pub record IsCutInTree {D : Type 0} (g : Ghosts D) (worker n size : ℕ) (old new : Core D) : Type 0 where
  pub steps : Steps g old new
  pub flight : new.flight ≡ with_line old.flight worker (begun 0)
  pub cut : g.tells → (page_of_stamp : ℕ → Option PageOfStamp) (tree : Tree) (path : List (List ℕ)) → CoreRepresentsTree g old page_of_stamp tree
      → node_reached (nodes_of g old) 0 path ≡ Some n
      → RepresentsTree (g.shape new.device) (running_of g new) page_of_stamp (with_content tree path (cut_to (content_of (node_at tree path)) size))

-- The file is not cut, and the core goes on as it was.
pub record IsUncut {D : Type 0} (g : Ghosts D) (old new : Core D) : Type 0 where
  pub goes : PreservesVolume g 0 old new
  pub flight : new.flight ≡ old.flight

-- The core goes on, and then the file is cut.
pub record CutsFile {D : Type 0} (g : Ghosts D) (most worker n size : ℕ) (old new : Core D) : Type 0 where
  pub between : Core D
  pub core : IsCore g between
  pub goes : PreservesVolume g most old between
  pub is_cut : IsCutInTree g worker n size between new

-- ---- answers

-- The step of each tree as which the core ran answers to a truncate what the core answers.
abbrev pub AnswersTruncate : {D : Type 0} → Ghosts D → List (List ℕ) → ℕ → Core D → Written → Type 0
AnswersTruncate g path size old (written.Done files) =
    g.tells → (page_of_stamp : ℕ → Option PageOfStamp) (tree : Tree) → CoreRepresentsTree g old page_of_stamp tree
    → (step (g.shape old.device) tree (Truncate path size)).reply ≡ Done
AnswersTruncate g path size old (written.No refusal) =
    g.tells → (page_of_stamp : ℕ → Option PageOfStamp) (tree : Tree) → CoreRepresentsTree g old page_of_stamp tree
    → step (g.shape old.device) tree (Truncate path size) ≡ record { reply = No refusal; bytes = []; tree = tree }
AnswersTruncate g path size old (written.Lost w f) = ⊤
AnswersTruncate g path size old written.Fault = ⊤

-- All of a truncate: what it does, what it answers, and why it ended early.
pub record Truncates {D : Type 0} (g : Ghosts D) (worker : ℕ) (path : List (List ℕ)) (size : ℕ) (old new : Core D) (answer : Written) : Type 0 where
  pub core : IsCore g new
  pub done : IfWritten answer (λ files. TakesCall g worker (Truncate path size) old new × HasPagesOfFiles g new files)
  pub undone : IfUndone answer (PreservesVolume g (2 ^ 40) old new)
  pub answers : AnswersTruncate g path size old answer
  pub others : OtherLinesStay worker old.flight new.flight
  pub early : EndsEarly g old new (stop_in answer)
