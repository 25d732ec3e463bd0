-- How a truncate ends, by what its parts did.
use Rattle.std.proofs.Common.{◌≡◌, ℕ, ◌^◌, ◌<◌, ◌≤◌, false, List, [], sym, ap, subst, ◌∙◌, Option, Some, None, arith}
use Rattle.std.proofs.lemmas.List.{get_or-set_same}
use Rattle.nl_field.specs.FileContent.{cut_to}
use Rattle.nl_field.specs.Numbers.{max_file_size}
use Rattle.nl_field.specs.declared.inode.InodeRec.{InodeRec}
use Rattle.nl_field.specs.declared.shape.Shape.{Shape}
use Rattle.nl_tree.specs.Represents.{node_reached}
use Rattle.nl_tree.specs.Step.{Outcome, done_with, is_too_long, space_refusal, step}
use Rattle.nl_tree.specs.Tree.{Tree, content_of, node_at, with_content}
use Rattle.nl_tree.specs.declared.call.Call.TheVariants.{Truncate}
use Rattle.nl_tree.specs.declared.reply.Refusal.{Refusal}
use Rattle.nl_tree.specs.declared.reply.Refusal.TheVariants.{Efbig}
use Rattle.nl_tree.specs.declared.reply.Reply.TheVariants.{Done, No}
use Rattle.nl_flight.specs.Flight.{InFlight, begun, of_worker}
use Rattle.nl_iface.specs.declared.counts.Counts.{Ghosts}
use Rattle.nl_meta.specs.Consistent.{PageOfStamp}
use Rattle.nl_namespace.specs.PathLaws.{LooksInTree}
use Rattle.nl_meta_running.specs.declared.answer.Stop.TheVariants as stop
use Rattle.nl_spec_commits.specs.Trees.{RepresentsTree}
use Rattle.nl_core.specs.Core.{IsCore, running_of}
use Rattle.nl_core.specs.Goes.{PreservesVolume}
use Rattle.nl_core.specs.Trees.{CoreRepresentsTree}
use Rattle.nl_core.specs.declared.state.Core.{Core}
use Rattle.nl_core.proofs.Lines.{in_flight}
use Rattle.nl_core.proofs.Onward.{goes_more, goes_then}
use Rattle.nl_calls_files.specs.Fits.{IsFileOf}
use Rattle.nl_calls_files.proofs.Directories.{room}
use Rattle.nl_calls_files.specs.Refusals.{refusal_of_path}
use Rattle.nl_calls_files.proofs.FoundFiles.{looks-refuse}
use Rattle.nl_calls_truncate.specs.Truncating.{AnswersTruncate, CutsFile, Truncates}
use Rattle.nl_calls_steps.specs.declared.answer.Written.TheVariants as written
use Rattle.nl_calls_steps.specs.Answers.{EndsEarly}
use Rattle.nl_calls_steps.specs.Calls.{HasPagesOfFiles, IfWritten, IfUndone, OtherLinesStay, TakesCall, stop_in}
use Rattle.nl_calls_steps.specs.Finding.{IsSomeFile, nodes_of}
use Rattle.nl_calls_steps.specs.declared.answer.Written.{Written}
use Rattle.nl_calls_steps.proofs.Early.{within-early}
use Rattle.nl_calls_steps.proofs.Going.{files_on, leads_on, others_then}
use Rattle.nl_calls_truncate.proofs.CutNodes.{file_goes}
use Rattle.nl_calls_truncate.proofs.CutStep.{far_refuses, is_done, path_refuses}

-- ---- after a part that goes on

module _ {D : Type 0} (g : Ghosts D) (u v w : Core D) (worker : ℕ) (path : List (List ℕ)) (size : ℕ) (goes : PreservesVolume g 0 u v) (others : OtherLinesStay worker u.flight v.flight) where
  answers_before : (answer : Written) → AnswersTruncate g path size v answer → AnswersTruncate g path size u answer
  answers_before (written.Done files) h = λ tells page_of_stamp tree at.
      let k = goes.runs tells page_of_stamp tree at in
      subst (λ (shape : Shape). (step shape tree (Truncate path size)).reply ≡ Done) goes.same_shape (h tells k.pages tree k.runs)
  answers_before (written.No refusal) h = λ tells page_of_stamp tree at.
      let k = goes.runs tells page_of_stamp tree at in
      subst (λ (shape : Shape). step shape tree (Truncate path size) ≡ record { reply = No refusal; bytes = []; tree = tree }) goes.same_shape (h tells k.pages tree k.runs)
  answers_before (written.Lost wanted found) h = tt
  answers_before written.Fault h = tt

  takes_before : TakesCall g worker (Truncate path size) v w → TakesCall g worker (Truncate path size) u w
  takes_before t = record { between = t.between; core = t.core; goes = goes_then g u v t.between 0 (2 ^ 40) goes t.goes; steps = t.steps; makes = t.makes; ended = t.ended }

  done_before : (answer : Written) → IfWritten answer (λ files. TakesCall g worker (Truncate path size) v w × HasPagesOfFiles g w files) → IfWritten answer (λ files. TakesCall g worker (Truncate path size) u w × HasPagesOfFiles g w files)
  done_before (written.Done files) h = (takes_before h.0, h.1)
  done_before (written.No refusal) h = tt
  done_before (written.Lost wanted found) h = tt
  done_before written.Fault h = tt

  undone_before : (answer : Written) → IfUndone answer (PreservesVolume g (2 ^ 40) v w) → IfUndone answer (PreservesVolume g (2 ^ 40) u w)
  undone_before (written.Done files) h = tt
  undone_before (written.No refusal) h = goes_then g u v w 0 (2 ^ 40) goes h
  undone_before (written.Lost wanted found) h = goes_then g u v w 0 (2 ^ 40) goes h
  undone_before written.Fault h = goes_then g u v w 0 (2 ^ 40) goes h

  pub truncates_before : (answer : Written) → Truncates g worker path size v w answer → Truncates g worker path size u w answer
  truncates_before answer t = record {
    core = t.core;
    done = done_before answer t.done;
    undone = undone_before answer t.undone;
    answers = answers_before answer t.answers;
    others = others_then worker u.flight v.flight w.flight others t.others;
    early = within-early g u v w w (stop_in answer) goes.reads goes.writes (omega arith) (omega arith) t.early;
  }

-- ---- not done

module _ {D : Type 0} (g : Ghosts D) (u v : Core D) (worker : ℕ) (path : List (List ℕ)) (size most : ℕ) (few : most ≤ 2 ^ 40) (core : IsCore g v) (goes : PreservesVolume g most u v) (others : OtherLinesStay worker u.flight v.flight) where
  gone : PreservesVolume g (2 ^ 40) u v
  gone = goes_more g most (2 ^ 40) u v few goes

  pub refused_ends : (r : Refusal) → AnswersTruncate g path size u (written.No r) → Truncates g worker path size u v (written.No r)
  refused_ends r answers = record { core = core; done = tt; undone = gone; answers = answers; others = others; early = tt }

  pub fault_ends : EndsEarly g u v (Some stop.Fault) → Truncates g worker path size u v written.Fault
  fault_ends early = record { core = core; done = tt; undone = gone; answers = tt; others = others; early = early }

  pub lost_ends : (wanted found : ℕ) → EndsEarly g u v (Some (stop.Lost wanted found)) → Truncates g worker path size u v (written.Lost wanted found)
  lost_ends wanted found early = record { core = core; done = tt; undone = gone; answers = tt; others = others; early = early }

-- ---- what refuses it

module _ {D : Type 0} (g : Ghosts D) (v : Core D) (path : List (List ℕ)) (size : ℕ) where
  pub path_answers : (r : Refusal) → ((page_of_stamp : ℕ → Option PageOfStamp) (tree : Tree) → RepresentsTree (g.shape v.device) (running_of g v) page_of_stamp tree → refusal_of_path tree path ≡ Some r) → AnswersTruncate g path size v (written.No r)
  path_answers r refused = λ tells page_of_stamp tree at. path_refuses (g.shape v.device) tree path size r (refused page_of_stamp tree at.runs)

  module _ (law : LooksInTree) (short : is_too_long path ≡ false) (n : ℕ) (leads : node_reached (nodes_of g v) 0 path ≡ Some n) where
    none_refuses : (rec : InodeRec) → IsFileOf g v.device v.meta n rec → (page_of_stamp : ℕ → Option PageOfStamp) (tree : Tree) → CoreRepresentsTree g v page_of_stamp tree → refusal_of_path tree path ≡ None
    none_refuses rec file page_of_stamp tree at = (looks-refuse law (g.shape v.device) (running_of g v) page_of_stamp tree at.runs path short).file n rec file.is_node leads file.is_file

    pub far_answers : IsSomeFile g v n → max_file_size < size → AnswersTruncate g path size v (written.No Efbig)
    far_answers file far = λ tells page_of_stamp tree at. far_refuses (g.shape v.device) tree path size (none_refuses file.0 file.1 page_of_stamp tree at) far

-- ---- done

module _ {D : Type 0} (g : Ghosts D) (u w : Core D) (law : LooksInTree) (core : IsCore g u) (core_w : IsCore g w) (worker : ℕ) (known : worker < 8) (path : List (List ℕ)) (size : ℕ) (near : size ≤ max_file_size) (short : is_too_long path ≡ false)
    (n : ℕ) (leads : node_reached (nodes_of g u) 0 path ≡ Some n) (file : IsSomeFile g u n) (most : ℕ) (few : most ≤ 2 ^ 40) (cuts : CutsFile g most worker n size u w) where
  abbrev between : Core D
  between = cuts.between

  module _ (tells : g.tells) (page_of_stamp : ℕ → Option PageOfStamp) (tree : Tree) (at : CoreRepresentsTree g between page_of_stamp tree) where
    abbrev next : Tree
    next = with_content tree path (cut_to (content_of (node_at tree path)) size)

    leads_between : node_reached (nodes_of g between) 0 path ≡ Some n
    leads_between = leads_on g most u between cuts.goes path n leads

    runs : RepresentsTree (g.shape w.device) (running_of g w) page_of_stamp next
    runs = cuts.is_cut.cut tells page_of_stamp tree path at leads_between

    -- the tree that was cut has room
    has_room : None ≡ space_refusal (g.shape between.device) next
    has_room = subst (λ (h : Shape). None ≡ space_refusal h next) cuts.is_cut.steps.reads.medium.virtual.same_shape (room (g.shape w.device) (running_of g w) page_of_stamp next runs)

    stepped : step (g.shape between.device) tree (Truncate path size) ≡ done_with next
    stepped =
        let on = file_goes g most u between cuts.goes core cuts.core n file.0 file.1 in
        is_done (g.shape between.device) tree path size (none_refuses g between path size law short n leads_between on.rec on.file page_of_stamp tree at) near has_room

    made : RepresentsTree (g.shape w.device) (running_of g w) page_of_stamp (step (g.shape between.device) tree (Truncate path size)).tree
    made = subst (λ (o : Outcome). RepresentsTree (g.shape w.device) (running_of g w) page_of_stamp o.tree) (sym stepped) runs

  takes : TakesCall g worker (Truncate path size) u w
  takes = record {
    between = between;
    core = cuts.core;
    goes = goes_more g most (2 ^ 40) u between few cuts.goes;
    steps = cuts.is_cut.steps;
    makes = λ tells page_of_stamp tree at. made tells page_of_stamp tree at;
    ended = ap (λ (f : List InFlight). of_worker f worker) cuts.is_cut.flight ∙ get_or-set_same between.flight worker (begun 0) (begun 0) (in_flight between.flight worker cuts.core.flight known);
  }

  answers : (files : ℕ) → AnswersTruncate g path size u (written.Done files)
  answers files = λ tells page_of_stamp tree at.
      let k = cuts.goes.runs tells page_of_stamp tree at in
      subst (λ (h : Shape). (step h tree (Truncate path size)).reply ≡ Done) cuts.goes.same_shape (ap (λ (o : Outcome). o.reply) (stepped tells k.pages tree k.runs))

  pub done_ends : (files : ℕ) → HasPagesOfFiles g w files → OtherLinesStay worker u.flight w.flight → Truncates g worker path size u w (written.Done files)
  done_ends files is others = record { core = core_w; done = (takes, is); undone = tt; answers = answers files; others = others; early = tt }

-- ---- how many pages files have where it is not done

pub undone_files : {D : Type 0} (g : Ghosts D) (u w : Core D) (most files : ℕ) (answer : Written) → HasPagesOfFiles g u files → IfUndone answer (PreservesVolume g most u w) → IfUndone answer (PreservesVolume g most u w × HasPagesOfFiles g w files)
undone_files g u w most files (written.Done now) has goes = tt
undone_files g u w most files (written.No refusal) has goes = (goes, files_on g most u w goes files has)
undone_files g u w most files (written.Lost wanted found) has goes = (goes, files_on g most u w goes files has)
undone_files g u w most files written.Fault has goes = (goes, files_on g most u w goes files has)
