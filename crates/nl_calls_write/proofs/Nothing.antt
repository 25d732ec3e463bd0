-- A call that writes no bytes.
use Rattle.std.proofs.Common.{◌≡◌, ℕ, ◌<◌, false, List, Option, Some, refl, sym, ap, subst, ◌∙◌, arith}
use Rattle.nl_field.specs.declared.shape.Shape.{Shape}
use Rattle.nl_tree.specs.Represents.{node_reached}
use Rattle.nl_tree.specs.Step.{Outcome, is_too_long, step}
use Rattle.nl_tree.specs.Tree.{Tree}
use Rattle.nl_tree.specs.declared.call.Call.{Call}
use Rattle.nl_tree.specs.declared.reply.Reply.TheVariants.{Count}
use Rattle.nl_core_callbacks.specs.Handled.{nameless_line}
use Rattle.nl_flight.specs.Flight.{InFlight, of_worker}
use Rattle.nl_iface.specs.declared.counts.Counts.{Ghosts}
use Rattle.nl_meta.specs.Consistent.{PageOfStamp}
use Rattle.nl_meta.proofs.PageProofs.{none}
use Rattle.nl_meta_running.proofs.Holds.{reads-none}
use Rattle.nl_spec_commits.specs.Trees.{RepresentsTree}
use Rattle.nl_core.specs.Core.{IsCore, running_of}
use Rattle.nl_core.specs.Dropping.{DropsLine}
use Rattle.nl_core.specs.Goes.{PreservesVolume}
use Rattle.nl_core.specs.Trees.{CoreRepresentsTree}
use Rattle.nl_core.specs.declared.state.Core.{Core}
use Rattle.nl_calls_steps.specs.Steps.{Steps}
use Rattle.nl_calls_write.specs.Calls.{EndsWrite}
use Rattle.nl_calls_bytes.specs.Laws.{LooksRefuseAll}
use Rattle.nl_calls_bytes.specs.Ranges.{IsWriting, len_of, path_of}
use Rattle.nl_calls_steps.specs.declared.answer.Written.TheVariants as answer
use Rattle.nl_calls_steps.specs.Calls.{HasPagesOfFiles}
use Rattle.nl_calls_steps.specs.Finding.{IsSomeFile, nodes_of}
use Rattle.nl_calls_steps.proofs.WorkerLines.{others_dropped, own_dropped}
use Rattle.nl_calls_steps.proofs.Going.{file_on, files_on, leads_on}
use Rattle.nl_calls_write.proofs.Answered.{done_none, replies, tree_stays}

no_step : {D : Type 0} (g : Ghosts D) (v : Core D) → Steps g v v
no_step g v = record { reads = reads-none g v.device; read_faults = omega arith; pages = none v.meta; room = omega arith; others = refl }

module _ {D : Type 0} (g : Ghosts D) (u v : Core D) (worker n files : ℕ) (call : Call) (core : IsCore g u) (after : IsCore g v) (known : worker < 8) (a : PreservesVolume g 0 u v) (d : DropsLine g worker u v)
    (w : IsWriting call) (none_written : len_of call ≡ 0) (short : is_too_long (path_of call) ≡ false) (leads : node_reached (nodes_of g u) 0 (path_of call) ≡ Some n) (f : IsSomeFile g u n) (count : HasPagesOfFiles g u files) (looks : LooksRefuseAll) where
  leads_still : node_reached (nodes_of g v) 0 (path_of call) ≡ Some n
  leads_still = leads_on g 0 u v a (path_of call) n leads

  still : IsSomeFile g v n
  still = file_on g 0 u v a n f

  module _ (page_of_stamp : ℕ → Option PageOfStamp) (tree : Tree) (at : CoreRepresentsTree g v page_of_stamp tree) where
    same_tree : (step (g.shape v.device) tree call).tree ≡ tree
    same_tree = ap (λ (o : Outcome). o.tree) (done_none g v after n still.0 still.1 call w short leads_still looks page_of_stamp tree at none_written) ∙ tree_stays g v after n still.0 still.1 call w short leads_still looks page_of_stamp tree at none_written

    makes : RepresentsTree (g.shape v.device) (running_of g v) page_of_stamp (step (g.shape v.device) tree call).tree
    makes = subst (λ (t : Tree). RepresentsTree (g.shape v.device) (running_of g v) page_of_stamp t) (sym same_tree) at.runs

    replied : (step (g.shape v.device) tree call).reply ≡ Count (len_of call)
    replied = replies (g.shape v.device) tree call w (done_none g v after n still.0 still.1 call w short leads_still looks page_of_stamp tree at none_written)

  pub ends_none : EndsWrite g 0 worker call u v (answer.Done files)
  ends_none = record {
    done = (
      record {
        between = v;
        core = after;
        goes = a;
        steps = no_step g v;
        makes = λ tells page_of_stamp tree at. makes page_of_stamp tree at;
        ended = ap (λ (x : List InFlight). of_worker x worker) d.flight ∙ own_dropped u.flight worker core.flight known;
      },
      files_on g 0 u v a files count,
    );
    undone = tt;
    answers = λ tells page_of_stamp tree at.
        let k = a.runs tells page_of_stamp tree at in
        subst (λ (s : Shape). (step s tree call).reply ≡ Count (len_of call)) a.same_shape (replied k.pages tree k.runs);
    others = λ x far. ap nameless_line (ap (λ (l : List InFlight). of_worker l x) d.flight ∙ others_dropped u.flight worker core.flight known x far);
    early = tt;
  }
