-- How a call that writes ends, after a part of it.
use Rattle.std.proofs.Common.{◌≡◌, ℕ, ◌+◌, ◌≤◌, [], Some, Err, subst, arith}
use Rattle.nl_field.specs.declared.shape.Shape.{Shape}
use Rattle.nl_tree.specs.Step.{step}
use Rattle.nl_tree.specs.declared.call.Call.{Call}
use Rattle.nl_tree.specs.declared.reply.Refusal.{Refusal}
use Rattle.nl_tree.specs.declared.reply.Reply.TheVariants.{Count, No}
use Rattle.nl_iface.specs.declared.counts.Counts.{Ghosts}
use Rattle.nl_meta_running.specs.declared.answer.Stop.{Stop}
use Rattle.nl_meta_running.specs.declared.answer.Stop.TheVariants as stop
use Rattle.nl_core.specs.Goes.{PreservesVolume}
use Rattle.nl_core.specs.declared.state.Core.{Core}
use Rattle.nl_core.proofs.Onward.{goes_more, goes_then}
use Rattle.nl_calls_write.specs.Calls.{AnswersWrite, EndsWrite, ended_as}
use Rattle.nl_calls_bytes.specs.Ranges.{len_of}
use Rattle.nl_calls_steps.specs.declared.answer.Written.TheVariants as written
use Rattle.nl_calls_steps.specs.Answers.{EndsEarly}
use Rattle.nl_calls_steps.specs.Calls.{HasPagesOfFiles, IfWritten, IfUndone, OtherLinesStay, TakesWithin, stop_in}
use Rattle.nl_calls_steps.specs.declared.answer.Written.{Written}
use Rattle.nl_calls_steps.proofs.Early.{within-early}
use Rattle.nl_calls_steps.proofs.Going.{others_then}

-- ---- it ended by now

-- refused
pub ends_refused : {D : Type 0} (g : Ghosts D) (m worker : ℕ) (call : Call) (u v : Core D) (refusal : Refusal) → PreservesVolume g m u v → OtherLinesStay worker u.flight v.flight → AnswersWrite g call u (written.No refusal)
    → EndsWrite g m worker call u v (written.No refusal)
ends_refused g m worker call u v refusal a stay answers = record { done = tt; undone = a; answers = answers; others = stay; early = tt }

-- and early
pub ends_early : {D : Type 0} (g : Ghosts D) (m worker : ℕ) (call : Call) (u v : Core D) (s : Stop) → PreservesVolume g m u v → OtherLinesStay worker u.flight v.flight → EndsEarly g u v (Some s)
    → EndsWrite g m worker call u v (ended_as (Err s))
ends_early g m worker call u v stop.Fault a stay e = record { done = tt; undone = a; answers = tt; others = stay; early = e }
ends_early g m worker call u v (stop.Lost w f) a stay e = record { done = tt; undone = a; answers = tt; others = stay; early = e }

-- ---- after a part before

module _ {D : Type 0} (g : Ghosts D) (m worker : ℕ) (call : Call) (u v : Core D) (a : PreservesVolume g m u v) (stay : OtherLinesStay worker u.flight v.flight) where
  answers_before : (answer : Written) → AnswersWrite g call v answer → AnswersWrite g call u answer
  answers_before (written.Done files) h = λ tells page_of_stamp tree at.
      let k = a.runs tells page_of_stamp tree at in
      subst (λ (s : Shape). (step s tree call).reply ≡ Count (len_of call)) a.same_shape (h tells k.pages tree k.runs)
  answers_before (written.No refusal) h = λ tells page_of_stamp tree at.
      let k = a.runs tells page_of_stamp tree at in
      subst (λ (s : Shape). step s tree call ≡ record { reply = No refusal; bytes = []; tree = tree }) a.same_shape (h tells k.pages tree k.runs)
  answers_before (written.Lost w f) h = tt
  answers_before written.Fault h = tt

  module _ (w : Core D) (n k : ℕ) (few : m + n ≤ k) where
    more : (x : Core D) → PreservesVolume g n v x → PreservesVolume g k u x
    more x b = goes_more g (m + n) k u x few (goes_then g u v x m n a b)

    taken : TakesWithin g n worker call v w → TakesWithin g k worker call u w
    taken t = record { between = t.between; core = t.core; goes = more t.between t.goes; steps = t.steps; makes = t.makes; ended = t.ended }

    done_after : (answer : Written) → IfWritten answer (λ files. TakesWithin g n worker call v w × HasPagesOfFiles g w files) → IfWritten answer (λ files. TakesWithin g k worker call u w × HasPagesOfFiles g w files)
    done_after (written.Done files) h = (taken h.0, h.1)
    done_after (written.No refusal) h = tt
    done_after (written.Lost f t) h = tt
    done_after written.Fault h = tt

    undone_after : (answer : Written) → IfUndone answer (PreservesVolume g n v w) → IfUndone answer (PreservesVolume g k u w)
    undone_after (written.Done files) h = tt
    undone_after (written.No refusal) h = more w h
    undone_after (written.Lost f t) h = more w h
    undone_after written.Fault h = more w h

    pub ends_after : (answer : Written) → EndsWrite g n worker call v w answer → EndsWrite g k worker call u w answer
    ends_after answer e = record {
      done = done_after answer e.done;
      undone = undone_after answer e.undone;
      answers = answers_before answer e.answers;
      others = others_then worker u.flight v.flight w.flight stay e.others;
      early = within-early g u v w w (stop_in answer) a.reads a.writes (omega arith) (omega arith) e.early;
    }
