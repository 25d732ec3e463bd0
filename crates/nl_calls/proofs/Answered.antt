-- Answers of parts of a call.
use Rattle.std.proofs.Common.{◌≡◌, inl, inr, ℕ, ◌+◌, ◌&&◌, Bool, true, false, List, Option, Some, None, refl, sym, subst, ◌∙◌, arith}
use Rattle.std.specs.Prelude.{◌≤◌, IfSome, is_none}
use Rattle.std.proofs.lemmas.Bool.{and_parts}
use Rattle.nl_field.specs.declared.shape.Shape.{Shape}
use Rattle.nl_tree.specs.Causes.{FaultRose, FaultWithin, fault_in, fault_sum}
use Rattle.nl_tree.specs.Replay.{Answers, step_marked}
use Rattle.nl_tree.specs.Tree.{Tree}
use Rattle.nl_tree.specs.declared.call.Call.{Call}
use Rattle.nl_tree.specs.declared.reply.FaultReply.{FaultReply}
use Rattle.nl_tree.specs.declared.reply.FaultReply.TheVariants.{Eio, Erofs, Eworn, Edamaged}
use Rattle.nl_tree.specs.declared.reply.Reply.{Reply}
use Rattle.nl_tree.specs.declared.reply.Reply.TheVariants.{Done, Count, Content, Names, File, Dir, Synced, No, Fault}
use Rattle.nl_iface.specs.declared.counts.Counts.{Ghosts}
use Rattle.nl_iface.specs.declared.moving_pages.MovingPages.{Ghosts as Moving}
use Rattle.nl_meta.proofs.PageProofs.{none as changes_none}
use Rattle.nl_meta_running.proofs.Holds.{reads-none}
use Rattle.nl_spec_commits.specs.Trees.{RepresentsTree}
use Rattle.nl_core.specs.Core.{IsCore, running_of}
use Rattle.nl_core.specs.Goes.{PreservesVolume}
use Rattle.nl_core.specs.declared.state.Core.{Core}
use Rattle.nl_core.proofs.Onward.{goes_then}
use Rattle.nl_calls_steps.specs.Steps.{Steps}
use Rattle.nl_calls_steps.specs.Calls.{OtherLinesStay, counts_of}
use Rattle.nl_namespace.proofs.Taking.{takes-none}
use Rattle.nl_calls_names.specs.Gathering.{graph_on}
use Rattle.nl_calls_names.specs.Naming.{TakesLeastOn}
use Rattle.nl_calls.specs.Answering.{AnswersCall, AnswersOn, RunsReclaimPass, MakesEffect, HasEffectOf, Syncs, goal_now, is_sync_call, is_synced}
use Rattle.nl_calls.proofs.Ended.{ends_then}

-- ---- what a call does

-- no step
pub steps_none : {D : Type 0} (g : Ghosts D) (v : Core D) → Steps g v v
steps_none g v = record {
  reads = reads-none g v.device;
  read_faults = omega arith;
  pages = changes_none v.meta;
  room = omega arith;
  others = refl;
}

pub takes_nothing : {D : Type 0} (g : Ghosts D) (v : Core D) → TakesLeastOn g v v
takes_nothing g v = takes-none v.nodes (graph_on g v) (graph_on g v) (λ k. refl)

module _ {D : Type 0} (g : Ghosts D) (call : Call) (u v : Core D) where
  -- a call that leaves the tree
  pub leaves_effect : (fault : Option FaultReply) → ((shape : Shape) (tree : Tree) → (step_marked shape tree (call, fault)).tree ≡ tree) → (n : ℕ) → IsCore g v → PreservesVolume g n u v → MakesEffect g call fault u v
  leaves_effect fault same n core goes = record {
    between = v;
    core = core;
    most = n;
    goes = goes;
    steps = steps_none g v;
    makes = λ tells page_of_stamp tree runs. subst (RepresentsTree (g.shape v.device) (running_of g v) page_of_stamp) (sym (same (g.shape v.device) tree)) runs.runs;
    takes = λ is. takes_nothing g v;
  }

  -- one that met a fault
  pub fault_effect : (fault : FaultReply) (n : ℕ) → IsCore g v → PreservesVolume g n u v → MakesEffect g call (Some fault) u v
  fault_effect fault = leaves_effect (Some fault) (λ shape tree. refl)

  -- the effect of a call whose reply is no sync's
  pub plain_effect : (goal : ℕ) (reply : Reply) → is_synced reply ≡ false → MakesEffect g call (fault_in reply) u v → HasEffectOf g goal call u v reply
  plain_effect goal Done is x = x
  plain_effect goal (Count n) is x = x
  plain_effect goal Content is x = x
  plain_effect goal (Names n) is x = x
  plain_effect goal (File size pages) is x = x
  plain_effect goal (Dir entries) is x = x
  plain_effect goal (Synced upto moment) is x = absurd (cc is)
  plain_effect goal (No refusal) is x = x
  plain_effect goal (Fault fault) is x = x

pub and_false : (b : Bool) → (b && false) ≡ false
and_false true = refl
and_false false = refl

-- ---- a fault

module _ {D : Type 0} (g : Ghosts D) (u v : Core D) where
  pub failed_cause : FaultRose (counts_of g u.device) (counts_of g v.device) → FaultWithin g.tells (counts_of g u.device) (counts_of g v.device) (Eio (fault_sum (counts_of g v.device)))
  failed_cause rose = (rose, refl)

  pub lost_cause : (wanted found : ℕ) → (found ≡ wanted → ⊥) → (g.tells → ⊥) → FaultWithin g.tells (counts_of g u.device) (counts_of g v.device) (Edamaged wanted found)
  lost_cause wanted found other told = (told, λ same. other (sym same))

-- ---- after the core went on

module _ {D : Type 0} (g : Ghosts D) (call : Call) (n : ℕ) (u v w : Core D) (goes : PreservesVolume g n u v) where
  effect_after : (fault : Option FaultReply) → MakesEffect g call fault v w → MakesEffect g call fault u w
  effect_after fault x = record {
    between = x.between;
    core = x.core;
    most = n + x.most;
    goes = goes_then g u v x.between n x.most goes x.goes;
    steps = x.steps;
    makes = x.makes;
    takes = x.takes;
  }

  syncs_after : (goal due upto moment : ℕ) → goal ≡ due → Syncs g goal upto moment v w → Syncs g due upto moment u w
  syncs_after goal due upto moment same x = record {
    most = n + x.most;
    goes = goes_then g u v w n x.most goes x.goes;
    reached = subst (λ k. k ≤ w.committed) same x.reached;
    upto_is = x.upto_is;
    moment_is = x.moment_is;
  }

  pub effect_of_after : (goal due : ℕ) (reply : Reply) → (is_synced reply ≡ true → goal ≡ due) → HasEffectOf g goal call v w reply → HasEffectOf g due call u w reply
  effect_of_after goal due Done same x = effect_after None x
  effect_of_after goal due (Count n) same x = effect_after None x
  effect_of_after goal due Content same x = effect_after None x
  effect_of_after goal due (Names n) same x = effect_after None x
  effect_of_after goal due (File size pages) same x = effect_after None x
  effect_of_after goal due (Dir entries) same x = effect_after None x
  effect_of_after goal due (Synced upto moment) same x = syncs_after goal due upto moment (same refl) x
  effect_of_after goal due (No refusal) same x = effect_after None x
  effect_of_after goal due (Fault fault) same x = effect_after (Some fault) x

  rose_after : FaultRose (counts_of g v.device) (counts_of g w.device) → FaultRose (counts_of g u.device) (counts_of g w.device)
  rose_after (inl rose) = inl (let low = goes.reads in omega (arith, rose, low))
  rose_after (inr rose) = inr (let low = goes.writes in omega (arith, rose, low))

  within_after : (f : FaultReply) → FaultWithin g.tells (counts_of g v.device) (counts_of g w.device) f → FaultWithin g.tells (counts_of g u.device) (counts_of g w.device) f
  within_after (Eio n) is = (rose_after is.0, is.1)
  within_after (Erofs n) is = is
  within_after Eworn is = is
  within_after (Edamaged wanted found) is = is

  pub cause_after : (f : Option FaultReply) → IfSome f (FaultWithin g.tells (counts_of g v.device) (counts_of g w.device)) → IfSome f (FaultWithin g.tells (counts_of g u.device) (counts_of g w.device))
  cause_after None is = is
  cause_after (Some f) is = within_after f is

  pub answers_after : (reply : Reply) (out : List ℕ) → AnswersOn g call v reply out → AnswersOn g call u reply out
  answers_after reply out is tells page_of_stamp tree runs =
      let on = goes.runs tells page_of_stamp tree runs in
      subst (λ (h : Shape). Answers (step_marked h tree (call, fault_in reply)) reply out) goes.same_shape (is tells on.pages tree on.runs)

  pub cleans_after : (m : Moving D) → RunsReclaimPass g m v w → RunsReclaimPass g m u w
  cleans_after m c = record { between = c.between; most = n + c.most; goes = goes_then g u v c.between n c.most goes c.goes; round = c.round }

  -- a sync has the same goal
  pub answer_after : (worker : ℕ) (reply : Reply) (out : List ℕ) (files : ℕ) → OtherLinesStay worker u.flight v.flight → (is_sync_call call ≡ true → goal_now v worker ≡ goal_now u worker) → AnswersCall g worker call v w reply out files → AnswersCall g worker call u w reply out files
  answer_after worker reply out files stay same x = record {
    effect = effect_of_after (goal_now v worker) (goal_now u worker) reply (λ is. same (and_parts (is_sync_call call) (is_none (fault_in reply)) (sym x.synced ∙ is)).0) x.effect;
    answers = answers_after reply out x.answers;
    cause = cause_after (fault_in reply) x.cause;
    synced = x.synced;
    line = ends_then worker u.flight v.flight w.flight stay x.line;
    files_are = x.files_are;
  }

-- what failed before the core went on
pub rose_on : {D : Type 0} (g : Ghosts D) (u v w : Core D) {n : ℕ} → PreservesVolume g n v w → FaultRose (counts_of g u.device) (counts_of g v.device) → FaultRose (counts_of g u.device) (counts_of g w.device)
rose_on g u v w goes (inl rose) = inl (let up = goes.reads in omega (arith, rose, up))
rose_on g u v w goes (inr rose) = inr (let up = goes.writes in omega (arith, rose, up))
