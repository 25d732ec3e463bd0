-- Answers of calls that leave the tree, of such as change names, and of such as met a fault.
use Rattle.std.proofs.Common.{◌≡◌, ℕ, ◌≤◌, ◌&&◌, true, false, List, [], Option, Some, None, refl, sym, ap, subst, ◌∙◌}
use Rattle.std.specs.Prelude.{IfSome, is_none}
use Rattle.std.proofs.lemmas.Bool.{false≢true}
use Rattle.nl_field.specs.declared.shape.Shape.{Shape}
use Rattle.nl_tree.specs.Causes.{FaultRose, FaultWithin, fault_in, fault_sum}
use Rattle.nl_tree.specs.Replay.{Answers, step_marked}
use Rattle.nl_tree.specs.Step.{Outcome, step}
use Rattle.nl_tree.specs.Tree.{Tree}
use Rattle.nl_tree.specs.declared.call.Call.{Call}
use Rattle.nl_tree.specs.declared.call.Call.TheVariants.{Mkdir, Rmdir, Create, Unlink, Rename, Write, Fill, Read, Truncate, Stat, List as ListCall, Sync, Clean}
use Rattle.nl_tree.specs.declared.reply.FaultReply.{FaultReply}
use Rattle.nl_tree.specs.declared.reply.FaultReply.TheVariants.{Eio}
use Rattle.nl_tree.specs.declared.reply.Refusal.{Refusal}
use Rattle.nl_tree.specs.declared.reply.Reply.{Reply}
use Rattle.nl_tree.specs.declared.reply.Reply.TheVariants.{Done, No, Fault, Synced}
use Rattle.nl_iface.specs.declared.counts.Counts.{Ghosts}
use Rattle.nl_meta.specs.Consistent.{PageOfStamp}
use Rattle.nl_namespace.specs.Calls.{IsOfNames}
use Rattle.nl_spec_commits.specs.Trees.{RepresentsTree}
use Rattle.nl_core.specs.Core.{IsCore, running_of}
use Rattle.nl_core.specs.Goes.{PreservesVolume}
use Rattle.nl_core.specs.Laws.{PagesStayAsMany}
use Rattle.nl_core.specs.Trees.{CoreRepresentsTree}
use Rattle.nl_core.specs.declared.state.Core.{Core}
use Rattle.nl_core.proofs.Onward.{goes_none}
use Rattle.nl_calls_steps.specs.Steps.{Steps}
use Rattle.nl_calls_files.proofs.Directories.{room}
use Rattle.nl_calls_steps.specs.Calls.{MakesTree, RepresentsSomeTree, TakesWithin, counts_of}
use Rattle.nl_calls_read.specs.Looking.{IsPlainReply, OnlyLooks}
use Rattle.nl_calls_names.specs.Naming.{AnswersAs, TakesLeastOn}
use Rattle.nl_calls_names.specs.declared.answer.Naming.TheVariants as naming
use Rattle.nl_calls_bytes.specs.Ranges.{IsWriting}
use Rattle.nl_calls.specs.Answering.{AnswersCall, AnswersOn, EndsLine, MakesEffect, goal_now, is_sync_call, is_synced, pages_of_files}
use Rattle.nl_calls.proofs.Answered.{and_false, failed_cause, fault_effect, leaves_effect, plain_effect, steps_none, takes_nothing}
use Rattle.nl_calls.proofs.Counted.{goes_counted}
use Rattle.nl_calls.proofs.OneTree.{one_tree}
use Rattle.nl_calls.proofs.Leaving.{leaves_tree, looking_leaves}
use Rattle.nl_calls.proofs.Steps.{clean_step, done_answers, names_bytes, refused_answers, sync_step}

-- ---- a fault

module _ {D : Type 0} (g : Ghosts D) (worker : ℕ) (call : Call) (n : ℕ) (u v : Core D) (files : ℕ) (core : IsCore g v) (goes : PreservesVolume g n u v) (law : PagesStayAsMany) (are : files ≡ pages_of_files g u) (line : EndsLine worker u.flight v.flight)
    (out : List ℕ) (none : out ≡ []) where
  pub meets_fault : (f : FaultReply) → FaultWithin g.tells (counts_of g u.device) (counts_of g v.device) f → AnswersCall g worker call u v (Fault f) out files
  meets_fault f within = record {
    effect = fault_effect g call u v f n core goes;
    answers = λ tells page_of_stamp tree runs. (refl, none);
    cause = within;
    synced = sym (and_false (is_sync_call call));
    line = line;
    files_are = are ∙ sym (goes_counted g n u v goes law);
  }

  pub fails : (reply : Reply) → reply ≡ Fault (Eio (fault_sum (counts_of g v.device))) → FaultRose (counts_of g u.device) (counts_of g v.device) → AnswersCall g worker call u v reply out files
  fails reply is rose = subst (λ r. AnswersCall g worker call u v r out files) (sym is) (meets_fault (Eio (fault_sum (counts_of g v.device))) (failed_cause g u v rose))

-- ---- a call that only looks

only_looks : (call : Call) → OnlyLooks call → (leaves_tree call ≡ true) × (is_sync_call call ≡ false) × (call ≡ Clean → ⊥)
only_looks (Mkdir path) is = absurd is
only_looks (Rmdir path) is = absurd is
only_looks (Create path) is = absurd is
only_looks (Unlink path) is = absurd is
only_looks (Rename from to) is = absurd is
only_looks (Write path from bytes) is = absurd is
only_looks (Fill path from len byte) is = absurd is
only_looks (Read path from len) is = (refl, refl, λ e. cc e)
only_looks (Truncate path size) is = absurd is
only_looks (Stat path) is = (refl, refl, λ e. cc e)
only_looks (ListCall path) is = (refl, refl, λ e. cc e)
only_looks Sync is = absurd is
only_looks Clean is = absurd is

module _ {D : Type 0} (g : Ghosts D) (worker : ℕ) (call : Call) (n : ℕ) (u v : Core D) (files : ℕ) (core : IsCore g v) (goes : PreservesVolume g n u v) (law : PagesStayAsMany) (are : files ≡ pages_of_files g u) (line : EndsLine worker u.flight v.flight) where
  pub looked : OnlyLooks call → (reply : Reply) (out : List ℕ) → IsPlainReply reply → (g.tells → (page_of_stamp : ℕ → Option PageOfStamp) (tree : Tree) → CoreRepresentsTree g u page_of_stamp tree → Answers (step (g.shape u.device) tree call) reply out)
      → AnswersCall g worker call u v reply out files
  looked looks reply out plain answers =
      let k = only_looks call looks in
      record {
        effect = plain_effect g call u v (goal_now u worker) reply plain.1 (leaves_effect g call u v (fault_in reply) (λ shape tree. looking_leaves shape tree call (fault_in reply) k.0) n core goes);
        answers = λ tells page_of_stamp tree runs. subst (λ (f : Option FaultReply). Answers (step_marked (g.shape u.device) tree (call, f)) reply out) (sym plain.0) (answers tells page_of_stamp tree runs);
        cause = subst (λ (f : Option FaultReply). IfSome f (FaultWithin g.tells (counts_of g u.device) (counts_of g v.device))) (sym plain.0) tt;
        synced = plain.1 ∙ sym (ap (λ b. b && is_none (fault_in reply)) k.1);
        line = line;
        files_are = are ∙ sym (goes_counted g n u v goes law);
      }

  -- a round of reclaiming
  pub cleaned : AnswersCall g worker Clean u v Done [] files
  cleaned = record {
    effect = leaves_effect g Clean u v None (λ shape tree. looking_leaves shape tree Clean None refl) n core goes;
    answers = λ tells page_of_stamp tree runs. done_answers (step (g.shape u.device) tree Clean) (ap (λ (x : Outcome). x.reply) (is_clean page_of_stamp tree runs)) (ap (λ (x : Outcome). x.bytes) (is_clean page_of_stamp tree runs));
    cause = tt;
    synced = refl;
    line = line;
    files_are = are ∙ sym (goes_counted g n u v goes law);
  }
    where
      is_clean : (page_of_stamp : ℕ → Option PageOfStamp) (tree : Tree) → CoreRepresentsTree g u page_of_stamp tree → step (g.shape u.device) tree Clean ≡ record { reply = Done; bytes = []; tree = tree }
      is_clean page_of_stamp tree runs = clean_step (g.shape u.device) tree (room (g.shape u.device) (running_of g u) page_of_stamp tree runs.runs)

-- ---- a call that changes names

pub of_names : (call : Call) → IsOfNames call → (is_sync_call call ≡ false) × (call ≡ Clean → ⊥)
of_names (Mkdir path) is = (refl, λ e. cc e)
of_names (Rmdir path) is = (refl, λ e. cc e)
of_names (Create path) is = (refl, λ e. cc e)
of_names (Unlink path) is = (refl, λ e. cc e)
of_names (Rename from to) is = (refl, λ e. cc e)
of_names (Write path from bytes) is = absurd is
of_names (Fill path from len byte) is = absurd is
of_names (Read path from len) is = absurd is
of_names (Truncate path size) is = absurd is
of_names (Stat path) is = absurd is
of_names (ListCall path) is = absurd is
of_names Sync is = absurd is
of_names Clean is = absurd is

module _ {D : Type 0} (g : Ghosts D) (worker : ℕ) (call : Call) (u v : Core D) (files : ℕ) (is : IsOfNames call) (before : IsCore g u) (changes : Steps g u v) (least : TakesLeastOn g u v) (are : files ≡ pages_of_files g v) (line : EndsLine worker u.flight v.flight) where
  names_effect : (fault : Option FaultReply) → ((page_of_stamp : ℕ → Option PageOfStamp) (tree : Tree) → RepresentsTree (g.shape u.device) (running_of g u) page_of_stamp tree
      → RepresentsTree (g.shape v.device) (running_of g v) page_of_stamp (step_marked (g.shape u.device) tree (call, fault)).tree) → MakesEffect g call fault u v
  names_effect fault makes = record {
    between = u;
    core = before;
    most = 0;
    goes = goes_none g u before;
    steps = changes;
    makes = λ tells page_of_stamp tree runs. makes page_of_stamp tree runs.runs;
    takes = λ is. least;
  }

  pub named_done : g.shape v.device ≡ g.shape u.device → AnswersAs g call u v naming.Done → AnswersCall g worker call u v Done [] files
  named_done same ends = record {
    effect = names_effect None (λ page_of_stamp tree runs. subst (λ (h : Shape). RepresentsTree (g.shape v.device) (running_of g v) page_of_stamp (step h tree call).tree) same (ends page_of_stamp tree runs).1);
    answers = λ tells page_of_stamp tree runs.
        done_answers (step (g.shape u.device) tree call) (subst (λ (h : Shape). (step h tree call).reply ≡ Done) same (ends page_of_stamp tree runs.runs).0) (names_bytes (g.shape u.device) tree call is);
    cause = tt;
    synced = sym (ap (λ b. b && true) (of_names call is).0);
    line = line;
    files_are = are;
  }

  pub named_no : (refusal : Refusal) → g.shape v.device ≡ g.shape u.device → AnswersAs g call u v (naming.No refusal) → AnswersCall g worker call u v (No refusal) [] files
  named_no refusal same ends = record {
    effect = names_effect None (λ page_of_stamp tree runs.
        let k = ends page_of_stamp tree runs in
        subst (RepresentsTree (g.shape v.device) (running_of g v) page_of_stamp) (sym (ap (λ (x : Outcome). x.tree) (subst (λ (h : Shape). step h tree call ≡ record { reply = No refusal; bytes = []; tree = tree }) same k.0))) k.1);
    answers = λ tells page_of_stamp tree runs.
        refused_answers (step (g.shape u.device) tree call) tree refusal (subst (λ (h : Shape). step h tree call ≡ record { reply = No refusal; bytes = []; tree = tree }) same (ends page_of_stamp tree runs.runs).0);
    cause = tt;
    synced = sym (ap (λ b. b && true) (of_names call is).0);
    line = line;
    files_are = are;
  }

  -- the tree stays where a read failed
  pub named_fault : (f : FaultReply) → FaultWithin g.tells (counts_of g u.device) (counts_of g v.device) f
      → ((page_of_stamp : ℕ → Option PageOfStamp) (tree : Tree) → RepresentsTree (g.shape u.device) (running_of g u) page_of_stamp tree → RepresentsTree (g.shape v.device) (running_of g v) page_of_stamp tree) → AnswersCall g worker call u v (Fault f) [] files
  named_fault f within stays = record {
    effect = names_effect (Some f) stays;
    answers = λ tells page_of_stamp tree runs. (refl, refl);
    cause = within;
    synced = sym (and_false (is_sync_call call));
    line = line;
    files_are = are;
  }

  pub named_failed : (reply : Reply) → reply ≡ Fault (Eio (fault_sum (counts_of g v.device))) → FaultRose (counts_of g u.device) (counts_of g v.device)
      → ((page_of_stamp : ℕ → Option PageOfStamp) (tree : Tree) → RepresentsTree (g.shape u.device) (running_of g u) page_of_stamp tree → RepresentsTree (g.shape v.device) (running_of g v) page_of_stamp tree) → AnswersCall g worker call u v reply [] files
  named_failed reply at rose stays = subst (λ r. AnswersCall g worker call u v r [] files) (sym at) (named_fault (Eio (fault_sum (counts_of g v.device))) (failed_cause g u v rose) stays)

-- ---- a sync

module _ {D : Type 0} (g : Ghosts D) (worker : ℕ) (n : ℕ) (u v : Core D) (files : ℕ) (goes : PreservesVolume g n u v) (reached : goal_now u worker ≤ v.committed) (law : PagesStayAsMany) (are : files ≡ pages_of_files g u)
    (line : EndsLine worker u.flight v.flight) where
  pub synced : AnswersCall g worker Sync u v (Synced v.committed v.moment) [] files
  synced = record {
    effect = record { most = n; goes = goes; reached = reached; upto_is = refl; moment_is = refl };
    answers = λ tells page_of_stamp tree runs.
        subst (λ (x : Outcome). Answers x (Synced v.committed v.moment) []) (sym (sync_step (g.shape u.device) tree (room (g.shape u.device) (running_of g u) page_of_stamp tree runs.runs)))
        ((v.committed, v.moment, refl), refl);
    cause = tt;
    synced = refl;
    line = line;
    files_are = are ∙ sym (goes_counted g n u v goes law);
  }

-- ---- a call that writes pages

module _ {D : Type 0} (g : Ghosts D) (worker : ℕ) (call : Call) (u v : Core D) (files : ℕ) (unsynced : is_sync_call call ≡ false) (uncleaned : call ≡ Clean → ⊥) (are : files ≡ pages_of_files g v) (line : EndsLine worker u.flight v.flight) where
  pub written_done : (reply : Reply) (out : List ℕ) → fault_in reply ≡ None → is_synced reply ≡ false → MakesEffect g call None u v → AnswersOn g call u reply out → AnswersCall g worker call u v reply out files
  written_done reply out none plain x answers = record {
    effect = plain_effect g call u v (goal_now u worker) reply plain (subst (λ (f : Option FaultReply). MakesEffect g call f u v) (sym none) x);
    answers = answers;
    cause = subst (λ (f : Option FaultReply). IfSome f (FaultWithin g.tells (counts_of g u.device) (counts_of g v.device))) (sym none) tt;
    synced = plain ∙ sym (ap (λ b. b && is_none (fault_in reply)) unsynced);
    line = line;
    files_are = are;
  }

  -- a refusal leaves the one tree as which the core runs
  pub written_no : (refusal : Refusal) (n : ℕ) → IsCore g v → PreservesVolume g n u v → RepresentsSomeTree g u
      → (g.tells → (page_of_stamp : ℕ → Option PageOfStamp) (tree : Tree) → CoreRepresentsTree g u page_of_stamp tree → step (g.shape u.device) tree call ≡ record { reply = No refusal; bytes = []; tree = tree }) → AnswersCall g worker call u v (No refusal) [] files
  written_no refusal n core goes some is = written_done (No refusal) [] refl refl
      (record { between = v; core = core; most = n; goes = goes; steps = steps_none g v; makes = stays; takes = λ is. takes_nothing g v })
      (λ tells page_of_stamp tree runs. refused_answers (step (g.shape u.device) tree call) tree refusal (is tells page_of_stamp tree runs))
    where
      stays : MakesTree g v v (call, None)
      stays tells page_of_stamp tree runs =
          let k = some tells in
          let on = goes.runs tells k.0 k.1 k.2 in
          let one : k.1 ≡ tree = one_tree g v core on.pages page_of_stamp k.1 tree on.runs runs in
          let same : (step (g.shape v.device) tree call).tree ≡ tree =
          ap (λ (h : Shape). (step h tree call).tree) goes.same_shape ∙ (ap (λ (t : Tree). (step (g.shape u.device) t call).tree) (sym one) ∙ (ap (λ (x : Outcome). x.tree) (is tells k.0 k.1 k.2) ∙ one)) in
          subst (RepresentsTree (g.shape v.device) (running_of g v) page_of_stamp) (sym same) runs.runs

pub writing_is : (call : Call) → IsWriting call → (is_sync_call call ≡ false) × (call ≡ Clean → ⊥) × (IsOfNames call → ⊥)
writing_is (Mkdir path) is = absurd is
writing_is (Rmdir path) is = absurd is
writing_is (Create path) is = absurd is
writing_is (Unlink path) is = absurd is
writing_is (Rename from to) is = absurd is
writing_is (Write path from bytes) is = (refl, (λ e. cc e), (λ names. names))
writing_is (Fill path from len byte) is = (refl, (λ e. cc e), (λ names. names))
writing_is (Read path from len) is = absurd is
writing_is (Truncate path size) is = absurd is
writing_is (Stat path) is = absurd is
writing_is (ListCall path) is = absurd is
writing_is Sync is = absurd is
writing_is Clean is = absurd is

-- done, as the call that writes tells it
pub takes_effect : {D : Type 0} (g : Ghosts D) (most worker : ℕ) (call : Call) (u v : Core D) → (IsOfNames call → ⊥) → TakesWithin g most worker call u v → MakesEffect g call None u v
takes_effect g most worker call u v other x = record { between = x.between; core = x.core; most = most; goes = x.goes; steps = x.steps; makes = x.makes; takes = λ is. absurd (other is) }

-- a call that is neither a write nor a fill
pub not_writing : (call : Call) → ((path : List (List ℕ)) (from : ℕ) (bytes : List ℕ) → call ≡ Write path from bytes → ⊥) → ((path : List (List ℕ)) (from len byte : ℕ) → call ≡ Fill path from len byte → ⊥) → IsWriting call → ⊥
not_writing (Mkdir path) w f is = is
not_writing (Rmdir path) w f is = is
not_writing (Create path) w f is = is
not_writing (Unlink path) w f is = is
not_writing (Rename from to) w f is = is
not_writing (Write path from bytes) w f is = w path from bytes refl
not_writing (Fill path from len byte) w f is = f path from len byte refl
not_writing (Read path from len) w f is = is
not_writing (Truncate path size) w f is = is
not_writing (Stat path) w f is = is
not_writing (ListCall path) w f is = is
not_writing Sync w f is = is
not_writing Clean w f is = is

-- the one call that is a sync
pub sync_is : (call : Call) → is_sync_call call ≡ true → call ≡ Sync
sync_is (Mkdir path) is = absurd (false≢true is)
sync_is (Rmdir path) is = absurd (false≢true is)
sync_is (Create path) is = absurd (false≢true is)
sync_is (Unlink path) is = absurd (false≢true is)
sync_is (Rename from to) is = absurd (false≢true is)
sync_is (Write path from bytes) is = absurd (false≢true is)
sync_is (Fill path from len byte) is = absurd (false≢true is)
sync_is (Read path from len) is = absurd (false≢true is)
sync_is (Truncate path size) is = absurd (false≢true is)
sync_is (Stat path) is = absurd (false≢true is)
sync_is (ListCall path) is = absurd (false≢true is)
sync_is Sync is = refl
sync_is Clean is = absurd (false≢true is)
