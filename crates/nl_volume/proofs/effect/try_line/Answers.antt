use Rattle.std.proofs.Common.{◌≡◌, ◌∙◌, ⊎_elim, inl, inr, sym, arith}
use Rattle.nl_core.proofs.Renamed.{as_many}
use Rattle.nl_calls.proofs.Answered.{answers_after, cause_after, cleans_after, effect_of_after}
use Rattle.nl_calls.proofs.Counted.{goes_counted}
use Rattle.nl_calls.proofs.Ended.{ends_then}
use Rattle.nl_calls.specs.Answering.{goal_now}
use Rattle.nl_core.specs.Units.{goal_of, goal_or}
use Rattle.nl_tree.specs.Causes.{fault_in}
use Rattle.nl_calls_steps.specs.Calls.{counts_of}
use Rattle.nl_volume_stage.specs.Serving.{refusing_of}
use Rattle.nl_volume_stage.proofs.Due.{due_tried, tried_may}
use Rattle.nl_volume_stage.proofs.Few.{few_staged}
use Rattle.nl_volume_stage.proofs.Lines.{staged_for}
use Rattle.nl_volume_stage.proofs.Serving.{goals_within, none_is, runs_of}
use Rattle.nl_core.proofs.LastCommits.{leaves_then}
use Rattle.nl_calls.proofs.Uncommitted.{needs_then}
use Rattle.nl_volume.proofs.Goals.{goal_due, goal_within}
use Rattle.nl_volume.proofs.Uncommitted.{tried_looks}
use Rattle.nl_volume.proofs.effect.try_line.Goals as goal

pub answer_call-requires-clause-core : goal.answer_call-requires-clause-core
answer_call-requires-clause-core g c =
    let G = g.D.Counts in
    let s = c.requires.stands in
    let v = c.leave_other.new.core in
    let t = c.leave_other.ensures.passes.on s.0 s.1 s.2 s.3 s.4 in
    t.serves.core

pub answer_call-requires-clause-may : goal.answer_call-requires-clause-may
answer_call-requires-clause-may g c =
    let G = g.D.Counts in
    let s = c.requires.stands in
    let v = c.leave_other.new.core in
    let t = c.leave_other.ensures.passes.on s.0 s.1 s.2 s.3 s.4 in
    record {
      writes = λ changing. c.leave_other.ensures.stopped ∙ none_is c.args.core.now.stopped (tried_may (refusing_of G c.args.core.now c.args.worker c.args.line) c.args.call.now c.requires.tried changing).0;
      stamp = λ changing. let low = (tried_may (refusing_of G c.args.core.now c.args.worker c.args.line) c.args.call.now c.requires.tried changing).1 in let same = c.leave_other.ensures.stamp in omega (arith, low, same);
    }

pub answer_call-requires-clause-runs : goal.answer_call-requires-clause-runs
answer_call-requires-clause-runs g c =
    let G = g.D.Counts in
    let s = c.requires.stands in
    let v = c.leave_other.new.core in
    let t = c.leave_other.ensures.passes.on s.0 s.1 s.2 s.3 s.4 in
    runs_of G s.0 s.1 s.2 v v s.3 t

pub answer_call-requires-clause-files : goal.answer_call-requires-clause-files
answer_call-requires-clause-files g c =
    let G = g.D.Counts in
    let s = c.requires.stands in
    let v = c.leave_other.new.core in
    let t = c.leave_other.ensures.passes.on s.0 s.1 s.2 s.3 s.4 in
    c.requires.files ∙ sym (goes_counted G _ c.args.core.now v c.leave_other.ensures.passes.goes as_many)

pub answer_call-requires-clause-staged : goal.answer_call-requires-clause-staged
answer_call-requires-clause-staged g c =
    let G = g.D.Counts in
    let s = c.requires.stands in
    let v = c.leave_other.new.core in
    let t = c.leave_other.ensures.passes.on s.0 s.1 s.2 s.3 s.4 in
    staged_for G s.1 v c.args.worker c.args.line c.args.call.now t.serves.core t.flight c.leave_other.ensures.line s.5

pub answer_call-requires-clause-others : goal.answer_call-requires-clause-others
answer_call-requires-clause-others g c =
    let G = g.D.Counts in
    let s = c.requires.stands in
    let v = c.leave_other.new.core in
    let t = c.leave_other.ensures.passes.on s.0 s.1 s.2 s.3 s.4 in
    few_staged G s.1 v t.serves.core t.flight

pub answer_call-requires-clause-goal : goal.answer_call-requires-clause-goal
answer_call-requires-clause-goal g c =
    let G = g.D.Counts in
    let s = c.requires.stands in
    let v = c.leave_other.new.core in
    let t = c.leave_other.ensures.passes.on s.0 s.1 s.2 s.3 s.4 in
    goal_within v c.args.worker (goals_within G s.0 s.1 s.2 v s.3 t)

pub returns-clause-answers : goal.returns-clause-answers
returns-clause-answers g c =
    let G = g.D.Counts in
    let s = c.requires.stands in
    let u = c.args.core.now in
    let v = c.leave_other.new.core in
    let r = c.answer_call in
    let w = r.new.core in
    let p = c.leave_other.ensures.passes in
    let t = p.on s.0 s.1 s.2 s.3 s.4 in
    let x = r.ensures.answers in
    let call = c.args.call.now in
    let due : goal_now v c.args.worker ≡ goal_or (goal_of u.flight c.args.worker c.args.line) u.count =
    goal_due u v c.args.worker c.args.line t.serves.core.flight s.5.numbered c.leave_other.ensures.line c.leave_other.ensures.goal p.goes.count in
    record {
      core = r.ensures.core;
      effect = effect_of_after G call p.most u v w p.goes (goal_now v c.args.worker) (goal_or (goal_of u.flight c.args.worker c.args.line) u.count) r.result.reply (λ is. due) x.effect;
      answers = answers_after G call p.most u v w p.goes r.result.reply r.new.out x.answers;
      due = due_tried g.D.Counts.tells (refusing_of G u c.args.worker c.args.line) (counts_of G u.device) (counts_of G w.device) call r.result.reply c.requires.tried (cause_after G call p.most u v w p.goes (fault_in r.result.reply) x.cause);
      synced = x.synced;
      ended = ends_then c.args.worker u.flight v.flight w.flight p.others x.line;
      files_are = x.files_are;
    }

pub returns-clause-cleaned : goal.returns-clause-cleaned
returns-clause-cleaned g c is done =
    let p = c.leave_other.ensures.passes in
    cleans_after g.D.Counts c.args.call.now p.most c.args.core.now c.leave_other.new.core c.answer_call.new.core p.goes g.D.MovingPages (c.answer_call.ensures.cleaned is done)

pub returns-clause-kept : goal.returns-clause-kept
returns-clause-kept g c needs =
    let G = g.D.Counts in
    let s = c.requires.stands in
    let u = c.args.core.now in
    let v = c.leave_other.new.core in
    let p = c.leave_other.ensures.passes in
    let t = p.on s.0 s.1 s.2 s.3 s.4 in
    let due : goal_now v c.args.worker ≡ goal_or (goal_of u.flight c.args.worker c.args.line) u.count =
    goal_due u v c.args.worker c.args.line t.serves.core.flight s.5.numbered c.leave_other.ensures.line c.leave_other.ensures.goal p.goes.count in
    let committed = c.leave_other.ensures.kept.commit.committed in
    leaves_then G u v c.answer_call.new.core c.leave_other.ensures.kept
    (c.answer_call.ensures.leaves (⊎_elim (λ cannot. inl (tried_looks G u c.args.worker c.args.line c.args.call.now c.requires.tried cannot))
    (λ reached. let low = reached.reached in inr (record { sync = reached.sync; reached = omega (arith, due, low, committed) })) needs))

pub returns-clause-commit : goal.returns-clause-commit
returns-clause-commit g c = needs_then g.D.Counts c.args.call.now c.args.core.now c.leave_other.new.core c.answer_call.new.core c.leave_other.ensures.room c.answer_call.ensures.commit
