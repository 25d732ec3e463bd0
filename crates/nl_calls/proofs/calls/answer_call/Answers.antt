use Rattle.std.proofs.Common.{◌∙◌, ◌<◌, ⊎_elim, ℕ, List, [], length, refl, sym, ap, subst, arith}
use Rattle.std.specs.Prelude.{IsTrue}
use Rattle.nl_tree.specs.Causes.{is_changing}
use Rattle.nl_core.specs.declared.state.Core.{Core}
use Rattle.nl_core.proofs.Renamed.{as_many}
use Rattle.nl_calls.specs.Answering.{AnswersCall}
use Rattle.nl_calls.proofs.Answered.{answer_after, cleans_after}
use Rattle.nl_calls.proofs.Counted.{goes_counted}
use Rattle.nl_calls.proofs.Ended.{ends_dropped}
use Rattle.nl_calls.proofs.Tried.{not_writing, sync_is}
use Rattle.nl_core.proofs.LastCommits.{drops_leaves, drops_room, leaves_then}
use Rattle.nl_tree.specs.declared.call.Call.{Call}
use Rattle.nl_calls.proofs.Uncommitted.{commits_not, looks_not, needs_then}
use Rattle.std.proofs.lemmas.Bool.{false≢true}
use Rattle.nl_calls.proofs.calls.answer_call.Goals as goal

pub answer_other-requires : goal.answer_other-requires
answer_other-requires g c =
    let G = g.D.Counts in
    let u = c.args.core.now in
    let v = c.drop_line.new.self in
    let e = c.drop_line.ensures in
    let r = c.requires in
    let eight = r.core.flight.eight in
    let low = r.known in
    let known : c.args.worker < length u.flight = omega (arith, eight, low) in
    let stamp = e.dropped.frees.kept.next_stamp in
    record {
      core = e.core;
      known = r.known;
      some = r.some;
      idle = (ends_dropped c.args.worker u.flight v.flight known e.dropped.flight).idle;
      may = record {
        writes = λ changing. ap (λ (x : Core g.row.D.Denot). x.stopped) e.dropped.others ∙ r.may.writes changing;
        stamp = λ changing. let was = r.may.stamp changing in omega (arith, was, stamp);
      };
      runs = λ tells. let k = r.runs tells in let on = e.goes.runs tells k.0 k.1 k.2 in (on.pages, k.1, on.runs);
      bounded = r.bounded;
      files = r.files ∙ sym (goes_counted G 0 u v e.goes as_many);
      nothing = r.nothing;
      other = not_writing c.args.call.now c.in_default.not-Write c.in_default.not-Fill;
      no_sync = c.in_default.not-Sync;
    }

pub returns-in_default : goal.returns-in_default
returns-in_default g c =
    let G = g.D.Counts in
    let u = c.args.core.now in
    let v = c.drop_line.new.self in
    let e = c.drop_line.ensures in
    let eight = c.requires.core.flight.eight in
    let low = c.requires.known in
    let known : c.args.worker < length u.flight = omega (arith, eight, low) in
    let a = c.answer_other in
    record {
      core = a.ensures.core;
      answers = answer_after G c.args.call.now 0 u v a.new.core e.goes c.args.worker a.result.reply a.new.out a.result.files (ends_dropped c.args.worker u.flight v.flight known e.dropped.flight).others
          (λ sync. absurd (c.in_default.not-Sync (sync_is c.args.call.now sync))) a.ensures.answers;
      cleaned = λ is done. cleans_after G c.args.call.now 0 u v a.new.core e.goes g.D.MovingPages (a.ensures.cleaned is done);
      commit = needs_then G c.args.call.now u v a.new.core (drops_room G c.args.worker u v e.dropped) a.ensures.commit;
      leaves = λ why. leaves_then G u v a.new.core (drops_leaves G c.args.worker u v e.dropped) (⊎_elim a.ensures.leaves (λ sync. absurd (c.in_default.not-Sync sync.sync)) why);
    }

pub returns-in-Write-clause-answers : goal.returns-in-Write-clause-answers
returns-in-Write-clause-answers g c =
    let G = g.D.Counts in
    subst (λ (o : List ℕ). AnswersCall G c.args.worker c.args.call.now c.args.core.now c.write.new.core c.write.result.reply o c.write.result.files) (sym c.requires.nothing) c.write.ensures.answers

pub write-requires-clause-can : goal.write-requires-clause-can
write-requires-clause-can g c =
    let r = c.requires in
    let changes : IsTrue (is_changing c.args.call.now) = ⊎_elim (λ w. ap is_changing w.3) (λ f. ap is_changing f.4) c.in-Write.is in
    record { writes = r.may.writes changes; runs = r.runs; known = r.known; some = r.some; has_line = r.line; files_are = r.files; staged = r.staged; few = r.others }

pub returns-in-Write-clause-commit : goal.returns-in-Write-clause-commit
returns-in-Write-clause-commit g c = c.write.ensures.commit

pub returns-in-Write-clause-leaves : goal.returns-in-Write-clause-leaves
returns-in-Write-clause-leaves g c why =
    let changes : IsTrue (is_changing c.args.call.now) = ⊎_elim (λ w. ap is_changing w.3) (λ f. ap is_changing f.4) c.in-Write.is in
    ⊎_elim (λ only. absurd (false≢true (sym only ∙ changes)))
    (λ sync. absurd (⊎_elim (λ w. let no : ⊥ = let same = sym w.3 ∙ sync.sync in cc in no) (λ f. let no : ⊥ = let same = sym f.4 ∙ sync.sync in cc in no) c.in-Write.is)) why

pub returns-in-Sync-clause-answers : goal.returns-in-Sync-clause-answers
returns-in-Sync-clause-answers g c =
    let G = g.D.Counts in
    let a = c.sync in
    subst (λ (o : List ℕ). AnswersCall G c.args.worker c.args.call.now c.args.core.now a.new.core a.result.reply o a.result.files) (sym c.requires.nothing)
    (subst (λ (call : Call). AnswersCall G c.args.worker call c.args.core.now a.new.core a.result.reply [] a.result.files) (sym c.in-Sync.is) a.ensures.answers)

pub returns-in-Sync-clause-commit : goal.returns-in-Sync-clause-commit
returns-in-Sync-clause-commit g c needs = absurd (commits_not c.args.call.now _ needs.plain c.in-Sync.is refl)

pub returns-in-Sync-clause-leaves : goal.returns-in-Sync-clause-leaves
returns-in-Sync-clause-leaves g c why = ⊎_elim (λ only. absurd (looks_not c.args.call.now _ only c.in-Sync.is refl)) (λ sync. c.sync.ensures.at_once sync.reached) why
