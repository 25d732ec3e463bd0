use Rattle.std.proofs.Common.{◌∙◌, ◌<◌, length, refl, sym, arith}
use Rattle.nl_core.proofs.Renamed.{as_many}
use Rattle.nl_calls.proofs.Answered.{and_false, fault_effect}
use Rattle.nl_calls.proofs.Counted.{goes_counted}
use Rattle.nl_calls.proofs.Ended.{ends_dropped}
use Rattle.nl_calls.specs.Answering.{is_sync_call}
use Rattle.nl_calls_steps.specs.Calls.{counts_of}
use Rattle.nl_volume_stage.specs.Serving.{refusing_of}
use Rattle.nl_volume_stage.proofs.Due.{due_refused}
use Rattle.nl_core.proofs.LastCommits.{drops_leaves, drops_room}
use Rattle.nl_volume.proofs.effect.answer.Goals as goal

pub drop_line-requires-clause-core : goal.drop_line-requires-clause-core
drop_line-requires-clause-core g c = c.requires.stands.4.serves.core

pub returns-in-Some-clause-answers : goal.returns-in-Some-clause-answers
returns-in-Some-clause-answers g c =
    let G = g.D.Counts in
    let s = c.requires.stands in
    let u = c.args.core.now in
    let v = c.drop_line.new.self in
    let e = c.drop_line.ensures in
    let eight = s.4.serves.core.flight.eight in
    let low = c.requires.known in
    let known : c.args.worker < length u.flight = omega (arith, eight, low) in
    record {
      core = e.core;
      effect = fault_effect G c.args.call.now u v c.in-Some.fault 0 e.core e.goes;
      answers = λ tells page_of_stamp tree runs. (refl, c.requires.nothing);
      due = due_refused g.D.Counts.tells (refusing_of G u c.args.worker c.args.line) (counts_of G u.device) (counts_of G v.device) c.args.call.now c.in-Some.fault (sym c.refusal.ensures ∙ c.in-Some.is);
      synced = sym (and_false (is_sync_call c.args.call.now));
      ended = ends_dropped c.args.worker u.flight v.flight known e.dropped.flight;
      files_are = c.requires.files ∙ sym (goes_counted G 0 u v e.goes as_many);
    }

pub returns-in-Some-clause-kept : goal.returns-in-Some-clause-kept
returns-in-Some-clause-kept g c cannot = drops_leaves g.D.Counts c.args.worker c.args.core.now c.drop_line.new.self c.drop_line.ensures.dropped

pub returns-in-Some-clause-commit : goal.returns-in-Some-clause-commit
returns-in-Some-clause-commit g c needs = (drops_room g.D.Counts c.args.worker c.args.core.now c.drop_line.new.self c.drop_line.ensures.dropped).commit
