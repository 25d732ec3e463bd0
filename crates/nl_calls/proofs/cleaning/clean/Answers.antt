use Rattle.std.proofs.Common.{refl, sym}
use Rattle.nl_tree.specs.declared.call.Call.TheVariants.{Clean}
use Rattle.nl_tree.specs.declared.reply.FaultReply.TheVariants.{Edamaged}
use Rattle.nl_core.proofs.Onward.{goes_none}
use Rattle.nl_calls.proofs.Ended.{ends_alike}
use Rattle.nl_calls.proofs.Tried.{cleaned, fails, meets_fault}
use Rattle.nl_calls.proofs.cleaning.clean.Goals as goal

pub returns-in-Done-clause-answers : goal.returns-in-Done-clause-answers
returns-in-Done-clause-answers g c =
    let G = g.D.Counts in
    let u = c.args.core.now in
    let v = c.round-rounded.new.self in
    let e = c.in-Done.ensures in
    cleaned G c.args.worker Clean _ u v c.args.files e.core e.goes c.pages_stay_as_many.ensures c.requires.files (ends_alike c.args.worker u.flight v.flight e.lines c.requires.idle)

pub returns-in-Done-clause-cleaned : goal.returns-in-Done-clause-cleaned
returns-in-Done-clause-cleaned g c done =
    let G = g.D.Counts in
    let u = c.args.core.now in
    record { between = u; most = 0; goes = goes_none G u c.requires.core; round = c.in-Done.ensures.rounds }

pub returns-in-Lost-clause-answers : goal.returns-in-Lost-clause-answers
returns-in-Lost-clause-answers g c =
    let G = g.D.Counts in
    let u = c.args.core.now in
    let v = c.round-rounded.new.self in
    let e = c.in-Lost.ensures in
    meets_fault G c.args.worker Clean _ u v c.args.files e.core e.goes c.pages_stay_as_many.ensures c.requires.files (ends_alike c.args.worker u.flight v.flight e.lines c.requires.idle) _ refl
    (Edamaged c.in-Lost.wanted c.in-Lost.found) (e.rounds.1, λ same. e.rounds.0 (sym same))

pub returns-in-Fault-clause-answers : goal.returns-in-Fault-clause-answers
returns-in-Fault-clause-answers g c =
    let G = g.D.Counts in
    let u = c.args.core.now in
    let v = c.round-rounded.new.self in
    let e = c.in-Fault.ensures in
    fails G c.args.worker Clean _ u v c.args.files e.core e.goes c.pages_stay_as_many.ensures c.requires.files (ends_alike c.args.worker u.flight v.flight e.lines c.requires.idle) _ refl
    c.failed-reply.result c.failed-reply.ensures (e.faults refl)
