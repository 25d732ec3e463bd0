use Rattle.std.proofs.Common.{inl, refl, sym, ap}
use Rattle.nl_tree.specs.declared.reply.FaultReply.TheVariants.{Edamaged}
use Rattle.nl_core.specs.declared.state.Core.{Core}
use Rattle.nl_calls.proofs.Ended.{ends_same}
use Rattle.nl_calls_steps.proofs.LeavesTree.{reads_go}
use Rattle.nl_calls.proofs.Tried.{fails, looked, meets_fault}
use Rattle.nl_calls_steps.proofs.LastCommitOn.{reads_leaves}
use Rattle.nl_calls.proofs.looking.look.Goals as goal

pub returns-in-Replied-clause-answers : goal.returns-in-Replied-clause-answers
returns-in-Replied-clause-answers g c =
    let G = g.D.Counts in
    let u = c.args.core.now in
    let v = c.look_call-looked.new.core in
    let e = c.in-Replied.ensures in
    looked G c.args.worker c.args.call.now 0 u v c.args.files e.core (reads_go G u v c.requires.core c.device_stands.ensures.volume e.core.formed c.device_stands-2.ensures.pages e.same) c.pages_stay_as_many.ensures c.requires.files
    (ends_same c.args.worker u.flight v.flight (ap (λ (x : Core g.row.D.Denot). x.flight) e.same.others) c.requires.idle) c.requires.looks c.in-Replied.reply c.look_call-looked.new.out e.plain e.answer

pub returns-in-Lost-clause-answers : goal.returns-in-Lost-clause-answers
returns-in-Lost-clause-answers g c =
    let G = g.D.Counts in
    let u = c.args.core.now in
    let v = c.look_call-looked.new.core in
    let e = c.in-Lost.ensures in
    meets_fault G c.args.worker c.args.call.now 0 u v c.args.files e.core (reads_go G u v c.requires.core c.device_stands.ensures.volume e.core.formed c.device_stands-2.ensures.pages e.same) c.pages_stay_as_many.ensures c.requires.files
    (ends_same c.args.worker u.flight v.flight (ap (λ (x : Core g.row.D.Denot). x.flight) e.same.others) c.requires.idle) c.look_call-looked.new.out (e.out refl)
    (Edamaged c.in-Lost.wanted c.in-Lost.found) ((λ tells. e.told tells tt), λ same. e.lost (sym same))

pub returns-in-Fault-clause-answers : goal.returns-in-Fault-clause-answers
returns-in-Fault-clause-answers g c =
    let G = g.D.Counts in
    let u = c.args.core.now in
    let v = c.look_call-looked.new.core in
    let e = c.in-Fault.ensures in
    fails G c.args.worker c.args.call.now 0 u v c.args.files e.core (reads_go G u v c.requires.core c.device_stands.ensures.volume e.core.formed c.device_stands-2.ensures.pages e.same) c.pages_stay_as_many.ensures c.requires.files
    (ends_same c.args.worker u.flight v.flight (ap (λ (x : Core g.row.D.Denot). x.flight) e.same.others) c.requires.idle) c.look_call-looked.new.out (e.out refl)
    c.failed-reply.result c.failed-reply.ensures (inl (e.faults.cause refl))

pub returns-in-Replied-clause-leaves : goal.returns-in-Replied-clause-leaves
returns-in-Replied-clause-leaves g c = reads_leaves g.D.Counts c.args.core.now c.look_call-looked.new.core c.look_call-looked.ensures.same

pub returns-in-Lost-clause-leaves : goal.returns-in-Lost-clause-leaves
returns-in-Lost-clause-leaves g c = reads_leaves g.D.Counts c.args.core.now c.look_call-looked.new.core c.look_call-looked.ensures.same

pub returns-in-Fault-clause-leaves : goal.returns-in-Fault-clause-leaves
returns-in-Fault-clause-leaves g c = reads_leaves g.D.Counts c.args.core.now c.look_call-looked.new.core c.look_call-looked.ensures.same
