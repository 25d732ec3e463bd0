use Rattle.std.proofs.Common.{◌≡◌, ℕ, Option, refl, sym, ap, ◌∙◌, arith}
use Rattle.nl_tree.specs.declared.call.Call.TheVariants.{Sync}
use Rattle.nl_tree.specs.declared.reply.FaultReply.TheVariants.{Edamaged}
use Rattle.nl_core.specs.Units.{goal_or}
use Rattle.nl_calls.specs.Answering.{goal_now}
use Rattle.nl_calls.proofs.Synced.{in_reach, still_runs, sync_cause, sync_ends, sync_goes, sync_leaves, sync_reached}
use Rattle.nl_calls.proofs.Tried.{fails, meets_fault, synced}
use Rattle.nl_calls.proofs.syncing.sync.Goals as goal

pub reach-reached-requires-clause-writes : goal.reach-reached-requires-clause-writes
reach-reached-requires-clause-writes g c =
    let G = g.D.Counts in
    let u = c.args.core.now in
    let v = c.drop_line.new.self in
    let d = c.drop_line.ensures in
    still_runs G c.args.worker u v d.dropped c.requires.writes

pub reach-reached-requires-clause-stamp : goal.reach-reached-requires-clause-stamp
reach-reached-requires-clause-stamp g c =
    let most = c.drop_line.ensures.goes.stamps.at_most in
    let low = c.requires.stamp in
    omega (arith, most, low)

pub reach-reached-requires-clause-goal : goal.reach-reached-requires-clause-goal
reach-reached-requires-clause-goal g c =
    let G = g.D.Counts in
    let u = c.args.core.now in
    let v = c.drop_line.new.self in
    let d = c.drop_line.ensures in
    let is : c.unwrap_or-goal.result ≡ goal_now u c.args.worker = c.unwrap_or-goal.ensures ∙ ap (λ (o : Option ℕ). goal_or o u.count) c.goal.ensures.goal in
    in_reach G c.args.worker u v d.dropped c.unwrap_or-goal.result is c.requires.goal

pub returns-in-Done-clause-answers : goal.returns-in-Done-clause-answers
returns-in-Done-clause-answers g c =
    let G = g.D.Counts in
    let u = c.args.core.now in
    let v = c.drop_line.new.self in
    let w = c.reach-reached.new.self in
    let n = c.unwrap_or-goal.result in
    let d = c.drop_line.ensures in
    let r = c.reach-reached.ensures in
    let is : n ≡ goal_now u c.args.worker = c.unwrap_or-goal.ensures ∙ ap (λ (o : Option ℕ). goal_or o u.count) c.goal.ensures.goal in
    synced G c.args.worker _ u w c.args.files (sync_goes G c.args.worker u v d.dropped w n c.requires.core c.requires.known is d.goes r.goes c.reach-reached.result r.reaches) (sync_reached G c.args.worker u v d.dropped w n c.requires.core c.requires.known is d.goes r.goes c.reach-reached.result r.reaches c.in-Done.is) c.pages_stay_as_many.ensures c.requires.files (sync_ends G c.args.worker u v d.dropped w n c.requires.core c.requires.known is d.goes r.goes c.reach-reached.result r.reaches)

pub returns-in-Done-clause-at_once : goal.returns-in-Done-clause-at_once
returns-in-Done-clause-at_once g c =
    let G = g.D.Counts in
    let u = c.args.core.now in
    let v = c.drop_line.new.self in
    let w = c.reach-reached.new.self in
    let n = c.unwrap_or-goal.result in
    let d = c.drop_line.ensures in
    let r = c.reach-reached.ensures in
    let is : n ≡ goal_now u c.args.worker = c.unwrap_or-goal.ensures ∙ ap (λ (o : Option ℕ). goal_or o u.count) c.goal.ensures.goal in
    sync_leaves G c.args.worker u v d.dropped w n c.requires.core c.requires.known is d.goes r.goes c.reach-reached.result r.reaches

pub returns-in-Lost-clause-answers : goal.returns-in-Lost-clause-answers
returns-in-Lost-clause-answers g c =
    let G = g.D.Counts in
    let u = c.args.core.now in
    let v = c.drop_line.new.self in
    let w = c.reach-reached.new.self in
    let n = c.unwrap_or-goal.result in
    let d = c.drop_line.ensures in
    let r = c.reach-reached.ensures in
    let is : n ≡ goal_now u c.args.worker = c.unwrap_or-goal.ensures ∙ ap (λ (o : Option ℕ). goal_or o u.count) c.goal.ensures.goal in
    let lost = r.reaches.lost c.in-Lost.wanted c.in-Lost.found c.in-Lost.is in
    meets_fault G c.args.worker Sync _ u w c.args.files r.core (sync_goes G c.args.worker u v d.dropped w n c.requires.core c.requires.known is d.goes r.goes c.reach-reached.result r.reaches) c.pages_stay_as_many.ensures c.requires.files (sync_ends G c.args.worker u v d.dropped w n c.requires.core c.requires.known is d.goes r.goes c.reach-reached.result r.reaches) _ refl
    (Edamaged c.in-Lost.wanted c.in-Lost.found) (lost.1, λ same. lost.0 (sym same))

pub returns-in-Lost-clause-at_once : goal.returns-in-Lost-clause-at_once
returns-in-Lost-clause-at_once g c =
    let G = g.D.Counts in
    let u = c.args.core.now in
    let v = c.drop_line.new.self in
    let w = c.reach-reached.new.self in
    let n = c.unwrap_or-goal.result in
    let d = c.drop_line.ensures in
    let r = c.reach-reached.ensures in
    let is : n ≡ goal_now u c.args.worker = c.unwrap_or-goal.ensures ∙ ap (λ (o : Option ℕ). goal_or o u.count) c.goal.ensures.goal in
    sync_leaves G c.args.worker u v d.dropped w n c.requires.core c.requires.known is d.goes r.goes c.reach-reached.result r.reaches

pub returns-in-Fault-clause-answers : goal.returns-in-Fault-clause-answers
returns-in-Fault-clause-answers g c =
    let G = g.D.Counts in
    let u = c.args.core.now in
    let v = c.drop_line.new.self in
    let w = c.reach-reached.new.self in
    let n = c.unwrap_or-goal.result in
    let d = c.drop_line.ensures in
    let r = c.reach-reached.ensures in
    let is : n ≡ goal_now u c.args.worker = c.unwrap_or-goal.ensures ∙ ap (λ (o : Option ℕ). goal_or o u.count) c.goal.ensures.goal in
    fails G c.args.worker Sync _ u w c.args.files r.core (sync_goes G c.args.worker u v d.dropped w n c.requires.core c.requires.known is d.goes r.goes c.reach-reached.result r.reaches) c.pages_stay_as_many.ensures c.requires.files (sync_ends G c.args.worker u v d.dropped w n c.requires.core c.requires.known is d.goes r.goes c.reach-reached.result r.reaches) _ refl
    c.failed-reply.result c.failed-reply.ensures (sync_cause G c.args.worker u v d.dropped w n c.requires.core c.requires.known is d.goes r.goes c.reach-reached.result r.reaches r.faults c.in-Fault.is)

pub returns-in-Fault-clause-at_once : goal.returns-in-Fault-clause-at_once
returns-in-Fault-clause-at_once g c =
    let G = g.D.Counts in
    let u = c.args.core.now in
    let v = c.drop_line.new.self in
    let w = c.reach-reached.new.self in
    let n = c.unwrap_or-goal.result in
    let d = c.drop_line.ensures in
    let r = c.reach-reached.ensures in
    let is : n ≡ goal_now u c.args.worker = c.unwrap_or-goal.ensures ∙ ap (λ (o : Option ℕ). goal_or o u.count) c.goal.ensures.goal in
    sync_leaves G c.args.worker u v d.dropped w n c.requires.core c.requires.known is d.goes r.goes c.reach-reached.result r.reaches
