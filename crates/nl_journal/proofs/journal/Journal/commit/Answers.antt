use Rattle.std.proofs.Common.{◌≡◌, inr, ◌+◌, ◌<◌, [], length, sym, ◌∙◌, ap, subst, arith}
use Rattle.nl_field.specs.declared.answers.VirtualWrite.{VirtualWrite}
use Rattle.nl_field.specs.declared.answers.VirtualWrite.TheVariants as write
use Rattle.nl_meta.specs.Pages.{Pages, dirty_pages}
use Rattle.nl_journal.specs.Progress.{HasNumber, begun, units_left}
use Rattle.nl_journal.specs.Units.{CommitIsDone}
use Rattle.nl_journal.proofs.CommitSteps.{begun_none, commit_failed, commit_then, unraised}
use Rattle.nl_journal.proofs.FinishSteps.{all_finished, few_units}
use Rattle.nl_journal.proofs.Passing.{none_failed, passes_by, passes_most, passes_then}
use Rattle.nl_journal.proofs.journal.Journal.commit.Goals as goal

pub returns-in-Done-clause-writes : goal.returns-in-Done-clause-writes
returns-in-Done-clause-writes g c t numbers =
    let G = g.D.Counts in
    let old = c.args.device.now in
    let mid = c.finish.new.device in
    let p = c.args.self.now in
    let q = c.finish.new.self in
    let e = c.finish.ensures in
    let f = c.commit_dirty.ensures in
    let units = units_left p.phase (length c.args.meta.now.frozen.addresses) in
    let ends = all_finished q.phase c.finish.new.meta.frozen e.order.phase (e.finishes.left c.in-Done.is) in
    let number : q.number ≡ begun p (length c.args.meta.now.frozen.addresses) = sym (begun_none q.phase q.number (length c.finish.new.meta.frozen.addresses) ends.0 (ap length ends.1)) ∙ e.finishes.begun_stays in
    let below : HasNumber p (length c.args.meta.now.frozen.addresses) = subst (λ n. n < 9223372036854775808) number (unraised q.number (subst (λ n. n < 9223372036854775808) f.commits.begun_next numbers)) in
    commit_then G (c.finish.result ≡ write.Done) (CommitIsDone c.commit_dirty.result) old mid c.commit_dirty.new.device p q c.commit_dirty.new.self c.args.meta.now c.finish.new.meta c.commit_dirty.new.meta c.in-Done.is
    e.passes.named.same_shape (none_failed G (c.finish.result ≡ write.Done) units old mid t c.in-Done.is e.passes) ends.0 ends.1 number (ap (λ (n : Pages). n.running) e.finishes.kept) (ap (λ (n : Pages). n.dirty) e.finishes.kept) (e.writes t below) (f.writes t numbers) f.clock.later

pub returns-in-Done-clause-waits : goal.returns-in-Done-clause-waits
returns-in-Done-clause-waits g c off =
    inr (c.commit_dirty.ensures.commits.waits off ∙ ap (λ (n : Pages). record n { dirty = []; frozen = dirty_pages n }) c.finish.ensures.finishes.kept)

pub returns-in-Done-clause-passes : goal.returns-in-Done-clause-passes
returns-in-Done-clause-passes g c =
    let G = g.D.Counts in
    let old = c.args.device.now in
    let mid = c.finish.new.device in
    let e = c.finish.ensures in
    let f = c.commit_dirty.ensures in
    let units = units_left c.args.self.now.phase (length c.args.meta.now.frozen.addresses) in
    let few = few_units c.args.self.now.phase c.args.meta.now.frozen (G.shape old).vaddrs c.requires.order.phase c.requires.order.pages in
    passes_most G (CommitIsDone c.commit_dirty.result) (units + 512) 1024 old c.commit_dirty.new.device (omega (arith, few))
    (passes_then G old mid c.commit_dirty.new.device e.faults.writes_never_fall f.faults.writes_never_fall (c.finish.result ≡ write.Done) (CommitIsDone c.commit_dirty.result) units 512 c.in-Done.is f.clock.clock e.passes f.passes)

failed_is : (r : VirtualWrite) → r ≡ write.Fault → r ≡ write.Done → ⊥
failed_is r fault done = cc

pub returns-in-Fault-clause-passes : goal.returns-in-Fault-clause-passes
returns-in-Fault-clause-passes g c =
    let G = g.D.Counts in
    let old = c.args.device.now in
    let new = c.finish.new.device in
    let units = units_left c.args.self.now.phase (length c.args.meta.now.frozen.addresses) in
    let few = few_units c.args.self.now.phase c.args.meta.now.frozen (G.shape old).vaddrs c.requires.order.phase c.requires.order.pages in
    passes_most G ⊥ units 1024 old new (omega (arith, few)) (passes_by G (c.finish.result ≡ write.Done) ⊥ units old new (λ o. absurd o) (failed_is c.finish.result c.in-Fault.is) c.finish.ensures.passes)

pub returns-in-Fault-clause-writes : goal.returns-in-Fault-clause-writes
returns-in-Fault-clause-writes g c t numbers =
    let G = g.D.Counts in
    let e = c.finish.ensures in
    commit_failed G (c.finish.result ≡ write.Done) ⊥ c.args.device.now c.finish.new.device c.args.self.now c.finish.new.self c.args.meta.now c.finish.new.meta (λ o. o) (ap (λ (n : Pages). n.running) e.finishes.kept) (ap (λ (n : Pages). n.dirty) e.finishes.kept)
    (e.writes t (subst (λ n. n < 9223372036854775808) e.finishes.begun_stays numbers))
