use Rattle.std.proofs.Common.{◌+◌, ◌∙◌, length, ap, subst}
use Rattle.std.specs.Prelude.{min}
use Rattle.nl_field.specs.declared.answers.VirtualWrite.{VirtualWrite}
use Rattle.nl_iface.specs.Answers.{LosesStamp}
use Rattle.nl_core.specs.Core.{begun_of}
use Rattle.nl_core.specs.Writing.{Settles}
use Rattle.nl_core.proofs.Settled.{commits_all, committed_core, committed_goes}
use Rattle.nl_core.proofs.Written.{written_core}
use Rattle.nl_core.proofs.WrittenTrees.{written_goes}
use Rattle.nl_core.proofs.state.Core.commit.Goals as goal

pub returns-in-Done-clause-core : goal.returns-in-Done-clause-core
returns-in-Done-clause-core g c =
    let G = g.D.Counts in
    let v = c.args.self.now in
    let w = c.write_all.new.self in
    let u = c.settle.new.self in
    let e = c.write_all.ensures in
    let s : Settles G (length w.freeing.items) (begun_of v + 1) w u = subst (λ n. Settles G n (begun_of v + 1) w u) c.len-due.ensures.count (subst (λ n. Settles G c.len-due.result n w u) c.mark-mark.ensures.mark c.settle.ensures.settled) in
    committed_core G v w u c.write_all.result e.written c.requires.core e.volume c.mark-mark.ensures.most e.stores e.formed c.requires.writes e.pages c.in-Done.is s c.settle.ensures.table c.settle.ensures.stores c.settle.ensures.formed

pub returns-in-Done-clause-goes : goal.returns-in-Done-clause-goes
returns-in-Done-clause-goes g c =
    let G = g.D.Counts in
    let v = c.args.self.now in
    let w = c.write_all.new.self in
    let u = c.settle.new.self in
    let e = c.write_all.ensures in
    let s : Settles G (length w.freeing.items) (begun_of v + 1) w u = subst (λ n. Settles G n (begun_of v + 1) w u) c.len-due.ensures.count (subst (λ n. Settles G c.len-due.result n w u) c.mark-mark.ensures.mark c.settle.ensures.settled) in
    committed_goes G v w u c.write_all.result e.written c.requires.core e.volume c.mark-mark.ensures.most e.stores e.formed c.requires.writes e.pages c.in-Done.is s c.settle.ensures.table c.settle.ensures.stores

pub returns-in-Done-clause-commits : goal.returns-in-Done-clause-commits
returns-in-Done-clause-commits g c =
    let G = g.D.Counts in
    let v = c.args.self.now in
    let w = c.write_all.new.self in
    let u = c.settle.new.self in
    let e = c.write_all.ensures in
    let s : Settles G (length w.freeing.items) (begun_of v + 1) w u = subst (λ n. Settles G n (begun_of v + 1) w u) c.len-due.ensures.count (subst (λ n. Settles G c.len-due.result n w u) c.mark-mark.ensures.mark c.settle.ensures.settled) in
    commits_all G v w u c.write_all.result e.written c.requires.core e.volume c.mark-mark.ensures.most e.stores e.formed c.requires.writes e.pages c.in-Done.is s c.settle.ensures.table c.settle.ensures.stores
    c.min.result (c.min.ensures ∙ ap (λ n. min n 9223372036854775807) c.mark-mark.ensures.mark)

pub returns-in-Lost-clause-core : goal.returns-in-Lost-clause-core
returns-in-Lost-clause-core g c =
    let G = g.D.Counts in
    let e = c.write_all.ensures in
    written_core G c.args.self.now c.write_all.new.self c.write_all.result e.written c.requires.core e.volume c.mark-mark.ensures.most e.stores c.requires.writes e.formed

pub returns-in-Lost-clause-goes : goal.returns-in-Lost-clause-goes
returns-in-Lost-clause-goes g c =
    let G = g.D.Counts in
    let e = c.write_all.ensures in
    written_goes G c.args.self.now c.write_all.new.self c.write_all.result e.written c.requires.core e.volume c.mark-mark.ensures.most e.stores c.requires.writes e.pages

pub returns-in-Lost-clause-commits : goal.returns-in-Lost-clause-commits
returns-in-Lost-clause-commits g c =
    let G = g.D.Counts in
    let b = c.write_all.ensures.written in
    let lost = subst (λ (a : VirtualWrite). LosesStamp G.tells (G.stamps c.write_all.new.self.device) a) c.in-Lost.is b.lost in
    (record { same_flight = b.rest.flight; same_nodes = b.rest.nodes; same_freeing = b.rest.freeing }, lost.1, lost.2)

pub returns-in-Fault-clause-core : goal.returns-in-Fault-clause-core
returns-in-Fault-clause-core g c =
    let G = g.D.Counts in
    let e = c.write_all.ensures in
    written_core G c.args.self.now c.write_all.new.self c.write_all.result e.written c.requires.core e.volume c.mark-mark.ensures.most e.stores c.requires.writes e.formed

pub returns-in-Fault-clause-goes : goal.returns-in-Fault-clause-goes
returns-in-Fault-clause-goes g c =
    let G = g.D.Counts in
    let e = c.write_all.ensures in
    written_goes G c.args.self.now c.write_all.new.self c.write_all.result e.written c.requires.core e.volume c.mark-mark.ensures.most e.stores c.requires.writes e.pages

pub returns-in-Fault-clause-faults : goal.returns-in-Fault-clause-faults
returns-in-Fault-clause-faults g c is = c.write_all.ensures.written.faults.cause c.in-Fault.is
