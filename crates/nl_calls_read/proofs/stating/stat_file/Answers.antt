use Rattle.std.proofs.Common.{refl}
use Rattle.nl_tree.specs.declared.reply.Reply.TheVariants.{File}
use Rattle.nl_core.specs.Core.{running_of}
use Rattle.nl_calls_files.proofs.Fits.{stands}
use Rattle.nl_calls_steps.proofs.ReadCores.{counts-node}
use Rattle.nl_files.specs.declared.answer.CountPages.TheVariants.{Pages}
use Rattle.nl_calls_read.proofs.Ending.{counted-fault, counted-lost, counted-pages}
use Rattle.nl_calls_read.proofs.stating.stat_file.Goals as goal

pub returns-in-Pages-clause-file : goal.returns-in-Pages-clause-file
returns-in-Pages-clause-file g c =
    let G = g.D.Counts in
    let v = c.args.core.now in
    (refl, counts-node (running_of G v) c.args.rec.now (Pages c.in-Pages.pages) (stands G v.device v.meta c.requires.file.0 c.args.rec.now c.requires.core.journaled.runs c.requires.file.1).file c.in-Pages.ensures.count)

pub returns-in-Pages-clause-ends : goal.returns-in-Pages-clause-ends
returns-in-Pages-clause-ends g c =
    counted-pages g.D.Counts c.args.core.now.device c.count_file.new.core.device (File c.args.rec.now.size c.in-Pages.pages) c.in-Pages.pages c.in-Pages.ensures.faults

pub returns-in-Lost-clause-ends : goal.returns-in-Lost-clause-ends
returns-in-Lost-clause-ends g c =
    let e = c.in-Lost.ensures in
    counted-lost g.D.Counts c.args.core.now.device c.count_file.new.core.device c.in-Lost.wanted c.in-Lost.found e.faults e.lost.1 (λ tells. e.told tells tt)

pub returns-in-Fault-clause-ends : goal.returns-in-Fault-clause-ends
returns-in-Fault-clause-ends g c = counted-fault g.D.Counts c.args.core.now.device c.count_file.new.core.device c.in-Fault.ensures.faults
