use Rattle.std.proofs.Common.{refl}
use Rattle.nl_core.specs.Core.{running_of}
use Rattle.nl_calls_files.proofs.Fits.{stands}
use Rattle.nl_files.specs.declared.answer.CountPages.TheVariants.{Pages}
use Rattle.nl_calls_steps.proofs.ReadCores.{counts-node}
use Rattle.nl_volume_list.proofs.Walking.{reads-fault, reads-lost}
use Rattle.nl_volume_list.proofs.next.file_item.Goals as goal

pub returns-in-Pages-clause-file : goal.returns-in-Pages-clause-file
returns-in-Pages-clause-file g c =
    let G = g.D.Counts in
    let v = c.args.core.now in
    (refl, counts-node (running_of G v) c.args.rec.now (Pages c.in-Pages.pages) (stands G v.device v.meta c.requires.file.0 c.args.rec.now c.requires.core.journaled.runs c.requires.file.1).file c.in-Pages.ensures.count)

pub returns-in-Lost-clause-reads : goal.returns-in-Lost-clause-reads
returns-in-Lost-clause-reads g c =
    let G = g.D.Counts in
    let v = c.args.core.now in
    let e = c.in-Lost.ensures in
    reads-lost G v.device c.count_file.new.core.device c.args.rec.now c.in-Lost.wanted c.in-Lost.found e.faults e.lost (λ tells. e.told tells tt)

pub returns-in-Fault-clause-reads : goal.returns-in-Fault-clause-reads
returns-in-Fault-clause-reads g c =
    let G = g.D.Counts in
    let v = c.args.core.now in
    reads-fault G v.device c.count_file.new.core.device c.in-Fault.ensures.faults
