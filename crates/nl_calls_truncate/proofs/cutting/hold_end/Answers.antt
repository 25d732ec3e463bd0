use Rattle.std.proofs.Common.{◌/◌, arith}
use Rattle.nl_meta.specs.Pages.{page_of}
use Rattle.nl_calls_files.proofs.Fits.{stands}
use Rattle.nl_calls_truncate.proofs.CutReads.{no_range}
use Rattle.nl_calls_truncate.proofs.cutting.hold_end.Goals as goal

pub returns-then-index-eq-PAGES-clause-range : goal.returns-then-index-eq-PAGES-clause-range
returns-then-index-eq-PAGES-clause-range g c =
    let G = g.D.Counts in
    let v = c.args.core.now in
    let file = (stands G v.device v.meta c.requires.file.0 c.args.rec.now c.requires.core.journaled.runs c.requires.file.1).file in
    no_range (page_of v.meta) c.args.rec.now file (c.args.size / 4096) c.if-index-eq-PAGES.true

pub returns-in-Done-clause-range : goal.returns-in-Done-clause-range
returns-in-Done-clause-range g c = c.prepare_file-answer.ensures.ready c.in-Done.is (c.args.size / 4096) (omega arith) (omega arith)
