use Rattle.std.proofs.Common.{◌∙◌, sym, length, arith}
use Rattle.nl_files.specs.Reading.{IsWanted}
use Rattle.nl_files.specs.Standing.{running_map}
use Rattle.nl_files.proofs.Filling.{done-not-fault, file-size, filled-then, loses-by, wanted-then}
use Rattle.nl_files.proofs.Keeping.{keeps-then, leads-then, stands-then}
use Rattle.nl_files.proofs.Owning.{own-then}
use Rattle.nl_files.proofs.reading.read.Goals as goal

pub overflow_add-from : goal.overflow_add-from
overflow_add-from g c =
    let size = file-size c.args.rec.now c.requires.stands.file in
    let within = c.requires.within in
    let most = c.loop-done.invariant.most in
    omega (arith, size, within, most)

pub overflow_cast-from : goal.overflow_cast-from
overflow_cast-from g c =
    let size = file-size c.args.rec.now c.requires.stands.file in
    let within = c.requires.within in
    let most = c.loop-done.invariant.most in
    omega (arith, size, within, most)

pub read_page-requires-clause-within : goal.read_page-requires-clause-within
read_page-requires-clause-within g c =
    let size = file-size c.args.rec.now c.requires.stands.file in
    let within = c.requires.within in
    let below = c.loop-done-test.true in
    let len = c.loop-done.invariant.len in
    omega (arith, size, within, below, len)

pub read_page-requires-clause-stands : goal.read_page-requires-clause-stands
read_page-requires-clause-stands g c =
    let is = c.loop-done.invariant in
    stands-then g.D.Counts c.args.device.now c.loop-done.device c.args.rec.now c.args.meta.now c.loop-done.meta is.reads is.keeps c.requires.stands

pub read_page-requires-clause-leads : goal.read_page-requires-clause-leads
read_page-requires-clause-leads g c =
    let is = c.loop-done.invariant in
    leads-then g.D.Counts c.args.device.now c.loop-done.device c.args.rec.now c.args.meta.now c.loop-done.meta is.reads is.keeps c.requires.stands c.args.ino c.requires.leads

pub returns-in_default-clause-pages : goal.returns-in_default-clause-pages
returns-in_default-clause-pages g c =
    let is = c.loop-done.invariant in
    keeps-then g.D.Counts c.args.device.now c.loop-done.device c.args.meta.now c.loop-done.meta c.read_page.new.meta is.reads is.keeps c.read_page.ensures.pages

pub returns-in_default-clause-lost : goal.returns-in_default-clause-lost
returns-in_default-clause-lost g c =
    let is = c.loop-done.invariant in
    let d = g.D.Counts in
    loses-by (IsWanted d c.loop-done.device (running_map d c.loop-done.device c.loop-done.meta) c.args.rec.now) (IsWanted d c.args.device.now (running_map d c.args.device.now c.args.meta.now) c.args.rec.now)
    (wanted-then d c.args.device.now c.loop-done.device c.args.rec.now c.args.meta.now c.loop-done.meta is.reads is.keeps c.requires.stands)
    c.read_page.result c.read_page.ensures.lost

pub loop-done-preserved : goal.loop-done-preserved
loop-done-preserved g c =
    let is = c.loop-done.invariant in
    let page = c.read_page.ensures in
    let copied = c.copy-done.ensures in
    filled-then g.D.Counts c.args.device.now c.loop-done.device c.read_page.new.device c.args.meta.now c.loop-done.meta c.read_page.new.meta c.args.rec.now c.args.at (length c.args.out.now)
    c.loop-done.done c.copy-done.result c.read_page.new.buf.main c.loop-done.out c.copy-done.new.out c.requires.stands is page.formed page.kept
    (page.faults.stays tt (λ e. done-not-fault (sym c.in-Done.is ∙ e))) page.pages page.only (λ t. page.bytes t c.in-Done.is)
    copied.some (let most = copied.most in let len = is.len in omega (arith, most, len)) copied.page (copied.len ∙ is.len) copied.before copied.copied

pub returns-in_default-clause-only : goal.returns-in_default-clause-only
returns-in_default-clause-only g c = own-then c.args.rec.now c.args.meta.now c.loop-done.meta c.read_page.new.meta c.loop-done.invariant.own c.read_page.ensures.only
