use Rattle.std.proofs.Common.{refl}
use Rattle.nl_files.proofs.Keeping.{keeps-then, stands-then}
use Rattle.nl_files.proofs.Owning.{own-at, own-then}
use Rattle.nl_files.proofs.Preparing.{both-ready, both-recent}
use Rattle.nl_files.proofs.pages.prepare.Goals as goal

pub load_range-requires-in-Done-clause-stands : goal.load_range-requires-in-Done-clause-stands
load_range-requires-in-Done-clause-stands g c =
    let one = c.in-Done.ensures in
    stands-then g.D.Counts c.args.device.now c.load_range.new.device c.args.rec.now c.args.meta.now c.load_range.new.meta one.kept one.pages c.requires.stands

pub returns-in-Done-clause-pages : goal.returns-in-Done-clause-pages
returns-in-Done-clause-pages g c =
    let one = c.in-Done.ensures in
    keeps-then g.D.Counts c.args.device.now c.load_range.new.device c.args.meta.now c.load_range.new.meta c.load_range-in-Done.new.meta one.kept one.pages c.load_range-in-Done.ensures.pages

pub returns-in-Done-clause-ready : goal.returns-in-Done-clause-ready
returns-in-Done-clause-ready g c = λ done i low high.
    both-ready c.args.meta.now c.load_range.new.meta c.load_range-in-Done.new.meta c.args.rec.now c.args.first c.args.last i c.requires.few low high
    c.in-Done.ensures.touched c.load_range-in-Done.ensures.touched (c.in-Done.ensures.ready refl) (c.load_range-in-Done.ensures.ready done)

pub returns-in-Done-clause-recent : goal.returns-in-Done-clause-recent
returns-in-Done-clause-recent g c = λ done i low high.
    both-recent c.args.meta.now c.load_range.new.meta c.load_range-in-Done.new.meta c.args.rec.now c.args.first c.args.last i c.requires.few low high c.in-Done.ensures.touched
    c.load_range-in-Done.ensures.touched

pub returns-in-Done-clause-only : goal.returns-in-Done-clause-only
returns-in-Done-clause-only g c =
    own-then c.args.rec.now c.args.meta.now c.load_range.new.meta c.load_range-in-Done.new.meta (own-at c.args.rec.now c.args.first c.args.meta.now c.load_range.new.meta c.load_range.ensures.touched)
    (own-at c.args.rec.now c.args.last c.load_range.new.meta c.load_range-in-Done.new.meta c.load_range-in-Done.ensures.touched)

pub returns-in_default-clause-only : goal.returns-in_default-clause-only
returns-in_default-clause-only g c = own-at c.args.rec.now c.args.first c.args.meta.now c.load_range.new.meta c.load_range.ensures.touched
