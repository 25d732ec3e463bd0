use Rattle.std.proofs.Common.{◌∙◌, sym, subst}
use Rattle.nl_field.specs.Numbers.{ShapeBounds}
use Rattle.nl_meta_running.proofs.Holds.{bounds-of}
use Rattle.nl_recover.proofs.WalkedFacts.{counted-of, damaged-of, finds-of, walked-of}
use Rattle.nl_recover.proofs.opening.recover.Goals as goal

pub walk_on-requires : goal.walk_on-requires
walk_on-requires g c = subst ShapeBounds (sym c.requires.shape) (bounds-of (g.D.Counts.shape c.args.device.now) (g.met.D.VirtualPages.numbers c.args.device.now c.requires.formed))

pub returns-in-Ok-clause-faults : goal.returns-in-Ok-clause-faults
returns-in-Ok-clause-faults g c =
    counted-of c.args.shape.now c.args.scan.now.seen c.in-Done.field-0.journal c.in-Done.field-0.meta c.in-Ok.recovered (g.D.Counts.read_faults c.args.device.now) (g.D.Counts.read_faults c.read_pages.new.device) c.in-Ok.ensures c.in-Done.ensures.faults

pub returns-in-Ok-clause-walked : goal.returns-in-Ok-clause-walked
returns-in-Ok-clause-walked g c =
    walked-of g.D.Counts c.read_pages.new.device c.args.scan.now.seen c.in-Done.field-0 c.args.shape.now
    (c.requires.shape ∙ sym c.read_pages.ensures.device.medium.virtual.same_shape) (g.met.D.VirtualPages.numbers c.read_pages.new.device c.read_pages.ensures.formed) c.in-Done.ensures.read c.in-Ok.recovered c.in-Ok.ensures

pub returns-in-Ok-clause-damaged : goal.returns-in-Ok-clause-damaged
returns-in-Ok-clause-damaged g c = damaged-of g.D.Counts c.read_pages.new.device c.args.shape.now c.args.scan.now.seen c.in-Done.field-0 c.in-Ok.recovered c.in-Done.ensures.read c.in-Ok.ensures

pub returns-in-Ok-clause-told : goal.returns-in-Ok-clause-told
returns-in-Ok-clause-told g c = λ t.
    finds-of g.D.Counts c.read_pages.new.device c.args.scan.now.seen c.in-Done.field-0 c.args.shape.now
    (c.requires.shape ∙ sym c.read_pages.ensures.device.medium.virtual.same_shape) (g.met.D.VirtualPages.numbers c.read_pages.new.device c.read_pages.ensures.formed) c.in-Done.ensures.read
    c.args.device.now c.read_pages.ensures.device.medium.virtual t c.in-Ok.recovered c.in-Ok.ensures
