use Rattle.std.proofs.Common.{◌*◌, sym, subst, All, arith}
use Rattle.nl_field.specs.Numbers.{ShapeBounds}
use Rattle.nl_field.proofs.Bounds.{bounds}
use Rattle.nl_scan.specs.Tables.{IsSeen}
use Rattle.nl_device.proofs.start.kept_after.Goals as goal

pub of-requires-clause-few : goal.of-requires-clause-few
of-requires-clause-few c =
    let roomy = subst ShapeBounds (sym c.requires.numbers) (bounds c.args.shape.now.blocks c.args.shape.now.pages c.requires.legal) in
    let all = roomy.segments in
    let most = roomy.most_blocks in
    omega (arith, all, most)

pub of-requires-clause-within : goal.of-requires-clause-within
of-requires-clause-within c =
    let roomy = subst ShapeBounds (sym c.requires.numbers) (bounds c.args.shape.now.blocks c.args.shape.now.pages c.requires.legal) in
    subst (λ n. All (IsSeen (n * c.args.shape.now.pages)) c.args.tables.now.seen) (sym roomy.segments) c.requires.fits.pages
