use Rattle.std.proofs.Common.{◌≡◌, ◌∙◌, ap, arith, refl, sym}
use Rattle.nl_field.specs.Numbers.{shape_for}
use Rattle.nl_nand.specs.declared.geometry.Geometry.{Geometry}
use Rattle.nl_test_device.proofs.Reopened.{kept_least}
use Rattle.nl_test_device.proofs.reopening.scanned.Goals as goal

pub returns-then-are_seen-clause-kept : goal.returns-then-are_seen-clause-kept
returns-then-are_seen-clause-kept c =
    let d = c.in-Ready.device in
    let geometry = c.geometry-geometry.ensures in
    let blocks : c.geometry-geometry.result.blocks ≡ 32 = omega (arith, c.if-geometry-ne32.false) in
    let pages : c.geometry-geometry.result.pages ≡ 32 = omega (arith, c.if-geometry-ne32-2.false) in
    kept_least d.shape d.kept c.in-Ready.tables.seen c.args.first c.args.fives c.args.count
    (c.in-Ready.ensures.started.numbers ∙ (λ i. shape_for ((ap (λ (n : Geometry). n.blocks) (sym geometry) ∙ blocks) i) ((ap (λ (n : Geometry). n.pages) (sym geometry) ∙ pages) i)))
    c.in-Ready.ensures.scanned (c.if-are_seen.ensures refl)
