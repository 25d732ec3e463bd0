use Rattle.std.proofs.Common.{◌≡◌, ap, sym, ◌∙◌, arith}
use Rattle.nl_field.specs.Numbers.{shape_for}
use Rattle.nl_nand.specs.declared.geometry.Geometry.{Geometry}
use Rattle.nl_test_device.proofs.journal.opened.Goals as goal

pub read_all-stopped-requires-clause-numbers : goal.read_all-stopped-requires-clause-numbers
read_all-stopped-requires-clause-numbers c =
    let geometry = c.geometry-geometry.ensures in
    let blocks : c.geometry-geometry.result.blocks ≡ 32 = omega (arith, c.if-geometry-ne32.false) in
    let pages : c.geometry-geometry.result.pages ≡ 32 = omega (arith, c.if-geometry-ne32-2.false) in
    c.in-Ready.ensures.started.numbers
    ∙ (λ i. shape_for ((ap (λ (n : Geometry). n.blocks) (sym geometry) ∙ blocks) i) ((ap (λ (n : Geometry). n.pages) (sym geometry) ∙ pages) i))
