use Rattle.std.proofs.Common.{◌≡◌, inr, ◌∙◌, sym, ap, arith}
use Rattle.nl_field.specs.Medium.{shape_of_image}
use Rattle.nl_field.specs.Numbers.{shape_for}
use Rattle.nl_field.specs.declared.shape.Shape.{Shape}
use Rattle.nl_nand.specs.Memory.{contents_of}
use Rattle.nl_nand.specs.declared.geometry.Geometry.{Geometry}
use Rattle.nl_test_namespace.proofs.Blank.{blank-spare}
use Rattle.nl_test_namespace.proofs.writer.begun.Goals as goal

pub returns-in-Ready : goal.returns-in-Ready
returns-in-Ready c =
    let same : shape_of_image (contents_of c.in_ok-media.media) ≡ c.args.shape = ap (λ (n : Geometry). shape_for n.blocks n.pages) c.in_ok-media.ensures.numbers ∙ sym c.requires.volume.numbers in
    record {
      formed = c.in-Ready.ensures.formed;
      numbers = c.in-Ready.ensures.started.numbers ∙ same;
      bounds = c.requires.bounds;
      spare = c.in-Ready.ensures.spare (0, inr (tt, blank-spare (contents_of c.in_ok-media.media) (let e = ap (λ (z : Shape). z.vblocks) same in let b = c.requires.bounds.some_blocks in omega (arith, e, b)) c.in_ok-media.ensures.erased));
    }
