use Rattle.std.proofs.Common.{inr, ◌∙◌, ap}
use Rattle.nl_field.specs.Numbers.{shape_for}
use Rattle.nl_nand.specs.Memory.{contents_of}
use Rattle.nl_nand.specs.declared.geometry.Geometry.{Geometry}
use Rattle.nl_test_device.proofs.Blank.{blank_spare}
use Rattle.nl_test_device_segments.proofs.Rigs.{least}
use Rattle.nl_test_device.proofs.device.started.Goals as goal

pub returns-in-Ready : goal.returns-in-Ready
returns-in-Ready c = record {
  formed = c.retain-in-Ready.ensures.formed;
  addresses = (least c.retain-in-Ready.new.self.shape (c.retain-in-Ready.ensures.medium.virtual.same_shape ∙ (c.in-Ready.ensures.started.numbers ∙ ap (λ (n : Geometry). shape_for n.blocks n.pages) c.requires.numbers))).addresses;
  spare =
      c.retain-in-Ready.ensures.medium.virtual.spare
      (c.in-Ready.ensures.spare (0, inr (tt, blank_spare (contents_of c.args.media) (ap (λ (n : Geometry). n.blocks) c.requires.numbers) (ap (λ (n : Geometry). n.pages) c.requires.numbers) c.requires.erased)));
}
