use Rattle.std.proofs.Common.{◌∙◌, ap}
use Rattle.nl_field.specs.declared.shape.Shape.{Shape}
use Rattle.nl_test_pagemap.proofs.rows.put.Goals as goal

pub returns-in-Done : goal.returns-in-Done
returns-in-Done c = λ done. record {
  formed = c.virtual_write.ensures.formed;
  addresses = ap (λ (s : Shape). s.vaddrs) c.virtual_write.ensures.kept.same_shape ∙ c.requires.addresses;
  spare = c.virtual_write.ensures.spare.cleaned c.in-Done.is;
}
