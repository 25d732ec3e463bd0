use Rattle.std.proofs.Common.{◌∙◌, ap}
use Rattle.nl_field.specs.declared.shape.Shape.{Shape}
use Rattle.nl_test_pagemap.proofs.rows.clean.Goals as goal

pub returns-in-Done : goal.returns-in-Done
returns-in-Done c =
    let virtual = c.clean.ensures.kept.virtual in
    record {
      formed = c.clean.ensures.formed;
      addresses = ap (λ (s : Shape). s.vaddrs) virtual.same_shape ∙ c.requires.addresses;
      spare = virtual.spare c.requires.spare;
    }

pub returns-in-Fault : goal.returns-in-Fault
returns-in-Fault c =
    let virtual = c.clean.ensures.kept.virtual in
    record {
      formed = c.clean.ensures.formed;
      addresses = ap (λ (s : Shape). s.vaddrs) virtual.same_shape ∙ c.requires.addresses;
      spare = virtual.spare c.requires.spare;
    }
