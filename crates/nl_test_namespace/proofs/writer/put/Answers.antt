use Rattle.std.proofs.Common.{◌∙◌, refl}
use Rattle.nl_test_namespace.proofs.writer.put.Goals as goal

pub returns-in-Done : goal.returns-in-Done
returns-in-Done g c = record {
  write = λ yes. record {
    formed = c.in-Done.ensures.formed;
    numbers = c.in-Done.ensures.kept.same_shape ∙ c.requires.write.numbers;
    bounds = c.requires.write.bounds;
    spare = c.in-Done.ensures.spare.cleaned refl;
  };
}
