use Rattle.std.proofs.Common.{◌∙◌, ap, sym, subst, ◌<◌, refl}
use Rattle.nl_field.specs.declared.shape.Shape.{Shape}
use Rattle.nl_test_device.proofs.device.write_at.Goals as goal

pub virtual_write-requires-clause-within : goal.virtual_write-requires-clause-within
virtual_write-requires-clause-within c = subst (λ n. c.args.vaddr < n) (sym c.requires.device.addresses) c.requires.within
