use Rattle.std.proofs.Common.{ap, refl, ◌∙◌}
use Rattle.nl_meta.specs.Pages.{with_address}
use Rattle.nl_indirect.proofs.Fresh.{with-twice}
use Rattle.nl_test_device.proofs.journal.put.Goals as goal

pub returns-in-Some-clause-dirty : goal.returns-in-Some-clause-dirty
returns-in-Some-clause-dirty c = λ e. ap (with_address c.args.vaddr) (c.if-not-fresh.ensures.done refl).dirty ∙ with-twice c.args.vaddr c.args.meta.now.dirty
