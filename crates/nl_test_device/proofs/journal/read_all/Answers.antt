use Rattle.std.proofs.Common.{sym, ◌∙◌}
use Rattle.nl_test_device.proofs.Standing.{least-addresses}
use Rattle.nl_test_device.proofs.journal.read_all.Goals as goal

pub read_back-found-requires-clause-shape : goal.read_back-found-requires-clause-shape
read_back-found-requires-clause-shape c = c.in-Some.ensures.numbers ∙ sym c.requires.numbers

pub bring_back-brought-requires-clause-shape : goal.bring_back-brought-requires-clause-shape
bring_back-brought-requires-clause-shape c = c.in-Some.ensures.numbers ∙ sym (c.read_back-found.ensures.kept.medium.virtual.same_shape ∙ c.requires.numbers)

pub bytes_of-requires-clause-addresses : goal.bytes_of-requires-clause-addresses
bytes_of-requires-clause-addresses c =
    least-addresses _ (c.bring_back-brought.ensures.kept.medium.virtual.same_shape ∙ c.read_back-found.ensures.kept.medium.virtual.same_shape ∙ c.requires.numbers)
