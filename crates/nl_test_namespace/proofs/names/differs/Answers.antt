use Rattle.std.proofs.Common.{refl}
use Rattle.nl_test_namespace.proofs.Opened.{volume-shape}
use Rattle.nl_test_namespace.proofs.names.differs.Goals as goal

pub begun-requires-clause-volume : goal.begun-requires-clause-volume
begun-requires-clause-volume c = volume-shape c.args.blocks c.args.pages c.in-Some.shape (c.in-Some.ensures.legal.0 refl) c.in-Some.ensures.numbers
