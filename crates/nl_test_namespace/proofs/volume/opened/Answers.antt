use Rattle.std.proofs.Common.{sym}
use Rattle.nl_test_namespace.proofs.Opened.{opened-volume}
use Rattle.nl_test_namespace.proofs.volume.opened.Goals as goal

pub recover-requires-clause-shape : goal.recover-requires-clause-shape
recover-requires-clause-shape g c = sym c.requires.write.numbers

pub returns-in-Ready-clause-write : goal.returns-in-Ready-clause-write
returns-in-Ready-clause-write g c = (opened-volume c.requires.write c.in-Ready.ensures.formed c.in-Ready.ensures.device c.in-Ready.ensures.walked).0

pub returns-in-Ready-clause-volume : goal.returns-in-Ready-clause-volume
returns-in-Ready-clause-volume g c = (opened-volume c.requires.write c.in-Ready.ensures.formed c.in-Ready.ensures.device c.in-Ready.ensures.walked).1
