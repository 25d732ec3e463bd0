use Rattle.nl_test_namespace.proofs.Opened.{writes-on}
use Rattle.nl_test_namespace.proofs.volume.+make_all.Goals as goal

pub settled-requires-clause-write : goal.settled-requires-clause-write
settled-requires-clause-write g t c = writes-on c.requires.write c.makes-made.new.device c.makes-made.ensures.formed c.makes-made.ensures.reads
