use Rattle.nl_test_namespace.proofs.Opened.{writes-on}
use Rattle.nl_test_namespace.proofs.volume.list_names.Goals as goal

pub returns-clause-write : goal.returns-clause-write
returns-clause-write g c = writes-on c.requires.write c.listed-seen.new.device c.listed-seen.ensures.formed c.listed-seen.ensures.reads
