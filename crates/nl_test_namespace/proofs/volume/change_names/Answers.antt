use Rattle.nl_test_namespace.proofs.Opened.{writes-on}
use Rattle.nl_test_namespace.proofs.volume.change_names.Goals as goal

pub reopened-again-requires : goal.reopened-again-requires
reopened-again-requires g c = record { write = writes-on c.requires.write c.changed-seen.new.device c.changed-seen.ensures.formed c.changed-seen.ensures.reads }

pub settled-requires-clause-write : goal.settled-requires-clause-write
settled-requires-clause-write g c = writes-on c.requires.write c.changed-seen.new.device c.changed-seen.ensures.formed c.changed-seen.ensures.reads
