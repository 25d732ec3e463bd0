use Rattle.nl_test_pagemap.specs.Rigs.{HasAddressed}
use Rattle.nl_test_pagemap.proofs.rows.differs.Given as goal

abbrev pub invariant-loop-row : goal.invariant-loop-row
invariant-loop-row l = HasAddressed l.device
