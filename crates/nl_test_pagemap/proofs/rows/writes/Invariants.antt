use Rattle.nl_test_pagemap.specs.Rigs.{HasAddressed}
use Rattle.nl_test_pagemap.proofs.rows.writes.Given as goal

abbrev pub invariant-loop-n : goal.invariant-loop-n
invariant-loop-n l = HasAddressed l.device
