use Rattle.nl_pagemap.proofs.Programmed.{spelled}
use Rattle.nl_pagemap.proofs.pagemap.Pagemap.program.Goals as goal

pub try_page-answer-requires-clause-spelled : goal.try_page-answer-requires-clause-spelled
try_page-answer-requires-clause-spelled g c = spelled c.args.self.now.next c.requires.formed.some c.requires.stamp
