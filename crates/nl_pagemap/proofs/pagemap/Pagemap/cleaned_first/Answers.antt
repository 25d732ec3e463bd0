use Rattle.nl_pagemap.specs.Mapped.{seen}
use Rattle.nl_pagemap.proofs.Chosen.{cleaned_first, none_cleaned}
use Rattle.nl_pagemap.proofs.pagemap.Pagemap.cleaned_first.Goals as goal

pub returns-in-Some-clause-some : goal.returns-in-Some-clause-some
returns-in-Some-clause-some g c = cleaned_first (seen g.M.Nand.contents c.args.self.now) c.requires.formed c.in-Some.block c.in-Some.ensures.some

pub returns-in-None-clause-none : goal.returns-in-None-clause-none
returns-in-None-clause-none g c = none_cleaned (seen g.M.Nand.contents c.args.self.now) c.requires.formed c.in-None.ensures.none
