use Rattle.nl_pagemap.specs.Mapped.{seen}
use Rattle.nl_pagemap.proofs.Forgotten.{forgotten_mapped}
use Rattle.nl_pagemap.proofs.pagemap.Pagemap.forget_released.Goals as goal

pub returns-clause-formed : goal.returns-clause-formed
returns-clause-formed g c = forgotten_mapped (seen g.M.Nand.contents c.args.self.now) c.forget_released.new.self c.requires.formed c.forget_released.ensures
