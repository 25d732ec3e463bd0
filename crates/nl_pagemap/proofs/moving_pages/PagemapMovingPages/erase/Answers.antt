use Rattle.std.proofs.Common.{inl, refl, arith}
use Rattle.nl_pagemap.proofs.Failures.{refused_faults}
use Rattle.nl_pagemap.specs.Laws.{holds_live}
use Rattle.nl_pagemap.proofs.moving_pages.PagemapMovingPages.erase.Goals as goal

pub returns-clause-left : goal.returns-clause-left
returns-clause-left g c told = record { later = omega arith; each = λ m x left. inl left }

pub returns-clause-now : goal.returns-clause-now
returns-clause-now g c told failed = record {
  same_virtual = record { values = λ v. refl; firm = refl };
  holds = holds_live c.requires.formed told;
  others = λ p. inl refl;
}

pub returns-clause-write_faults : goal.returns-clause-write_faults
returns-clause-write_faults g c = refused_faults _ _ _ _ _ c.saturating_add-self.ensures refl
