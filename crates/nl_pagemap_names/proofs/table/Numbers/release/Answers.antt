use Rattle.std.proofs.Common.{◌<◌, length, sym, ap, subst}
use Rattle.nl_pagemap_names.specs.Table.{Table, released}
use Rattle.nl_pagemap_names.proofs.Changed.{released_table}
use Rattle.nl_pagemap_names.proofs.table.Numbers.release.Goals as goal

pub invariant_of-self : goal.invariant_of-self
invariant_of-self c =
    released_table _ c.self.invariant c.args.number (subst (λ (t : Table). c.args.number < length t.entries) (sym c.self.view_is) c.requires)

pub returns : goal.returns
returns c = ap (λ (t : Table). released c.args.number t) c.self.view_is
