use Rattle.std.proofs.Common.{◌<◌, length, sym, ap, subst}
use Rattle.nl_pagemap_names.specs.Table.{Table, given}
use Rattle.nl_pagemap_names.proofs.Changed.{given_table}
use Rattle.nl_pagemap_names.proofs.table.Numbers.give.Goals as goal

pub invariant_of-self : goal.invariant_of-self
invariant_of-self c =
    given_table _ c.self.invariant c.args.number (subst (λ (t : Table). c.args.number < length t.entries) (sym c.self.view_is) c.requires) c.args.entry

pub returns : goal.returns
returns c = ap (λ (t : Table). given c.args.number c.args.entry t) c.self.view_is
