use Rattle.std.proofs.Common.{ℕ, IfNone, subst}
use Rattle.nl_remap.specs.Links.{HasLink}
use Rattle.nl_remap.specs.Table.{pair}
use Rattle.nl_pseg_names.specs.OldNames.{NameTable}
use Rattle.nl_pseg_names.proofs.old_names.OldNames.name_of.Goals as goal

pub returns-clause-none : goal.returns-clause-none
returns-clause-none c =
    subst (λ (t : NameTable). IfNone c.name_of.result ((name : ℕ) → HasLink t.pairs (pair name c.args.target) → ⊥)) c.self.view_is c.name_of.ensures.none
