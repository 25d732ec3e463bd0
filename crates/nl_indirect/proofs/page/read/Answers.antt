use Rattle.std.proofs.Common.{◌∙◌, sym, ap, subst, IsSome, refl}
use Rattle.nl_meta.proofs.Lists.{some_in}
use Rattle.nl_indirect.specs.Ranges.{some_pointer}
use Rattle.nl_indirect.proofs.Spelled.{spells}
use Rattle.nl_indirect.proofs.page.read.Goals as goal

pub spelled_at-requires-clause-spelled : goal.spelled_at-requires-clause-spelled
spelled_at-requires-clause-spelled c = subst IsSome (sym ((spells c.args.page.now.main c.requires.spelled).each c.args.slot c.requires.slot)) refl

pub returns : goal.returns
returns c =
    c.some.ensures ∙ ap some_pointer (some_in _ _ (sym c.spelled_at.ensures ∙ (spells c.args.page.now.main c.requires.spelled).each c.args.slot c.requires.slot))
