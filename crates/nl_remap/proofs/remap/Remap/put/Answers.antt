use Rattle.std.proofs.Common.{subst}
use Rattle.nl_remap.specs.Links.{HasLink}
use Rattle.nl_remap.specs.Table.{RemapTable, pair}
use Rattle.nl_remap.proofs.remap.Remap.put.Goals as goal

pub put_pair-requires-clause-led : goal.put_pair-requires-clause-led
put_pair-requires-clause-led c = λ name has. c.requires.led name (subst (λ (t : RemapTable). HasLink t.pairs (pair name c.args.old)) c.self.view_is has)
