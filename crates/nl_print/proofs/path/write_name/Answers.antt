use Rattle.std.proofs.Common.{[], ◌∷◌}
use Rattle.nl_io.proofs.StreamsLaws.{then_write, stopped}
use Rattle.nl_print.proofs.path.write_name.Goals as goal

pub returns-in-Took-clause-text : goal.returns-in-Took-clause-text
returns-in-Took-clause-text g c = then_write _ _ _ _ (47 ∷ []) c.args.name.now c.in-Took.ensures.bytes c.write-in-Took.ensures.bytes

pub returns-in-Failed-clause-text : goal.returns-in-Failed-clause-text
returns-in-Failed-clause-text g c = stopped _ _ (47 ∷ []) c.args.name.now c.in-Failed.ensures.bytes
