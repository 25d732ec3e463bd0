use Rattle.std.proofs.Common.{arith}
use Rattle.nl_field.proofs.AreBytes.{all-fit_u32}
use Rattle.nl_field.proofs.numbers.put_u32s.Goals as goal

pub returns-clause-fits : goal.returns-clause-fits
returns-clause-fits c = all-fit_u32 c.args.numbers.now (λ k. let number = c.type_inv.numbers k in omega arith)
