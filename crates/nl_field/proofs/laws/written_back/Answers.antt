use Rattle.std.proofs.Common.{arith}
use Rattle.nl_field.proofs.NumberLaw.{number-law}
use Rattle.nl_field.proofs.laws.written_back.Goals as goal

pub returns : goal.returns
returns c = number-law c.args.width c.args.bytes.now c.requires (λ k. let byte = c.type_inv.bytes k in omega arith)
