use Rattle.std.proofs.Common.{arith}
use Rattle.nl_field.proofs.SuperPage.{super-reads}
use Rattle.nl_field.proofs.super_page.read.Goals as goal

pub returns-clause-reads : goal.returns-clause-reads
returns-clause-reads c = rw c.decode.ensures (super-reads c.args.main.now (λ k. let byte = c.type_inv.main k in omega arith))
