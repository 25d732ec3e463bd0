use Rattle.std.proofs.Common.{length, arith}
use Rattle.nl_field.specs.Spelling.{u32_at}
use Rattle.nl_field.proofs.EachRow.{each_of-of_rows}
use Rattle.nl_field.proofs.numbers.u32s_from.Goals as goal

pub returns : goal.returns
unfolding u32_at
returns c = each_of-of_rows (λ row. u32_at row 0) 4 c.args.bytes.now c.read_u32_into.new.dst (length c.args.numbers.now) 0 c.read_u32_into.auto.dst (λ k below. c.read_u32_into.ensures k (omega (arith, c.read_u32_into.auto.dst)))
