use Rattle.std.proofs.Common.{length, arith}
use Rattle.nl_field.specs.Pointers.{no_pointer, pointer_fields}
use Rattle.nl_field.proofs.EachRow.{each_of-of_rows}
use Rattle.nl_field.proofs.numbers.pointers_from.Goals as goal

pub returns : goal.returns
returns c = each_of-of_rows pointer_fields 16 c.args.bytes.now c.loop-i.into (length c.args.into.now) no_pointer c.loop-i.auto.into (λ k below. c.loop-i.invariant k (omega arith))
