use Rattle.std.proofs.Common.{◌≡◌, ◌+◌, ◌-◌, arith}
use Rattle.nl_field.proofs.pointer.Pointer.of.Goals as goal

pub returns-clause-reads : goal.returns-clause-reads
returns-clause-reads c =
    let len : (c.args.at + 16) - c.args.at ≡ 16 = omega arith in
    rw (len, c.main.ensures.bytes) at c.read.ensures.reads
