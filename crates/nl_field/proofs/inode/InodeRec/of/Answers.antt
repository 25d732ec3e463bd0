use Rattle.std.proofs.Common.{◌≡◌, ◌+◌, ◌-◌, arith}
use Rattle.nl_field.proofs.inode.InodeRec.of.Goals as goal

pub returns-clause-value : goal.returns-clause-value
returns-clause-value c =
    let len : (c.args.at + 256) - c.args.at ≡ 256 = omega arith in
    rw (len, c.main.ensures.bytes) at c.read.ensures.value

pub returns-clause-reads : goal.returns-clause-reads
returns-clause-reads c =
    let len : (c.args.at + 256) - c.args.at ≡ 256 = omega arith in
    rw (len, c.main.ensures.bytes) at c.read.ensures.reads
