use Rattle.nl_field.specs.Spelling.{u64_bytes}
use Rattle.nl_field.proofs.Placing.{put_from}
use Rattle.nl_field.proofs.numbers.put_u64.Goals as goal

pub returns : goal.returns
unfolding u64_bytes
returns c = rw c.write_u64.ensures (put_from c.args.out.now _ c.args.at 8)
