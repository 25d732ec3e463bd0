use Rattle.std.proofs.Common.{arith}
use Rattle.nl_dir.proofs.Records.{spelled-dir}
use Rattle.nl_dir.proofs.look.page_at.Goals as goal

pub address_at-requires : goal.address_at-requires
address_at-requires c =
    let few = (spelled-dir c.args.rec.now c.requires.places.is_dir c.requires.places.spelled).few in
    let h = c.requires.below in
    omega (arith, few, h)
