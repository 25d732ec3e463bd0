use Rattle.nl_top.proofs.PutAndGet.{put_is_got}
use Rattle.nl_top.proofs.laws.put_is_got.Goals as goal

pub returns : goal.returns
returns g c = λ old new. put_is_got g.M.Nand.tells c.put_laws.ensures c.represents_one.ensures _
