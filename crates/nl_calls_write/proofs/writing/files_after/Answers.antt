use Rattle.std.proofs.Common.{arith}
use Rattle.nl_calls_write.proofs.Installed.{few_files}
use Rattle.nl_calls_write.proofs.writing.files_after.Goals as goal

pub overflow_cast-result : goal.overflow_cast-result
overflow_cast-result g c =
    let G = g.D.Counts in
    let most = c.requires.core.space.few in
    let few = few_files (G.shape c.args.core.now.device) c.requires.volume in
    let taken = c.requires.taken in
    omega (arith, most, few, taken)
