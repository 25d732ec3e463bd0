use Rattle.std.proofs.Common.{arith}
use Rattle.nl_pseg.proofs.state.State.may_begin.Goals as goal

pub overflow_mul-pages : goal.overflow_mul-pages
overflow_mul-pages c =
    let few = c.len-pairs.ensures.table.few in
    let room = c.requires.tied.named.room in
    let p = c.pages.ensures in
    omega (arith, few, room, p)
