use Rattle.std.proofs.Common.{refl}
use Rattle.nl_core_new.proofs.Written.{core_on, read_on}
use Rattle.nl_core_new.proofs.making.open_with.Goals as goal

pub returns-in-Ready-clause-written : goal.returns-in-Ready-clause-written
returns-in-Ready-clause-written g c =
    let G = g.D.Counts in
    let s = c.args.device in
    let t = c.write_volume.new.device in
    let u = c.recover.new.device in
    core_on G s t u 2 c.begun.result (read_on G s t u 2 (c.if-not-write_volume.ensures.written refl) c.recover.ensures.device) c.begun.ensures.same
