use Rattle.std.proofs.Common.{◌≡◌, length, ap, arith}
use Rattle.nl_calls_write.proofs.paging.make_page.Goals as goal
use Rattle.nl_calls_write.proofs.PageMade.{makes-page}

pub returns-in-Ok-clause-made : goal.returns-in-Ok-clause-made
returns-in-Ok-clause-made g c =
    let kept = c.read_page.auto.out in
    let same = ap length c.copy_from_slice.ensures.after in
    let len = c.main.ensures.len in
    let whole : length c.read_page.new.out ≡ 4096 = omega (arith, kept, same, len) in
    makes-page g.D.Counts c.args.core.now c.args.ino c.args.index c.args.call.now c.read_page.new.out c.lay_over.new.page c.set_head.new.self.main c.in-Ok.ensures.page whole
    c.lay_over.ensures c.set_head.ensures.main
