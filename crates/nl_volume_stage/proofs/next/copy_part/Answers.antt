use Rattle.std.proofs.Common.{◌-◌, ◌*◌, ◌∙◌, arith, length}
use Rattle.nl_volume_stage.proofs.Given.{part_head, whole_parts}
use Rattle.nl_volume_stage.proofs.next.copy_part.Goals as goal

pub returns : goal.returns
returns c =
    let w = whole_parts c.args.from (length c.args.bytes.now) c.args.index c.requires.whole in
    let low = w.0 in
    let high = w.1 in
    let same = c.from.ensures in
    c.set_head.ensures.main ∙ part_head _ _ (4096 * c.args.index - c.args.from) c.args.bytes.now (omega arith) (omega (arith, same)) (omega (arith, low, high))
