use Rattle.std.proofs.Common.{rules, ◌+◌, ◌*◌, ◌-◌, ◌/◌, ◌^◌}
use Rattle.nl_remap.proofs.LinksProofs.{step_low}
use Rattle.nl_remap.proofs.links.place.Goals as goal

pub loop-low-preserved-then-is_before : goal.loop-low-preserved-then-is_before
loop-low-preserved-then-is_before c =
    step_low c.args.links.now.items (c.args.from * 2 ^ 32 + c.args.to) c.loop-low.low c.loop-low.high (c.loop-low.low + (c.loop-low.high - c.loop-low.low) / 2) c.index.result.now c.is_before.result
    c.loop-low.invariant (search rules) c.index.ensures c.is_before.ensures c.if-is_before.true
