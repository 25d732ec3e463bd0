use Rattle.std.proofs.Common.{rules, sym, ◌∙◌, ◌+◌, ◌*◌, ◌-◌, ◌/◌, ◌^◌}
use borrow.Author.Tests.{ltb-true}
use Rattle.nl_callbacks.specs.Links.{no_link, rank}
use Rattle.nl_callbacks.proofs.ListsProofs.{step_low}
use Rattle.nl_callbacks.proofs.links.place.Goals as goal

pub loop-low-preserved-then-is_before : goal.loop-low-preserved-then-is_before
loop-low-preserved-then-is_before c =
    step_low rank no_link c.args.links.now.items (c.args.key * 2 ^ 64 + c.args.number) c.loop-low.low c.loop-low.high (c.loop-low.low + (c.loop-low.high - c.loop-low.low) / 2) c.index.result.now
    c.loop-low.invariant (search rules) c.index.ensures (ltb-true (rank c.index.result.now) (c.args.key * 2 ^ 64 + c.args.number) (sym c.is_before.ensures ∙ c.if-is_before.true))
