use Rattle.std.proofs.Common.{◌∙◌, sym}
use Rattle.nl_recover.proofs.PointerPages.{spelled-here}
use Rattle.nl_recover.proofs.addresses.pointer_at.Goals as goal

pub returns-then-is_physical : goal.returns-then-is_physical
returns-then-is_physical c = spelled-here c.args.shape.now c.args.page.now.main c.args.slot c.in-Some.pointer c.in-Some.ensures.value (sym c.is_physical.ensures ∙ c.if-is_physical.true)
