use Rattle.std.proofs.Common.{ap, arith, sym, ◌∙◌}
use Rattle.nl_recover_pointers.specs.Spare.{has_spare}
use Rattle.nl_recover_pointers.proofs.Blanks.{virtual_blank}
use Rattle.nl_recover_pointers.proofs.Copying.{virtual_spare_is}
use Rattle.nl_recover_pointers.proofs.crowded.has_virtual_spare.Goals as goal

pub returns-then-branch : goal.returns-then-branch
returns-then-branch c = sym (virtual_blank c.args.shape.now c.args.scan.now.seen (sym c.in_ok-has_blank.ensures ∙ c.if-branch.true))

pub returns : goal.returns
returns c =
    let is = ap (has_spare 0 c.args.shape.now.vblocks) c.in_ok-copies.ensures ∙ virtual_spare_is c.args.shape.now c.args.scan.now.seen in
    grind (arith, is)
