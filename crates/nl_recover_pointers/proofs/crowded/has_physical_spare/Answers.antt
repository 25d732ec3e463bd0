use Rattle.std.proofs.Common.{ap, arith, sym, ◌∙◌}
use Rattle.nl_recover_pointers.specs.Spare.{has_spare}
use Rattle.nl_recover_pointers.proofs.Blanks.{physical_blank}
use Rattle.nl_recover_pointers.proofs.Copying.{physical_spare_is}
use Rattle.nl_recover_pointers.proofs.crowded.has_physical_spare.Goals as goal

pub returns-then-branch : goal.returns-then-branch
returns-then-branch c = sym (physical_blank c.args.shape.now c.args.scan.now.seen c.args.held.now (sym c.in_ok-has_blank.ensures ∙ c.if-branch.true))

pub returns : goal.returns
returns c =
    let is = ap (has_spare c.args.shape.now.vblocks c.args.shape.now.pblocks) c.in_ok-copies.ensures ∙ physical_spare_is c.args.shape.now c.args.scan.now.seen c.args.held.now in
    grind (arith, is)
