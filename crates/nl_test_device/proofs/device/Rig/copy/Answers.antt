use Rattle.std.proofs.Common.{◌∙◌, arith, sym}
use Rattle.nl_device.proofs.Spacing.{free_is}
use Rattle.nl_test_device.proofs.Landing.{lands_free}
use Rattle.nl_test_device.proofs.device.Rig.copy.Goals as goal

pub copy-requires-clause-lands : goal.copy-requires-clause-lands
copy-requires-clause-lands c =
    let seg = c.self.inside.device.pseg in
    let free = free_is seg in
    lands_free seg c.self.invariant.spare.whole (λ zero. omega (arith, zero, free, c.free_blocks.ensures, c.if-free_blocks-eq0.false))
