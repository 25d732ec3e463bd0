use Rattle.std.proofs.Common.{not, ◌==◌, arith}
use Rattle.nl_meta.proofs.Rising.{filtered_few}
use Rattle.nl_test_metadata.proofs.dir.removed.Goals as goal

pub remove-requires-clause-room : goal.remove-requires-clause-room
remove-requires-clause-room c =
    let few = filtered_few (λ a. not (a == 0)) c.args.meta.now.dirty in
    let dirty = c.dirty.ensures in
    let less = c.if-dirty-gt61.false in
    omega (arith, few, dirty, less)
