use Rattle.std.proofs.Common.{not, ◌==◌, arith}
use Rattle.nl_meta.proofs.Rising.{filtered_few}
use Rattle.nl_test_metadata.proofs.dir.add.Goals as goal

pub insert-requires-clause-room : goal.insert-requires-clause-room
insert-requires-clause-room c =
    let few = filtered_few (λ a. not (a == 0)) c.args.meta.now.dirty in
    let dirty = c.dirty.ensures in
    let less = c.if-dirty-ge63.false in
    omega (arith, few, dirty, less)

pub insert-requires-2-clause-room : goal.insert-requires-2-clause-room
insert-requires-2-clause-room c =
    let few = filtered_few (λ a. not (a == 0)) c.args.meta.now.dirty in
    let dirty = c.dirty.ensures in
    let less = c.if-dirty-ge63.false in
    omega (arith, few, dirty, less)
