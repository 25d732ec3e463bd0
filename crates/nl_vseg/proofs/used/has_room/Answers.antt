use Rattle.std.proofs.Common.{◌≡◌, true, false, refl}
use Rattle.nl_blocks.specs.Table.{block_at}
use Rattle.nl_blocks.proofs.UsedLaws.{used-full}
use Rattle.nl_vseg.specs.Used.{is_open_state}
use Rattle.nl_vseg.proofs.Using.{next_room, none_full}
use Rattle.nl_vseg.proofs.used.has_room.Goals as goal

pub returns-then-not-is_open-clause-full : goal.returns-then-not-is_open-clause-full
returns-then-not-is_open-clause-full c full =
    let shut : is_open_state (block_at c.args.blocks.now c.args.block).state ≡ false = cc in
    used-full is_open_state c.args.blocks.now c.args.block shut

pub returns-in-Some-clause-room : goal.returns-in-Some-clause-room
returns-in-Some-clause-room c room =
    let open_is : is_open_state (block_at c.args.blocks.now c.args.block).state ≡ true = cc in
    next_room c.args.blocks.now c.count.ensures.table c.args.block c.requires.first c.requires.within open_is c.in-Some.field-0 c.in-Some.ensures.some

pub returns-in-None-clause-full : goal.returns-in-None-clause-full
returns-in-None-clause-full c full =
    let open_is : is_open_state (block_at c.args.blocks.now c.args.block).state ≡ true = cc in
    none_full c.args.blocks.now c.count.ensures.table c.args.block c.requires.first c.requires.within open_is (c.in-None.ensures.full.0 refl)
