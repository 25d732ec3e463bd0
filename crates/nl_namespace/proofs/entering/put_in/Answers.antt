use Rattle.std.proofs.Common.{arith}
use Rattle.nl_dir.proofs.LawProofs.{change_takes_room}
use Rattle.nl_dir.proofs.PlaceFacts.{room-for}
use Rattle.nl_inode.specs.Nodes.{page_of_node}
use Rattle.nl_namespace.proofs.entering.put_in.Goals as goal

pub put-requires-clause-room : goal.put-requires-clause-room
put-requires-clause-room c =
    room-for c.insert.new.meta 1 (page_of_node c.args.dir) (omega arith) (change_takes_room _ c.args.meta.now c.insert.new.meta 1 c.insert.ensures.pages c.requires.has.has_room)
