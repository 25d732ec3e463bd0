use Rattle.std.proofs.Common.{◌+◌, ◌≤◌, ◌<◌, length, sym, subst, ◌∙◌, arith}
use Rattle.nl_dir.proofs.PlaceFacts.{room-for}
use Rattle.nl_inode.specs.Nodes.{Spaces, page_of_node}
use Rattle.nl_namespace.proofs.Rooms.{few-changed, removed-of-pool, room-left}
use Rattle.nl_namespace.proofs.entering.take_out.Goals as goal

pub put-requires-clause-room : goal.put-requires-clause-room
put-requires-clause-room c =
    room-for c.remove-given.new.meta 1 (page_of_node c.args.dir) (omega arith) (room-left _ c.args.meta.now c.remove-given.new.meta 1 2 c.remove-given.ensures.pages (few-changed c.get-rec.result c.remove-given.ensures.place) c.requires.has.has_room)

pub give_pool-requires-clause-from_pool : goal.give_pool-requires-clause-from_pool
give_pool-requires-clause-from_pool c =
    let r = removed-of-pool c.args.meta.now c.args.dir c.args.name.now c.args.nodes.now c.requires c.get-rec.result c.get-rec.ensures c.in-Some.vaddr (sym c.remove-given.ensures.given ∙ c.in-Some.is) in
    subst (λ (s : Spaces). s.first ≤ c.in-Some.vaddr) (sym c.put.ensures.spaces) r.0

pub give_pool-requires-clause-in_pool : goal.give_pool-requires-clause-in_pool
give_pool-requires-clause-in_pool c =
    let r = removed-of-pool c.args.meta.now c.args.dir c.args.name.now c.args.nodes.now c.requires c.get-rec.result c.get-rec.ensures c.in-Some.vaddr (sym c.remove-given.ensures.given ∙ c.in-Some.is) in
    subst (λ (s : Spaces). c.in-Some.vaddr < s.first + length s.pool) (sym c.put.ensures.spaces) r.1
