use Rattle.std.proofs.Common.{arith}
use Rattle.nl_core.specs.Core.{running_of}
use Rattle.nl_meta_running.proofs.Holds.{bounds-of}
use Rattle.nl_volume_list.specs.Next.{nodes_of}
use Rattle.nl_volume_list.specs.Onward.{path_to}
use Rattle.nl_volume_list.proofs.Depth.{depth}
use Rattle.nl_volume_list.proofs.Directories.{used-at}
use Rattle.nl_volume_list.proofs.Walking.{moved-begun, moved-way, names-count}
use Rattle.nl_volume_list.proofs.next.go_to.Goals as goal

pub item_at-item-requires-clause-used : goal.item_at-item-requires-clause-used
item_at-item-requires-clause-used g c =
    let G = g.D.Counts in
    let v = c.args.core.now in
    let b = bounds-of (G.shape v.device) c.device_stands.ensures.volume in
    let runs = c.requires.core.journaled.runs in
    used-at G v.device v.meta runs b (path_to c.args.walk.now c.args.to) c.args.to.entry.ino c.requires.leads.reached

pub move_to-requires-clause-room : goal.move_to-requires-clause-room
move_to-requires-clause-room g c =
    let G = g.D.Counts in
    let v = c.args.core.now in
    let b = bounds-of (G.shape v.device) c.device_stands.ensures.volume in
    let runs = c.requires.core.journaled.runs in
    let r = c.requires.way.room in
    let s = b.some_nodes in
    let few = depth (G.shape v.device) (running_of G v) runs.entries runs.nodes (omega (arith, s)) (path_to c.args.walk.now c.args.to) c.args.to.entry.ino c.requires.leads.reached in
    let n = names-count c.args.walk.now c.args.to c.requires.leads.kept in
    omega (arith, r, few, n)

pub returns-clause-gave : goal.returns-clause-gave
returns-clause-gave g c =
    let G = g.D.Counts in
    let v = c.args.core.now in
    let e = c.move_to.ensures in
    λ yes. record {
      path = e.path;
      begun = moved-begun (nodes_of G v) c.args.walk.now c.move_to.new.self c.requires.way.way c.requires.begun c.args.to c.requires.leads e.path e.nodes;
      way = moved-way (nodes_of G v) c.args.walk.now c.move_to.new.self c.requires.way.way c.requires.begun c.args.to c.requires.leads e.path e.nodes;
      room = e.room;
    }
