use Rattle.std.proofs.Common.{[], arith}
use Rattle.nl_meta_running.proofs.Holds.{bounds-of}
use Rattle.nl_tree.proofs.ChangeProofs.{root_reached}
use Rattle.nl_volume_list.specs.Next.{nodes_of}
use Rattle.nl_volume_list.proofs.Directories.{used-at}
use Rattle.nl_volume_list.proofs.Walking.{begun-root}
use Rattle.nl_volume_list.proofs.next.begin.Goals as goal

pub item_at-item-requires-clause-used : goal.item_at-item-requires-clause-used
item_at-item-requires-clause-used g c =
    let G = g.D.Counts in
    let v = c.args.core.now in
    let b = bounds-of (G.shape v.device) c.device_stands.ensures.volume in
    let runs = c.requires.core.journaled.runs in
    used-at G v.device v.meta runs b [] 0 (root_reached (nodes_of G v))

pub begin-requires-clause-room : goal.begin-requires-clause-room
begin-requires-clause-room g c =
    let G = g.D.Counts in
    let v = c.args.core.now in
    let b = bounds-of (G.shape v.device) c.device_stands.ensures.volume in
    let r = c.requires.way.room in
    let s = b.some_nodes in
    omega (arith, r, s)

pub returns-clause-gave : goal.returns-clause-gave
returns-clause-gave g c =
    let G = g.D.Counts in
    let v = c.args.core.now in
    λ yes. begun-root (nodes_of G v) c.args.walk.now c.begin.new.self c.requires.way.way c.requires.before c.begin.ensures
