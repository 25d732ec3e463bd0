use Rattle.std.proofs.Common.{rules}
use Rattle.nl_remap.proofs.LinksProofs.{IsRising-remove}
use Rattle.nl_remap.proofs.TableProofs.{was_is, led_paired}
use Rattle.nl_remap.proofs.pairs.lead_pair.Goals as goal

pub remove-requires : goal.remove-requires
remove-requires c =
    let found = was_is c.args.by_old.now.items c.args.by_target.now.items c.args.at c.place-was.result c.index-pair.result.now c.requires.paired c.requires.within c.index-pair.ensures c.place-was.ensures in
    search rules

pub place-now-requires : goal.place-now-requires
place-now-requires c =
    let found = was_is c.args.by_old.now.items c.args.by_target.now.items c.args.at c.place-was.result c.index-pair.result.now c.requires.paired c.requires.within c.index-pair.ensures c.place-was.ensures in
    rw c.remove.ensures.items (IsRising-remove c.args.by_target.now.items c.place-was.result found.0 c.requires.paired.rising)

pub returns-clause-paired : goal.returns-clause-paired
returns-clause-paired c = led_paired c.args.by_old.now.items c.args.by_target.now.items c.remove.new.self.items c.put.new.links.items c.args.at c.place-was.result c.place-now.result c.args.new c.index-pair.result.now
    c.requires.paired c.requires.within c.index-pair.ensures c.place-was.ensures c.remove.ensures.items c.place-now.ensures c.put.ensures.items (search rules) c.requires.free c.requires.other
