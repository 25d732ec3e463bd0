use Rattle.std.proofs.Common.{rules}
use Rattle.nl_remap.proofs.TableProofs.{was_is, taken_paired}
use Rattle.nl_remap.proofs.pairs.take_pair.Goals as goal

pub remove-requires : goal.remove-requires
remove-requires c =
    let found = was_is c.args.by_old.now.items c.args.by_target.now.items c.args.at c.place-was.result c.index-pair.result.now c.requires.paired c.requires.within c.index-pair.ensures c.place-was.ensures in
    search rules

pub returns-clause-paired : goal.returns-clause-paired
returns-clause-paired c = taken_paired c.args.by_old.now.items c.args.by_target.now.items c.remove-2.new.self.items c.remove.new.self.items c.args.at c.place-was.result c.index-pair.result.now
    c.requires.paired c.requires.within c.index-pair.ensures c.place-was.ensures c.remove-2.ensures.items c.remove.ensures.items
