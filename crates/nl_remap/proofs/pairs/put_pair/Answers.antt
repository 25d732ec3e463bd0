use Rattle.std.proofs.Common.{rules, sym, ◌∙◌, ap, insert}
use Rattle.nl_remap.specs.Table.{pair}
use Rattle.nl_remap.proofs.TableProofs.{added_paired, place_counts}
use Rattle.nl_remap.proofs.pairs.put_pair.Goals as goal

pub returns-clause-paired : goal.returns-clause-paired
returns-clause-paired c = added_paired c.args.by_old.now.items c.args.by_target.now.items c.put-2.new.links.items c.put.new.links.items c.place-at.result c.place-now.result c.args.old c.args.new
    c.requires.paired c.place-now.ensures c.put.ensures.items c.place-at.ensures c.put-2.ensures.items (search rules) (search rules) c.requires.fresh c.requires.free c.requires.other c.requires.led

pub returns-clause-items : goal.returns-clause-items
returns-clause-items c = c.put-2.ensures.items
    ∙ ap (λ k. insert c.args.by_old.now.items k (pair c.args.old c.args.new)) (sym (place_counts c.args.by_old.now.items c.args.old c.place-at.result c.requires.paired.table c.place-at.ensures))
