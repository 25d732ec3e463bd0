use Rattle.std.proofs.Common.{length, refl, subst}
use Rattle.nl_blocks.specs.Table.{BestOf, Table, is_free, wear_of}
use Rattle.nl_blocks.proofs.TableProofs.{best_none, best_of, best_some}
use Rattle.nl_blocks.proofs.blocks.Blocks.least_worn.Goals as goal

pub returns-clause-best : goal.returns-clause-best
returns-clause-best c =
    subst (λ (t : Table). BestOf is_free wear_of t.blocks (length t.blocks) c.least.result) c.self.view_is
    (best_of c.self.inside.blocks.items c.self.inside.waiting c.least.result c.self.invariant.keyed c.least.ensures)

pub returns-clause-none : goal.returns-clause-none
returns-clause-none c = best_none is_free wear_of c.args.self.now.blocks (length c.args.self.now.blocks) c.least.result refl (subst (λ (t : Table). BestOf is_free wear_of t.blocks (length t.blocks) c.least.result) c.self.view_is
    (best_of c.self.inside.blocks.items c.self.inside.waiting c.least.result c.self.invariant.keyed c.least.ensures))

pub returns-clause-some : goal.returns-clause-some
returns-clause-some c = best_some is_free wear_of c.args.self.now.blocks (length c.args.self.now.blocks) c.least.result refl (subst (λ (t : Table). BestOf is_free wear_of t.blocks (length t.blocks) c.least.result) c.self.view_is
    (best_of c.self.inside.blocks.items c.self.inside.waiting c.least.result c.self.invariant.keyed c.least.ensures))
