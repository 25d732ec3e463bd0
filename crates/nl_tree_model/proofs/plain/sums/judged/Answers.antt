use Rattle.std.proofs.Common.{◌∙◌, sym, arith}
use Rattle.nl_tree.proofs.SpaceProofs.{lacks_entries, lacks_nodes, lacks_meta, lacks_pages, lacks_nothing}
use Rattle.nl_tree.proofs.KeptProofs.{beyond, within}
use Rattle.nl_tree_model.proofs.plain.sums.judged.Goals as goal

pub returns-then-full-clause-refusal : goal.returns-then-full-clause-refusal
returns-then-full-clause-refusal c = lacks_entries _ _ (sym c.if-full.true ∙ c.requires.full)

pub returns-then-exceeds_nodes-clause-refusal : goal.returns-then-exceeds_nodes-clause-refusal
returns-then-exceeds_nodes-clause-refusal c = lacks_nodes _ _ (sym c.if-full.false ∙ c.requires.full) (sym c.if-exceeds_nodes.true ∙ c.exceeds_nodes.ensures)

pub returns-then-sums-shape-clause-refusal : goal.returns-then-sums-shape-clause-refusal
returns-then-sums-shape-clause-refusal c = lacks_meta _ _ (sym c.if-full.false ∙ c.requires.full) (sym c.if-exceeds_nodes.false ∙ c.exceeds_nodes.ensures) (beyond _ _ (omega (arith, c.requires.sums.of_meta)))

pub returns-then-sums-shape-2-clause-refusal : goal.returns-then-sums-shape-2-clause-refusal
returns-then-sums-shape-2-clause-refusal c = lacks_pages _ _ (sym c.if-full.false ∙ c.requires.full) (sym c.if-exceeds_nodes.false ∙ c.exceeds_nodes.ensures) (within _ _ _ c.requires.sums.of_meta (omega arith)) (beyond _ _ (omega (arith, c.requires.sums.of_data)))

pub returns-clause-room : goal.returns-clause-room
returns-clause-room c = lacks_nothing _ _ (sym c.if-full.false ∙ c.requires.full) (sym c.if-exceeds_nodes.false ∙ c.exceeds_nodes.ensures) (within _ _ _ c.requires.sums.of_meta (omega arith)) (within _ _ _ c.requires.sums.of_data (omega arith))
