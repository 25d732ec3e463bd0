use Rattle.std.proofs.Common.{◌∙◌, sym}
use Rattle.nl_tree.proofs.SpaceProofs.{lacks_entries, lacks_nodes, lacks_meta, lacks_pages, lacks_nothing}
use Rattle.nl_tree.proofs.KeptProofs.{beyond, within}
use Rattle.nl_tree_model.proofs.plain.sums.in_one_pass.Goals as goal

pub returns-then-has_full_directory-clause-refusal : goal.returns-then-has_full_directory-clause-refusal
returns-then-has_full_directory-clause-refusal c = lacks_entries _ _ (sym c.if-has_full_directory.true ∙ c.has_full_directory.ensures)

pub returns-then-exceeds_nodes-clause-refusal : goal.returns-then-exceeds_nodes-clause-refusal
returns-then-exceeds_nodes-clause-refusal c = lacks_nodes _ _ (sym c.if-has_full_directory.false ∙ c.has_full_directory.ensures) (sym c.if-exceeds_nodes.true ∙ c.exceeds_nodes.ensures)

pub returns-in_default-clause-refusal : goal.returns-in_default-clause-refusal
returns-in_default-clause-refusal c =
    lacks_meta _ _ (sym c.if-has_full_directory.false ∙ c.has_full_directory.ensures) (sym c.if-exceeds_nodes.false ∙ c.exceeds_nodes.ensures) (beyond _ _ c.in_default.ensures.beyond)

pub returns-in_default-data_total-clause-refusal : goal.returns-in_default-data_total-clause-refusal
returns-in_default-data_total-clause-refusal c =
    lacks_pages _ _ (sym c.if-has_full_directory.false ∙ c.has_full_directory.ensures) (sym c.if-exceeds_nodes.false ∙ c.exceeds_nodes.ensures)
    (within _ _ _ c.in-Some.ensures.within.0 c.in-Some.ensures.within.1) (beyond _ _ c.in_default-data_total.ensures.beyond)

pub returns-clause-room : goal.returns-clause-room
returns-clause-room c =
    lacks_nothing _ _ (sym c.if-has_full_directory.false ∙ c.has_full_directory.ensures) (sym c.if-exceeds_nodes.false ∙ c.exceeds_nodes.ensures)
    (within _ _ _ c.in-Some.ensures.within.0 c.in-Some.ensures.within.1) (within _ _ _ c.in-Some-data_total.ensures.within.0 c.in-Some-data_total.ensures.within.1)
