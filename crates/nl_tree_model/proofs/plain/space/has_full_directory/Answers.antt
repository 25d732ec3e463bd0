use Rattle.std.proofs.Common.{◌∙◌, sym, nat_lt, length, []}
use Rattle.nl_field.specs.Numbers.{max_entries}
use Rattle.nl_tree.specs.Tree.{directory, entries_of}
use Rattle.nl_tree_model.proofs.SpaceSteps.{any_step, any_found}
use Rattle.nl_tree_model.proofs.plain.space.has_full_directory.Goals as goal

pub returns-then-is_overfull : goal.returns-then-is_overfull
returns-then-is_overfull c =
    any_found (λ e. nat_lt max_entries (length (entries_of c.args.tree.now e.0))) c.args.tree.now c.entries.at ([], directory) _ c.entries-test.true
    (sym c.if-is_overfull.true ∙ c.is_overfull.ensures ([], directory)) c.entries.invariant

pub entries-preserved : goal.entries-preserved
entries-preserved c =
    any_step (λ e. nat_lt max_entries (length (entries_of c.args.tree.now e.0))) c.args.tree.now c.entries.at ([], directory) _ c.entries-test.true
    (sym c.if-is_overfull.false ∙ c.is_overfull.ensures ([], directory)) c.entries.invariant
