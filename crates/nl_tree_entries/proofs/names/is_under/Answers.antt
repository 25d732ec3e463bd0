use Rattle.nl_tree_entries.proofs.PathProofs.{not_under_short}
use Rattle.nl_tree_entries.proofs.names.is_under.Goals as goal

pub returns-then-b-a : goal.returns-then-b-a
returns-then-b-a c = not_under_short _ _ c.if-b-a.true
