use Rattle.std.proofs.Common.{◌≡◌, ℕ, true, refl, ap, ◌∙◌}
use Rattle.nl_field.specs.Bytes.{zeros}
use Rattle.nl_field.specs.Inode.{is_inode, is_inode_of_kind}
use Rattle.nl_calls_names.specs.Dropping.{unused_as}
use Rattle.nl_calls_names.proofs.dropping.drop_node.Goals as goal

spelled : (generation : ℕ) → is_inode (unused_as generation) ≡ true
unfolding is_inode_of_kind zeros
spelled generation = refl

pub put-requires-clause-spelled : goal.put-requires-clause-spelled
put-requires-clause-spelled c = ap is_inode c.unused.ensures ∙ spelled c.get-rec.result.generation
