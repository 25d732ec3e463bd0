use Rattle.std.proofs.Common.{◌≡◌, ◌∙◌, true, ap, refl}
use Rattle.nl_field.specs.Bytes.{zeros}
use Rattle.nl_field.specs.Inode.{is_inode, is_inode_of_kind}
use Rattle.nl_field.specs.declared.inode.Kind.TheVariants.{File}
use Rattle.nl_inode.specs.Nodes.{taken_as}
use Rattle.nl_test_metadata.proofs.inode.shown.Goals as goal

spelled : is_inode (taken_as File 6) ≡ true
unfolding is_inode_of_kind zeros
spelled = refl

pub put-requires-clause-spelled : goal.put-requires-clause-spelled
put-requires-clause-spelled c = ap is_inode c.taken.ensures ∙ spelled
