use Rattle.std.proofs.Common.{◌≡◌, true, refl, sym, subst}
use Rattle.nl_field.specs.Inode.{is_inode}
use Rattle.nl_field.specs.declared.inode.InodeRec.{InodeRec}
use Rattle.nl_inode.specs.Nodes.{NodeBecomes, Spaces}
use Rattle.nl_namespace.proofs.MakeFits.{fits-behind}
use Rattle.nl_namespace.proofs.NodeSteps.{taken-spelled}
use Rattle.nl_namespace.proofs.naming.name_node.Goals as goal

pub put-requires-clause-spelled : goal.put-requires-clause-spelled
put-requires-clause-spelled c = subst (λ (r : InodeRec). is_inode r ≡ true) (sym c.taken-rec.ensures) (taken-spelled c.args.kind _ c.requires.used)

pub put_in-requires : goal.put_in-requires
put_in-requires c =
    fits-behind c.args.dir c.args.ino c.args.name c.taken-rec.result c.args.meta.now c.put.new.meta c.args.nodes.now c.use_node.new.self c.requires.fits c.put.ensures.done
    (subst (λ (s : Spaces). NodeBecomes c.args.ino _ s c.use_node.new.self) c.put.ensures.spaces c.use_node.ensures) _ refl
