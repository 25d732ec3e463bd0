use Rattle.std.proofs.Common.{refl}
use Rattle.nl_field.specs.declared.inode.Kind.TheVariants.{File}
use Rattle.nl_inode.specs.Nodes.{taken_as}
use Rattle.nl_test_namespace.proofs.Beginning.{begins}
use Rattle.nl_test_namespace.proofs.contents.outcome.Goals as goal

pub end_of-requires-clause-file : goal.end_of-requires-clause-file
end_of-requires-clause-file g c = begins g.D.Counts c.args.device.now c.args.shape c.in_ok-meta.meta c.in_ok-nodes.nodes (taken_as File 0) c.requires.numbers c.requires.idle c.requires.shape c.in_ok-meta.ensures c.in_ok-nodes.ensures.first c.in_ok-nodes.ensures.pool refl
