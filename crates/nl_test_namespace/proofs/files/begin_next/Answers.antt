use Rattle.std.proofs.Common.{sym, subst}
use Rattle.nl_field.specs.declared.inode.InodeRec.{InodeRec}
use Rattle.nl_test_namespace.specs.Files.{HasFile}
use Rattle.nl_test_namespace.proofs.Beginning.{next}
use Rattle.nl_test_namespace.proofs.files.begin_next.Goals as goal

pub returns : goal.returns
returns g c = record {
  file = subst (λ (z : InodeRec). HasFile g.D.Counts c.args.device.now c.args.meta.now c.args.nodes.now z) (sym c.taken.ensures) (next g.D.Counts c.args.device.now c.args.meta.now c.args.nodes.now c.args.rec.now c.args.rec.now.generation c.requires.file);
}
