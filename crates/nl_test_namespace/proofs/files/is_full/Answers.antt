use Rattle.std.proofs.Common.{sym, subst}
use Rattle.nl_inode.specs.Nodes.{Spaces}
use Rattle.nl_test_namespace.specs.Files.{HasFile}
use Rattle.nl_test_namespace.proofs.files.is_full.Goals as goal

pub returns : goal.returns
returns g c = record {
  file = subst (λ (z : Spaces). HasFile g.D.Counts c.args.device.now c.args.meta.now z c.args.rec.now) (sym c.has_place.ensures.same) c.requires.file;
}
