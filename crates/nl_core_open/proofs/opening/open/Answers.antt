use Rattle.std.proofs.Common.{IsTrue, sym, subst}
use Rattle.nl_field.specs.Numbers.{is_legal}
use Rattle.nl_nand.specs.declared.geometry.Geometry.{Geometry}
use Rattle.nl_meta.proofs.Lists.{true_false}
use Rattle.nl_recover.proofs.Imaged.{unformed}
use Rattle.nl_core_open.proofs.opening.open.Goals as goal

pub returns-in-None-clause-told : goal.returns-in-None-clause-told
returns-in-None-clause-told g c = λ t.
    unformed (g.M.Nand.geometry c.args.media) (g.M.Nand.contents c.args.media) (g.met.M.Nand.contents_fit c.args.media t) (g.met.M.Nand.legal c.args.media)
    (λ l. true_false (sym (c.in-None.ensures.legal.1 (subst (λ (q : Geometry). IsTrue (is_legal q.blocks q.pages)) (sym c.geometry-geometry.ensures) l))))
