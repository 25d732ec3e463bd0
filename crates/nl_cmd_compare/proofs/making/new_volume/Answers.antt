use Rattle.std.proofs.Common.{◌≡◌, ◌∙◌, [], ℕ, ap, refl, subst, sym}
use Rattle.nl_device.specs.contracts.counts.DeviceCounts.TheImpl.{ghosts as device}
use Rattle.nl_nand.specs.declared.geometry.Geometry.{Geometry}
use Rattle.nl_spec_image.specs.Stands.{ConsistentAs}
use Rattle.nl_tree.specs.Tree.{empty_tree}
use Rattle.nl_volume.specs.Opening.{opening_of}
use Rattle.nl_cmd_compare.proofs.Shapes.{of_image}
use Rattle.nl_cmd_compare.proofs.making.new_volume.Goals as goal

pub returns-in-Ok : goal.returns-in-Ok
returns-in-Ok g c =
    let N = g.M.Nand in
    let G = device g.row.M N g.M.Nand-dict in
    let v = c.in-Ok.volume in
    let e = c.in-Ok.ensures in
    let media = c.in-Done.media in
    let image = N.contents media in
    let sound : N.tells → ConsistentAs image v.core.count empty_tree =
    λ t. subst (λ (n : ℕ). ConsistentAs image n empty_tree)
    (sym (c.represents_one.ensures image v.core.count 0 e.opened.tree empty_tree (e.opened.opens t).sound.stands (c.in-Done.ensures.stands t).stands).0)
    (c.in-Done.ensures.stands t) in
    record {
      origin = v;
      opening = opening_of G v.core empty_tree [];
      asked = [];
      has = record { bounded = tt; follows = λ later each. e.stands empty_tree later each sound; due = λ t. tt };
      same_shape = λ t. (e.opened.opens t).shape ∙ of_image c.args.blocks c.args.pages image ((g.met.M.Nand.contents_fit media t).blocks ∙ ap (λ (h : Geometry). h.blocks) c.in-Done.ensures.done) ((g.met.M.Nand.contents_fit media t).pages ∙ ap (λ (h : Geometry). h.pages) c.in-Done.ensures.done);
      from_empty = λ t. refl;
      without_fault = refl;
      count = refl;
    }
