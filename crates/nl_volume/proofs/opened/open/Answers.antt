use Rattle.std.proofs.Common.{◌≡◌, [], ap, sym, ◌∙◌, arith}
use Rattle.nl_device.specs.Medium.{medium_of}
use Rattle.nl_field.specs.Medium.{shape_of_image}
use Rattle.nl_field.specs.Numbers.{shape_for}
use Rattle.nl_spec_image.specs.Stands.{ConsistentAs}
use Rattle.nl_volume.proofs.Opens.{not_sound}
use Rattle.nl_volume.proofs.Trees.{sound_as_it, tree_of}
use Rattle.nl_volume.proofs.opened.open.Goals as goal

pub returns-in-Opened-clause-opened : goal.returns-in-Opened-clause-opened
returns-in-Opened-clause-opened g c =
    let v = c.in-Opened.volume.core in
    let e = c.in-Opened.ensures in
    let image = g.M.Nand.contents c.args.media in
    let sound : g.M.Nand.tells → ConsistentAs image v.count (tree_of image) = λ t. let k = e.sound t in sound_as_it image v.count k.0 k.1 in
    let next = e.behind.next_is in
    let low = e.behind.spelled in
    let numbers = (e.stands (tree_of image) [] (λ l none. absurd none) sound).0.serves.core.formed.segments.numbers in
    record {
      tree = tree_of image;
      opens = λ t. (
          let fit = g.met.M.Nand.contents_fit (medium_of v.device) t in
          let here : v.device.shape ≡ shape_of_image (g.M.Nand.contents (medium_of v.device)) = numbers ∙ (λ j. shape_for (sym fit.blocks j) (sym fit.pages j)) in
          record { sound = sound t; shape = here ∙ ap shape_of_image (e.medium.same_contents t); next_stamp = e.next_stamp t });
      number = e.number;
      few = e.few;
      spelled = (omega (arith, next), low);
    }

pub returns-in-Opened-clause-behind : goal.returns-in-Opened-clause-behind
returns-in-Opened-clause-behind g c = c.in-Opened.ensures.behind

pub returns-in-Damaged-clause-why : goal.returns-in-Damaged-clause-why
returns-in-Damaged-clause-why g c t =
    let k = c.in-Damaged.ensures.told t in
    (k.0, k.1, not_sound (g.M.Nand.contents c.args.media) c.in-Damaged.place k.1)
