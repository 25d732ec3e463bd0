use Rattle.std.proofs.Common.{sym, ◌∙◌}
use Rattle.nl_core.specs.Core.{running_of}
use Rattle.nl_meta.specs.Nodes.{held_in}
use Rattle.nl_meta.specs.PointerLists.{with_tag}
use Rattle.nl_spec_image.proofs.SoundProofs.{right_charges}
use Rattle.nl_spec_image.proofs.Sums.{length_mapped}
use Rattle.nl_volume_list.proofs.laws.files_are_charged.Goals as goal

pub returns : goal.returns
returns g c =
    let G = g.D.Counts in
    λ v page_of_stamp tree runs.
    (right_charges (G.shape v.device) (running_of G v) page_of_stamp tree runs.runs.right runs.runs.represents).data_pages
    ∙ sym (length_mapped with_tag (held_in (G.shape v.device) (running_of G v)))
