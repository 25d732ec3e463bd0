use Rattle.std.proofs.Common.{arith}
use Rattle.nl_core.specs.Core.{running_of}
use Rattle.nl_calls_steps.proofs.ReadCores.{runs-then}
use Rattle.nl_spec_image.proofs.SoundProofs.{right_charges}
use Rattle.nl_volume_list.proofs.Turns.{items_are_counted}
use Rattle.nl_volume_list.proofs.laws.walks_begin.Goals as goal

pub returns-clause-few : goal.returns-clause-few
returns-clause-few g c =
    let G = g.D.Counts in
    λ v page_of_stamp tree runs. (
    let h = right_charges (G.shape v.device) (running_of G v) page_of_stamp tree runs.runs.right runs.runs.represents in
    let n = items_are_counted tree in
    let a = h.used in
    let b = h.few_nodes in
    omega (arith, n, a, b)
    )

pub returns-clause-runs : goal.returns-clause-runs
returns-clause-runs g c =
    let G = g.D.Counts in
    λ u v page_of_stamp tree tells on runs. runs-then G u v on tells page_of_stamp tree runs
