use Rattle.std.proofs.Common.{ap, arith}
use Rattle.nl_core.specs.Core.{running_of}
use Rattle.nl_field.specs.declared.shape.Shape.{Shape}
use Rattle.nl_volume_list.proofs.Charging.{nodes-charged, pool-charged}
use Rattle.nl_volume_list.proofs.counting.count_taken.Goals as goal

pub returns : goal.returns
returns g c =
    let G = g.D.Counts in
    let v = c.args.core.now in
    let free = c.requires.core.free in
    let a = c.free_nodes.ensures in
    let b = c.free_pool.ensures in
    let n = ap (λ (s : Shape). s.nodes) c.requires.core.shape in
    let m = ap (λ (s : Shape). s.meta) c.requires.core.shape in
    λ page_of_stamp tree runs. (
    let nodes = nodes-charged (G.shape v.device) (running_of G v) page_of_stamp tree runs.runs v.nodes free.nodes free.count_nodes in
    let pool = pool-charged (G.shape v.device) (running_of G v) page_of_stamp tree runs.runs v.nodes free.pool free.count_pool in
    record { nodes = omega (arith, a, n, nodes); meta = omega (arith, b, m, pool) }
    )
