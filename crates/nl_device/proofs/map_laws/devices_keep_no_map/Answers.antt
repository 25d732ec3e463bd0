use Rattle.nl_device.specs.Laws.{state_is}
use Rattle.nl_iface.proofs.Tables.{is_table}
use Rattle.nl_device.specs.contracts.counts.DeviceCounts.TheImpl.{ghosts}
use Rattle.nl_device.proofs.map_laws.devices_keep_no_map.Goals as goal

pub returns-clause-led : goal.returns-clause-led
returns-clause-led g c d formed none away =
    let G = ghosts g.row.M g.M.Nand g.M.Nand-dict in
    c.own_maps_are_refused.ensures.led (G.names d) (is_table _ _ (G.names d) (G.bytes d) (G.map d) (state_is (G.bytes d) (G.map d) formed)) none away
