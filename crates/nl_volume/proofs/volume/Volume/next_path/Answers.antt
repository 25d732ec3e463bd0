use Rattle.std.proofs.Common.{◌∙◌, sym}
use Rattle.nl_device.specs.contracts.counts.DeviceCounts.TheImpl.{ghosts}
use Rattle.nl_calls.proofs.Counted.{goes_counted}
use Rattle.nl_core.proofs.Renamed.{as_many}
use Rattle.nl_volume_stage.proofs.Serving.{goals_within}
use Rattle.nl_volume_stage.proofs.Stages.{passes_reads}
use Rattle.nl_volume.proofs.volume.Volume.next_path.Goals as goal

pub next_path-item-requires : goal.next_path-item-requires
next_path-item-requires g c = let s = c.requires.stands.3.0.serves in record { core = s.core; way = c.requires.way }

pub returns-clause-stands : goal.returns-clause-stands
returns-clause-stands g c v o h s =
    let G = ghosts g.row.M g.M.Nand g.M.Nand-dict in
    let e = c.next_path-item.ensures in
    let u = c.args.self.now.core in
    let w = c.next_path-item.new.core in
    let p = passes_reads G 0 0 u w s.0.serves.core c.device_stands.ensures.volume e.core.formed c.device_stands-2.ensures.pages c.counts.ensures e.same (goals_within G v.core o h u c.args.self.now.done s.0) in
    (p.on v.core o h c.args.self.now.done s.0, s.1 ∙ sym (goes_counted G p.most u w p.goes as_many))
