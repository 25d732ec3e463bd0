use Rattle.std.proofs.Common.{◌∙◌, sym}
use Rattle.nl_device.specs.contracts.counts.DeviceCounts.TheImpl.{ghosts}
use Rattle.nl_core.proofs.Renamed.{as_many}
use Rattle.nl_calls.proofs.Counted.{goes_counted}
use Rattle.nl_volume_stage.proofs.Serving.{goals_within, worker_known}
use Rattle.nl_volume_stage.proofs.Staged.{staged_counts, staged_failed, staged_faults, staged_less, staged_read_only, staged_stands}
use Rattle.nl_volume.proofs.volume.Volume.stage.Goals as goal

pub stage_line-requires-clause-stands : goal.stage_line-requires-clause-stands
stage_line-requires-clause-stands g c = let r = c.requires in (r.0.core, r.1, r.2, c.args.self.now.done, r.3.0, r.4)

pub stage_line-requires-clause-known : goal.stage_line-requires-clause-known
stage_line-requires-clause-known g c =
    let G = ghosts g.row.M g.M.Nand g.M.Nand-dict in
    let r = c.requires in
    worker_known G r.0.core r.1 r.2 c.args.self.now.core c.args.self.now.done c.args.worker c.args.line c.args.call.now r.3.0.serves r.4

pub returns-clause-stands : goal.returns-clause-stands
returns-clause-stands g c v o h s of =
    let G = ghosts g.row.M g.M.Nand g.M.Nand-dict in
    let r = c.requires in
    let u = c.args.self.now.core in
    let w = c.stage_line.new.core in
    let x = c.stage_line.ensures.stages in
    (staged_stands G c.args.worker c.args.line c.args.call.now u w c.stage_line.result r.3.0.serves.core x v.core o h c.args.self.now.done s.0 of, s.1 ∙ sym (goes_counted G x.most u w x.goes as_many))

pub returns-clause-counts : goal.returns-clause-counts
returns-clause-counts g c =
    let G = ghosts g.row.M g.M.Nand g.M.Nand-dict in
    let r = c.requires in
    let u = c.args.self.now.core in
    let w = c.stage_line.new.core in
    let x = c.stage_line.ensures.stages in
    staged_counts G c.args.worker c.args.line c.args.call.now u w c.stage_line.result r.3.0.serves.core x

pub returns-clause-less : goal.returns-clause-less
returns-clause-less g c =
    let G = ghosts g.row.M g.M.Nand g.M.Nand-dict in
    let r = c.requires in
    let u = c.args.self.now.core in
    let w = c.stage_line.new.core in
    let x = c.stage_line.ensures.stages in
    staged_less G c.args.worker c.args.line c.args.call.now u w c.stage_line.result r.3.0.serves.core x (goals_within G r.0.core r.1 r.2 u c.args.self.now.done r.3.0)

pub returns-clause-read_only : goal.returns-clause-read_only
returns-clause-read_only g c =
    let G = ghosts g.row.M g.M.Nand g.M.Nand-dict in
    let r = c.requires in
    let u = c.args.self.now.core in
    let w = c.stage_line.new.core in
    let x = c.stage_line.ensures.stages in
    staged_read_only G c.args.worker c.args.line c.args.call.now u w c.stage_line.result r.3.0.serves.core x

pub returns-clause-staged : goal.returns-clause-staged
returns-clause-staged g c =
    let G = ghosts g.row.M g.M.Nand g.M.Nand-dict in
    let r = c.requires in
    let u = c.args.self.now.core in
    let w = c.stage_line.new.core in
    let x = c.stage_line.ensures.stages in
    staged_faults G c.args.worker c.args.line c.args.call.now u w c.stage_line.result r.3.0.serves.core x

pub returns-clause-fault : goal.returns-clause-fault
returns-clause-fault g c =
    let G = ghosts g.row.M g.M.Nand g.M.Nand-dict in
    let r = c.requires in
    let u = c.args.self.now.core in
    let w = c.stage_line.new.core in
    let x = c.stage_line.ensures.stages in
    staged_failed G c.args.worker c.args.line c.args.call.now u w c.stage_line.result r.3.0.serves.core x

pub returns-clause-others : goal.returns-clause-others
returns-clause-others g c = c.stage_line.ensures.stages.others

pub returns-clause-kept : goal.returns-clause-kept
returns-clause-kept g c = c.stage_line.ensures.kept

pub returns-clause-commit : goal.returns-clause-commit
returns-clause-commit g c = c.stage_line.ensures.commit
