use Rattle.std.proofs.Common.{◌∙◌, sym}
use Rattle.nl_device.specs.contracts.counts.DeviceCounts.TheImpl.{ghosts}
use Rattle.nl_calls.proofs.Counted.{goes_counted}
use Rattle.nl_volume_stage.proofs.Alike.{line_alike}
use Rattle.nl_volume_stage.proofs.Serving.{duty_stands, goals_within, never_fall, no_more, staged_same, stays_read_only}
use Rattle.nl_volume.proofs.volume.Volume.duty.Goals as goal

pub returns-clause-stands : goal.returns-clause-stands
returns-clause-stands g c v o h s =
    let G = ghosts g.row.M g.M.Nand g.M.Nand-dict in
    let e = c.duty-answer.ensures in (
      duty_stands G v.core o h c.args.self.now.core c.duty-answer.new.self c.args.self.now.done s.0 512 e.core e.goes e.lines c.counts.ensures c.duty-answer.result,
      s.1 ∙ sym (goes_counted G 512 c.args.self.now.core c.duty-answer.new.self e.goes c.pages_stay_as_many.ensures),
    )

pub returns-clause-counts : goal.returns-clause-counts
returns-clause-counts g c =
    let G = ghosts g.row.M g.M.Nand g.M.Nand-dict in
    never_fall G 512 c.args.self.now.core c.duty-answer.new.self c.requires.3.0.serves.core c.duty-answer.ensures.goes

pub returns-clause-less : goal.returns-clause-less
returns-clause-less g c =
    let G = ghosts g.row.M g.M.Nand g.M.Nand-dict in
    let r = c.requires in
    let u = c.args.self.now.core in
    no_more G 512 u c.duty-answer.new.self c.duty-answer.ensures.goes (goals_within G r.0.core r.1 r.2 u c.args.self.now.done r.3.0) c.duty-answer.ensures.lines

pub returns-clause-read_only : goal.returns-clause-read_only
returns-clause-read_only g c =
    let G = ghosts g.row.M g.M.Nand g.M.Nand-dict in
    stays_read_only G 512 c.args.self.now.core c.duty-answer.new.self c.requires.3.0.serves.core c.duty-answer.ensures.goes

pub returns-clause-staged : goal.returns-clause-staged
returns-clause-staged g c w l =
    let u = c.args.self.now.core in
    let v = c.duty-answer.new.self in
    staged_same u.flight v.flight w l (line_alike u.flight v.flight w c.duty-answer.ensures.lines)

pub returns-clause-lost : goal.returns-clause-lost
returns-clause-lost g c w f is = let k = c.duty-answer.ensures.does.lost w f is in (k.1, λ same. k.0 (sym same))
