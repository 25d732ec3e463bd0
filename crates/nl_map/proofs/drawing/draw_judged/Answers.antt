use Rattle.std.proofs.Common.{ap, subst}
use Rattle.std.specs.Prelude.{is_none}
use Rattle.nl_map.specs.Drawing.{Judges}
use Rattle.nl_map.proofs.Headings.{damaged_heading, opened_heading}
use Rattle.nl_map.proofs.drawing.draw_judged.Goals as goal

pub returns-in-Opened-clause-map : goal.returns-in-Opened-clause-map
returns-in-Opened-clause-map g c = λ tells judges listed.
    let image = g.M.Nand.contents c.args.media in
    let j = subst (Judges image) c.in-Opened.is judges in
    let h = c.heading_of-heading in
    c.look_over.ensures.map tells (ap is_none j.0, j.1) (opened_heading image c.args.scan.now.seen listed c.in-Opened.count h.result h.ensures.blank h.ensures.seen j.0 j.2)

pub returns-in-Damaged-clause-map : goal.returns-in-Damaged-clause-map
returns-in-Damaged-clause-map g c = λ tells judges listed.
    let image = g.M.Nand.contents c.args.media in
    let j = subst (Judges image) c.in-Damaged.is judges in
    let h = c.heading_of-heading-in-Damaged in
    c.look_over-in-Damaged.ensures.map tells (ap is_none j) (damaged_heading image c.args.scan.now.seen listed c.in-Damaged.place h.result h.ensures.blank h.ensures.seen j)
