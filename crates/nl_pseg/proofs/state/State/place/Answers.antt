use Rattle.nl_pseg.proofs.Small.{room_left}
use Rattle.nl_pseg.proofs.Apart.{wrote_done_failed}
use Rattle.nl_pseg.proofs.Medium.{fits_then, opening_pages}
use Rattle.std.proofs.Common.{inl, subst, ◌∙◌, sym}
use Rattle.nl_pseg.specs.Seen.{seen}
use Rattle.nl_pseg.specs.Steps.{OpensForProgram, OpeningOn}
use Rattle.nl_pseg.proofs.Counts.{counted_failed, counted_then}
use Rattle.nl_pseg.proofs.Placings.{failed_on, if_placed, opening_failed, placing_then, writes_then}
use Rattle.nl_pseg.specs.Kept.{kept}
use Rattle.nl_pseg.proofs.state.State.place.Goals as goal

pub returns-in-Failed-clause-placing : goal.returns-in-Failed-clause-placing
returns-in-Failed-clause-placing g c =
    opening_failed c.args.stamp _ (subst (λ a. OpensForProgram a (seen (kept c.args.self.now)) (seen (kept c.start.new.self))) c.in-Failed.is c.start.ensures.opening)

pub returns-in-Failed-clause-medium : goal.returns-in-Failed-clause-medium
returns-in-Failed-clause-medium g c t =
    failed_on c.args.tag c.args.stamp c.args.from.now.main
    (subst (λ a. OpeningOn g.M.Nand.clock g.M.Nand.contents g.M.Nand.left a (seen (kept c.args.self.now)) (seen (kept c.start.new.self)) c.args.media.now c.start.new.media) c.in-Failed.is (c.start.ensures.medium t))

pub returns-in-Done-clause-placing : goal.returns-in-Done-clause-placing
returns-in-Done-clause-placing g c =
    placing_then c.args.stamp (record { tag = c.args.tag; stamp = c.args.stamp }) c.requires.formed.some
    (subst (λ a. OpensForProgram a (seen (kept c.args.self.now)) (seen (kept c.start.new.self))) c.in-Done.is c.start.ensures.opening) c.put.ensures.placing

pub returns-in-Done-clause-medium : goal.returns-in-Done-clause-medium
returns-in-Done-clause-medium g c t =
    let opening = subst (λ a. OpensForProgram a (seen (kept c.args.self.now)) (seen (kept c.start.new.self))) c.in-Done.is c.start.ensures.opening in
    let on = subst (λ a. OpeningOn g.M.Nand.clock g.M.Nand.contents g.M.Nand.left a (seen (kept c.args.self.now)) (seen (kept c.start.new.self)) c.args.media.now c.start.new.media) c.in-Done.is (c.start.ensures.medium t) in
    writes_then opening on c.args.tag c.args.stamp c.args.from.now.main c.put.result (if_placed c.put.result (λ at x. x.0) c.put.ensures.placing.placed) c.put.ensures.next c.put.ensures.counts.placed (c.put.ensures.medium t)

pub returns-in-Failed-clause-counts : goal.returns-in-Failed-clause-counts
returns-in-Failed-clause-counts g c = counted_failed c.start.ensures.clock (λ r. (c.start.ensures.ready r).1) c.start.ensures.read_faults c.start.ensures.write_faults c.in-Failed.is

pub returns-in-Done-clause-counts : goal.returns-in-Done-clause-counts
returns-in-Done-clause-counts g c =
    let left = c.start.ensures.left c.in-Done.is in
    counted_then c.put.result c.start.ensures.clock (λ r. (c.start.ensures.ready r).1) c.start.ensures.read_faults c.start.ensures.write_faults (λ f. wrote_done_failed (sym c.in-Done.is ∙ f))
    (inl (room_left left)) c.put.ensures.counts

pub start-requires-clause-formed : goal.start-requires-clause-formed
start-requires-clause-formed g c = c.requires.formed

pub start-requires-clause-tied : goal.start-requires-clause-tied
start-requires-clause-tied g c = c.requires.tied

pub start-requires-clause-fits : goal.start-requires-clause-fits
start-requires-clause-fits g c = c.requires.fits

pub start-requires-clause-room : goal.start-requires-clause-room
start-requires-clause-room g c = c.requires.room

pub start-requires-clause-segment : goal.start-requires-clause-segment
start-requires-clause-segment g c t = c.requires.segment t

pub put-requires-clause-formed : goal.put-requires-clause-formed
put-requires-clause-formed g c = c.start.ensures.formed

pub put-requires-clause-tied : goal.put-requires-clause-tied
put-requires-clause-tied g c = c.start.ensures.tied

pub put-requires-clause-fits : goal.put-requires-clause-fits
put-requires-clause-fits g c = fits_then c.start.ensures.geometry (opening_pages (subst (λ a. OpensForProgram a (seen (kept c.args.self.now)) (seen (kept c.start.new.self))) c.in-Done.is c.start.ensures.opening)) c.requires.fits

pub put-requires-clause-stamp : goal.put-requires-clause-stamp
put-requires-clause-stamp g c = c.requires.stamp

pub put-requires-clause-room : goal.put-requires-clause-room
put-requires-clause-room g c = c.start.ensures.left c.in-Done.is

pub put-requires-clause-segment : goal.put-requires-clause-segment
put-requires-clause-segment g c t = (c.start.ensures.medium t).segment

pub returns-in-Failed-clause-formed : goal.returns-in-Failed-clause-formed
returns-in-Failed-clause-formed g c = c.start.ensures.formed

pub returns-in-Failed-clause-tied : goal.returns-in-Failed-clause-tied
returns-in-Failed-clause-tied g c = c.start.ensures.tied

pub returns-in-Failed-clause-tried : goal.returns-in-Failed-clause-tried
returns-in-Failed-clause-tried g c = tt

pub returns-in-Failed-clause-geometry : goal.returns-in-Failed-clause-geometry
returns-in-Failed-clause-geometry g c = c.start.ensures.geometry

pub returns-in-Done-clause-formed : goal.returns-in-Done-clause-formed
returns-in-Done-clause-formed g c = c.put.ensures.formed

pub returns-in-Done-clause-tied : goal.returns-in-Done-clause-tied
returns-in-Done-clause-tied g c = c.put.ensures.tied

pub returns-in-Done-clause-tried : goal.returns-in-Done-clause-tried
returns-in-Done-clause-tried g c = c.put.ensures.tried

pub returns-in-Done-clause-geometry : goal.returns-in-Done-clause-geometry
returns-in-Done-clause-geometry g c = c.put.ensures.geometry ∙ c.start.ensures.geometry
