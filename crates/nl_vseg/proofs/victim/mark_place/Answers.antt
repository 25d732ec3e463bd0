use Rattle.std.proofs.Common.{◌*◌, ◌<◌, Some, IfSome, length, sym, subst}
use Rattle.nl_vseg.specs.Copying.{MarksPlace}
use Rattle.nl_vseg.proofs.Marks.{one_marked}
use Rattle.nl_vseg.proofs.victim.mark_place.Goals as goal

pub returns : goal.returns
returns c =
    let old = c.args.blocks.now in
    let place = c.in-Some.place in
    let below : place.page < length old.blocks * old.size = subst (λ x. IfSome x (λ p. p.page < length old.blocks * old.size)) c.in-Some.is c.requires.below in
    subst (λ x. MarksPlace x old c.mark_live.new.self) (sym c.in-Some.is)
    (subst (MarksPlace (Some place) old) (sym c.mark_live.ensures) (one_marked old place c.requires.first c.requires.some below c.requires.rows))
