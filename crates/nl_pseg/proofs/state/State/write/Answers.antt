use Rattle.nl_pseg.proofs.Small.{some_none}
use Rattle.nl_pseg.proofs.Apart.{no_page_fault, no_page_not_live}
use Rattle.nl_pseg.proofs.Placings.{nothing_on, nothing_placed}
use Rattle.nl_pseg.proofs.Counts.{none_left, nothing_counted}
use Rattle.nl_pseg.specs.Seen.{seen}
use Rattle.nl_pseg.specs.Kept.{kept}
use Rattle.nl_pseg.specs.Answers.{ReachedMedium}
use Rattle.nl_field.specs.declared.answers.Named.TheVariants.{NoPage}
use Rattle.std.proofs.Common.{refl, subst}
use Rattle.nl_pseg.proofs.state.State.write.Goals as goal

pub place-requires-clause-formed : goal.place-requires-clause-formed
place-requires-clause-formed g c = c.requires.formed

pub place-requires-clause-tied : goal.place-requires-clause-tied
place-requires-clause-tied g c = c.requires.tied

pub place-requires-clause-fits : goal.place-requires-clause-fits
place-requires-clause-fits g c = c.requires.fits

pub place-requires-clause-stamp : goal.place-requires-clause-stamp
place-requires-clause-stamp g c = c.requires.stamp

pub place-requires-clause-room : goal.place-requires-clause-room
place-requires-clause-room g c = c.has_room.ensures.0 c.if-not-has_room.false

pub place-requires-clause-segment : goal.place-requires-clause-segment
place-requires-clause-segment g c t = c.requires.segment t

pub returns-then-not-has_room-clause-formed : goal.returns-then-not-has_room-clause-formed
returns-then-not-has_room-clause-formed g c = c.requires.formed

pub returns-then-not-has_room-clause-tied : goal.returns-then-not-has_room-clause-tied
returns-then-not-has_room-clause-tied g c = c.requires.tied

pub returns-then-not-has_room-clause-live : goal.returns-then-not-has_room-clause-live
returns-then-not-has_room-clause-live g c e = no_page_not_live e

pub returns-then-not-has_room-clause-full : goal.returns-then-not-has_room-clause-full
returns-then-not-has_room-clause-full g c = (λ e. none_left c.has_room.ensures c.if-not-has_room.true, λ none. refl)

pub returns-then-not-has_room-clause-refused : goal.returns-then-not-has_room-clause-refused
returns-then-not-has_room-clause-refused g c e = (refl, refl)

pub returns-then-not-has_room-clause-placing : goal.returns-then-not-has_room-clause-placing
returns-then-not-has_room-clause-placing g c = nothing_placed NoPage _ _ (seen (kept c.args.self.now)) (λ x. x) no_page_fault

pub returns-then-not-has_room-clause-geometry : goal.returns-then-not-has_room-clause-geometry
returns-then-not-has_room-clause-geometry g c = refl

pub returns-then-not-has_room-clause-counts : goal.returns-then-not-has_room-clause-counts
returns-then-not-has_room-clause-counts g c = nothing_counted c.args.media.now NoPage (λ placed. placed) no_page_fault

pub returns-clause-formed : goal.returns-clause-formed
returns-clause-formed g c = c.place.ensures.formed

pub returns-clause-tied : goal.returns-clause-tied
returns-clause-tied g c = c.place.ensures.tied

pub returns-clause-live : goal.returns-clause-live
returns-clause-live g c e = subst ReachedMedium e c.place.ensures.tried

pub returns-clause-full : goal.returns-clause-full
returns-clause-full g c = (λ e. absurd (subst ReachedMedium e c.place.ensures.tried), λ none. absurd (some_none (c.has_room.ensures.0 c.if-not-has_room.false) none))

pub returns-clause-refused : goal.returns-clause-refused
returns-clause-refused g c e = absurd (subst ReachedMedium e c.place.ensures.tried)

pub returns-clause-placing : goal.returns-clause-placing
returns-clause-placing g c = c.place.ensures.placing

pub returns-clause-geometry : goal.returns-clause-geometry
returns-clause-geometry g c = c.place.ensures.geometry

pub returns-clause-counts : goal.returns-clause-counts
returns-clause-counts g c = c.place.ensures.counts

pub returns-then-not-has_room-clause-medium : goal.returns-then-not-has_room-clause-medium
returns-then-not-has_room-clause-medium g c t =
    nothing_on c.args.media.now c.args.tag c.args.stamp c.args.from.now.main NoPage (λ x. x) (c.requires.segment t)

pub returns-clause-medium : goal.returns-clause-medium
returns-clause-medium g c t =
    c.place.ensures.medium t
