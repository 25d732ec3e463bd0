use Rattle.nl_pseg.proofs.Small.{some_none}
use Rattle.nl_pseg.proofs.Apart.{not_live_fault, no_page_fault, fault_not_live, fault_no_page, placed_not_live, placed_no_page, no_page_not_live}
use Rattle.nl_pseg.proofs.Counts.{none_left, nothing_counted}
use Rattle.std.proofs.lemmas.Bool.{true≢false}
use Rattle.nl_pseg.specs.Segment.{held_at}
use Rattle.std.proofs.lemmas.List.{get_or-set_other}
use Rattle.std.proofs.Common.{⊎_elim, refl, Some, set, subst, List, None, Option, ap, get_or, is_some, sym, ◌∙◌, ◌≡◌}
use Rattle.nl_field.specs.declared.answers.Named.TheVariants.{NoPage, NotLive}
use Rattle.nl_field.specs.declared.pointer.Pointer.{Pointer}
use Rattle.nl_pseg.specs.Seen.{seen}
use Rattle.nl_pseg.specs.Steps.{EndsPage, Placing}
use Rattle.nl_pseg.specs.declared.held.Held.{Held}
use Rattle.nl_pseg.proofs.Ended.{ended_was, gone_segment}
use Rattle.nl_pseg.proofs.Placings.{nothing_on, nothing_placed}
use Rattle.nl_pseg.proofs.Segments.{range_of, within_same}
use Rattle.nl_pseg.proofs.States.{within_length}
use Rattle.nl_pseg.specs.Kept.{kept}
use Rattle.nl_pseg.proofs.state.State.overwrite.Goals as goal

pub end_all-requires-clause-within : goal.end_all-requires-clause-within
end_all-requires-clause-within g c = within_same c.in-Some.place (range_of c.place.ensures.placing.pages) c.in-Some.ensures.within

-- a page that was placed is not the one that was live
pub end_all-requires-clause-live : goal.end_all-requires-clause-live
end_all-requires-clause-live g c =
    let s = kept c.args.self.now in
    let h : Held = record { tag = c.args.tag; stamp = c.args.stamp } in
    let placing = subst (λ a. Placing c.args.stamp (λ (p : Pointer). set s.held.items p.name (Some h)) a (seen s) (seen (kept c.place.new.self))) c.in-Placed.is c.place.ensures.placing in
    let live = c.in-Some.ensures.held in
    let apart : c.in-Some.place ≡ c.in-Placed.at.name → ⊥ = (λ e. true≢false (sym live ∙ (ap (λ n. is_some (held_at (seen s) n)) e ∙ ap is_some placing.placed.0.dead))) in
    ap (λ (l : List (Option Held)). is_some (get_or l c.in-Some.place None)) placing.held ∙ (ap is_some (get_or-set_other s.held.items c.in-Placed.at.name c.in-Some.place (Some h) None apart) ∙ live)

pub returns-in-Placed-clause-over : goal.returns-in-Placed-clause-over
returns-in-Placed-clause-over g c =
    let h : Held = record { tag = c.args.tag; stamp = c.args.stamp } in
    let s = kept c.args.self.now in
    record {
      mid = seen (kept c.place.new.self);
      placing = subst (λ a. Placing c.args.stamp (λ (p : Pointer). set s.held.items p.name (Some h)) a (seen s) (seen (kept c.place.new.self))) c.in-Placed.is c.place.ensures.placing;
      ended = λ placed. subst (λ p. EndsPage p (seen (kept c.place.new.self)) (seen (kept c.end_all.new.self))) c.in-Some.ensures.some c.end_all.ensures.ended;
      none = λ not. absurd (not tt);
    }

pub returns-in-Placed-clause-refused : goal.returns-in-Placed-clause-refused
returns-in-Placed-clause-refused g c x = absurd (⊎_elim placed_not_live placed_no_page x)

pub returns-in-Fault-clause-over : goal.returns-in-Fault-clause-over
returns-in-Fault-clause-over g c =
    let h : Held = record { tag = c.args.tag; stamp = c.args.stamp } in
    let s = kept c.args.self.now in
    record {
      mid = seen (kept c.place.new.self);
      placing = subst (λ a. Placing c.args.stamp (λ (p : Pointer). set s.held.items p.name (Some h)) a (seen s) (seen (kept c.place.new.self))) c.in-Fault.is c.place.ensures.placing;
      ended = λ placed. absurd placed;
      none = λ not. refl;
    }

pub returns-in-Fault-clause-refused : goal.returns-in-Fault-clause-refused
returns-in-Fault-clause-refused g c x = absurd (⊎_elim fault_not_live fault_no_page x)

pub returns-in_default-clause-over : goal.returns-in_default-clause-over
returns-in_default-clause-over g c = record { mid = seen (kept c.args.self.now); placing = nothing_placed NotLive _ _ (seen (kept c.args.self.now)) (λ x. x) not_live_fault; ended = λ placed. absurd placed; none = λ not. refl }

pub returns-then-not-has_room-clause-over : goal.returns-then-not-has_room-clause-over
returns-then-not-has_room-clause-over g c = record { mid = seen (kept c.args.self.now); placing = nothing_placed NoPage _ _ (seen (kept c.args.self.now)) (λ x. x) no_page_fault; ended = λ placed. absurd placed; none = λ not. refl }

pub place_of-requires : goal.place_of-requires
place_of-requires g c = c.requires.formed

pub place-requires-clause-formed : goal.place-requires-clause-formed
place-requires-clause-formed g c = c.requires.formed

pub place-requires-clause-tied : goal.place-requires-clause-tied
place-requires-clause-tied g c = c.requires.tied

pub place-requires-clause-fits : goal.place-requires-clause-fits
place-requires-clause-fits g c = c.requires.fits

pub place-requires-clause-stamp : goal.place-requires-clause-stamp
place-requires-clause-stamp g c = c.requires.stamp

pub place-requires-clause-room : goal.place-requires-clause-room
place-requires-clause-room g c = c.has_room.ensures.0 c.if-not-has_room.false

pub place-requires-clause-segment : goal.place-requires-clause-segment
place-requires-clause-segment g c t = c.requires.segment t

pub end_all-requires-clause-formed : goal.end_all-requires-clause-formed
end_all-requires-clause-formed g c = c.place.ensures.formed

pub end_all-requires-clause-tied : goal.end_all-requires-clause-tied
end_all-requires-clause-tied g c = c.place.ensures.tied

pub returns-in_default-clause-formed : goal.returns-in_default-clause-formed
returns-in_default-clause-formed g c = c.requires.formed

pub returns-in_default-clause-tied : goal.returns-in_default-clause-tied
returns-in_default-clause-tied g c = c.requires.tied

pub returns-in_default-clause-refused : goal.returns-in_default-clause-refused
returns-in_default-clause-refused g c x = (refl, refl)

pub returns-in_default-clause-geometry : goal.returns-in_default-clause-geometry
returns-in_default-clause-geometry g c = refl

pub returns-in_default-clause-counts : goal.returns-in_default-clause-counts
returns-in_default-clause-counts g c = nothing_counted c.args.media.now NotLive (λ placed. placed) not_live_fault

pub returns-then-not-has_room-clause-formed : goal.returns-then-not-has_room-clause-formed
returns-then-not-has_room-clause-formed g c = c.requires.formed

pub returns-then-not-has_room-clause-tied : goal.returns-then-not-has_room-clause-tied
returns-then-not-has_room-clause-tied g c = c.requires.tied

pub returns-then-not-has_room-clause-live : goal.returns-then-not-has_room-clause-live
returns-then-not-has_room-clause-live g c = (λ e. absurd (no_page_not_live e), λ not. absurd (not (c.in-Some.ensures.live.0 refl)))

pub returns-then-not-has_room-clause-full : goal.returns-then-not-has_room-clause-full
returns-then-not-has_room-clause-full g c = (λ e. (c.in-Some.ensures.live.0 refl, none_left c.has_room.ensures c.if-not-has_room.true), λ both. refl)

pub returns-then-not-has_room-clause-refused : goal.returns-then-not-has_room-clause-refused
returns-then-not-has_room-clause-refused g c x = (refl, refl)

pub returns-then-not-has_room-clause-geometry : goal.returns-then-not-has_room-clause-geometry
returns-then-not-has_room-clause-geometry g c = refl

pub returns-then-not-has_room-clause-counts : goal.returns-then-not-has_room-clause-counts
returns-then-not-has_room-clause-counts g c = nothing_counted c.args.media.now NoPage (λ placed. placed) no_page_fault

pub returns-in-Placed-clause-formed : goal.returns-in-Placed-clause-formed
returns-in-Placed-clause-formed g c = c.end_all.ensures.formed

pub returns-in-Placed-clause-tied : goal.returns-in-Placed-clause-tied
returns-in-Placed-clause-tied g c = c.end_all.ensures.tied

pub returns-in-Placed-clause-live : goal.returns-in-Placed-clause-live
returns-in-Placed-clause-live g c = (λ e. absurd (placed_not_live e), λ not. absurd (not (c.in-Some.ensures.live.0 refl)))

pub returns-in-Placed-clause-full : goal.returns-in-Placed-clause-full
returns-in-Placed-clause-full g c = (λ e. absurd (placed_no_page e), λ both. absurd (some_none (c.has_room.ensures.0 c.if-not-has_room.false) both.1))

pub returns-in-Placed-clause-geometry : goal.returns-in-Placed-clause-geometry
returns-in-Placed-clause-geometry g c = c.place.ensures.geometry

pub returns-in-Placed-clause-counts : goal.returns-in-Placed-clause-counts
returns-in-Placed-clause-counts g c = c.in-Placed.ensures.counts

pub returns-in-Fault-clause-formed : goal.returns-in-Fault-clause-formed
returns-in-Fault-clause-formed g c = c.place.ensures.formed

pub returns-in-Fault-clause-tied : goal.returns-in-Fault-clause-tied
returns-in-Fault-clause-tied g c = c.place.ensures.tied

pub returns-in-Fault-clause-live : goal.returns-in-Fault-clause-live
returns-in-Fault-clause-live g c = (λ e. absurd (fault_not_live e), λ not. absurd (not (c.in-Some.ensures.live.0 refl)))

pub returns-in-Fault-clause-full : goal.returns-in-Fault-clause-full
returns-in-Fault-clause-full g c = (λ e. absurd (fault_no_page e), λ both. absurd (some_none (c.has_room.ensures.0 c.if-not-has_room.false) both.1))

pub returns-in-Fault-clause-geometry : goal.returns-in-Fault-clause-geometry
returns-in-Fault-clause-geometry g c = c.place.ensures.geometry

pub returns-in-Fault-clause-counts : goal.returns-in-Fault-clause-counts
returns-in-Fault-clause-counts g c = c.in-Fault.ensures.counts

pub returns-in_default-clause-medium : goal.returns-in_default-clause-medium
returns-in_default-clause-medium g c t =
    nothing_on c.args.media.now c.args.tag c.args.stamp c.args.from.now.main NotLive (λ x. x) (c.requires.segment t)

pub returns-then-not-has_room-clause-medium : goal.returns-then-not-has_room-clause-medium
returns-then-not-has_room-clause-medium g c t =
    nothing_on c.args.media.now c.args.tag c.args.stamp c.args.from.now.main NoPage (λ x. x) (c.requires.segment t)

pub returns-in-Placed-clause-medium : goal.returns-in-Placed-clause-medium
returns-in-Placed-clause-medium g c t =
    let mid = kept c.place.new.self in
    let e = c.end_all.ensures.ended in
    let m = c.in-Placed.ensures.medium t in
    record {
      segment = gone_segment e.gone (ended_was e (within_length mid c.place.ensures.formed c.in-Some.place e.within)) (g.M.Nand.contents c.place.new.media) m.segment;
      programmed = m.programmed;
      crash = m.crash;
    }

pub returns-in-Fault-clause-medium : goal.returns-in-Fault-clause-medium
returns-in-Fault-clause-medium g c t =
    c.in-Fault.ensures.medium t
