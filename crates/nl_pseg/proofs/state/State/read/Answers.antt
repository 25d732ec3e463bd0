use Rattle.nl_pseg.proofs.Apart.{read_done_fault, read_fault_done, read_not_live_done, read_not_live_fault, read_lost_done, read_lost_fault}
use Rattle.nl_pseg.proofs.Medium.{done_unfailed, failed_fault, none_failed, same_left, within_medium}
use Rattle.nl_field.specs.Page.{page_at}
use Rattle.nl_field.specs.declared.answers.NamedRead.{NamedRead}
use Rattle.nl_field.specs.declared.answers.NamedRead.TheVariants as read
use Rattle.nl_pseg_pages.specs.Pages.{TellsFound, stamp_at, stamp_found}
use Rattle.std.proofs.Common.{◌≡◌, ⊎_elim, Some, None, get_or, refl, sym, ◌∙◌, ap, subst, IsTrue, inl, inr}
use Rattle.std.proofs.lemmas.Bool.{true≢false}
use Rattle.nl_field.specs.Spelling.{is_stamp}
use Rattle.nl_pseg.specs.Segment.{held_at}
use Rattle.nl_pseg.specs.Seen.{seen}
use Rattle.nl_pseg.specs.declared.held.Held.{Held}
use Rattle.nl_pseg.proofs.Segments.{live_stamp}
use Rattle.nl_remap.specs.Table.{led}
use Rattle.nl_pseg.specs.Kept.{kept}
use Rattle.nl_pseg.proofs.state.State.read.Goals as goal

pub read_page-requires-clause-spelled : goal.read_page-requires-clause-spelled
read_page-requires-clause-spelled g c =
    let e : held_at (seen (kept c.args.self.now)) (led (kept c.args.self.now).names.pairs c.args.at.name) ≡ Some c.in-Some-live_on.held = ap (λ n. get_or (kept c.args.self.now).held.items n None) (sym c.in-Some.ensures.some) ∙ (sym c.live_on.ensures ∙ c.in-Some-live_on.is) in
    subst (λ n. IsTrue (is_stamp n)) (live_stamp c.in-Some-live_on.held c.args.at.stamp e (c.in-Some.ensures.live.0 refl)) (c.requires.formed.places.each (led (kept c.args.self.now).names.pairs c.args.at.name) c.in-Some-live_on.held e).spelled

pub returns-else-eq-clause-answer : goal.returns-else-eq-clause-answer
returns-else-eq-clause-answer g c =
    let e : held_at (seen (kept c.args.self.now)) (led (kept c.args.self.now).names.pairs c.args.at.name) ≡ Some c.in-Some-live_on.held = ap (λ n. get_or (kept c.args.self.now).held.items n None) (sym c.in-Some.ensures.some) ∙ (sym c.live_on.ensures ∙ c.in-Some-live_on.is) in
    let stamp = live_stamp c.in-Some-live_on.held c.args.at.stamp e (c.in-Some.ensures.live.0 refl) in
    let spelled = subst (λ n. IsTrue (is_stamp n)) stamp (c.requires.formed.places.each (led (kept c.args.self.now).names.pairs c.args.at.name) c.in-Some-live_on.held e).spelled in
    ((c.in-Some-live_on.held, e, stamp), refl, λ zero_is. true≢false (sym (subst (λ n. IsTrue (is_stamp n)) (sym zero_is) spelled)))

pub read_page-requires-clause-within : goal.read_page-requires-clause-within
read_page-requires-clause-within g c = within_medium c.requires.fits c.in-Some.place c.in-Some.ensures.within.1

pub returns-in-Lost-clause-answer : goal.returns-in-Lost-clause-answer
returns-in-Lost-clause-answer g c =
    let e : held_at (seen (kept c.args.self.now)) (led (kept c.args.self.now).names.pairs c.args.at.name) ≡ Some c.in-Some-live_on.held = ap (λ n. get_or (kept c.args.self.now).held.items n None) (sym c.in-Some.ensures.some) ∙ (sym c.live_on.ensures ∙ c.in-Some-live_on.is) in
    let stamp = live_stamp c.in-Some-live_on.held c.args.at.stamp e (c.in-Some.ensures.live.0 refl) in
    let lost = c.read_page.ensures.lost c.in-Lost.wanted c.in-Lost.found c.in-Lost.is in
    ((c.in-Some-live_on.held, e, stamp), lost.0, (λ same. lost.1 (same ∙ lost.0)))

pub returns-in-Lost-clause-kept : goal.returns-in-Lost-clause-kept
returns-in-Lost-clause-kept g c t named =
    let h : Held = record { tag = c.args.tag; stamp = c.args.at.stamp } in
    let here : held_at (seen (kept c.args.self.now)) c.in-Some.place ≡ Some h = ap (λ n. get_or (kept c.args.self.now).held.items n None) c.in-Some.ensures.some ∙ named in
    let shows = (c.requires.segment t).holds c.in-Some.place h here in
    absurd (⊎_elim (λ done. read_lost_done (sym c.in-Lost.is ∙ done)) (λ fault. read_lost_fault (sym c.in-Lost.is ∙ fault)) (c.read_page.ensures.kept t shows))

pub returns-else-eq-clause-found : goal.returns-else-eq-clause-found
returns-else-eq-clause-found g c = inl refl

pub returns-else-eq-clause-told : goal.returns-else-eq-clause-told
returns-else-eq-clause-told g c t = inl refl

pub returns-in-Lost-clause-found : goal.returns-in-Lost-clause-found
returns-in-Lost-clause-found g c = subst (λ (answer : NamedRead). TellsFound (stamp_found c.read_page.new.buf) answer) c.in-Lost.is c.read_page.ensures.found

pub returns-in-Lost-clause-told : goal.returns-in-Lost-clause-told
returns-in-Lost-clause-told g c t =
    let image = g.M.Nand.contents c.args.media.now in
    let there = subst (λ (answer : NamedRead). TellsFound (stamp_at (page_at image c.in-Some.place)) answer) c.in-Lost.is (c.read_page.ensures.told t) in
    subst (λ n. TellsFound (stamp_at (page_at image n)) (read.Lost c.in-Lost.wanted c.in-Lost.found)) c.in-Some.ensures.some there

pub place_of-requires : goal.place_of-requires
place_of-requires g c = c.requires.formed

pub returns-in_default-clause-value : goal.returns-in_default-clause-value
returns-in_default-clause-value g c t e = absurd (read_not_live_done e)

pub returns-in_default-clause-geometry : goal.returns-in_default-clause-geometry
returns-in_default-clause-geometry g c = refl

pub returns-in_default-clause-contents : goal.returns-in_default-clause-contents
returns-in_default-clause-contents g c = refl

pub returns-in_default-clause-left : goal.returns-in_default-clause-left
returns-in_default-clause-left g c = same_left

pub returns-in_default-clause-clock : goal.returns-in_default-clause-clock
returns-in_default-clause-clock g c = refl

pub returns-in_default-clause-write_faults : goal.returns-in_default-clause-write_faults
returns-in_default-clause-write_faults g c = refl

pub returns-in_default-clause-read_faults : goal.returns-in_default-clause-read_faults
returns-in_default-clause-read_faults g c = none_failed read_not_live_fault

pub returns-in_default-live_on-clause-value : goal.returns-in_default-live_on-clause-value
returns-in_default-live_on-clause-value g c t e = absurd (read_not_live_done e)

pub returns-in_default-live_on-clause-geometry : goal.returns-in_default-live_on-clause-geometry
returns-in_default-live_on-clause-geometry g c = refl

pub returns-in_default-live_on-clause-contents : goal.returns-in_default-live_on-clause-contents
returns-in_default-live_on-clause-contents g c = refl

pub returns-in_default-live_on-clause-left : goal.returns-in_default-live_on-clause-left
returns-in_default-live_on-clause-left g c = same_left

pub returns-in_default-live_on-clause-clock : goal.returns-in_default-live_on-clause-clock
returns-in_default-live_on-clause-clock g c = refl

pub returns-in_default-live_on-clause-write_faults : goal.returns-in_default-live_on-clause-write_faults
returns-in_default-live_on-clause-write_faults g c = refl

pub returns-in_default-live_on-clause-read_faults : goal.returns-in_default-live_on-clause-read_faults
returns-in_default-live_on-clause-read_faults g c = none_failed read_not_live_fault

pub returns-then-eq-clause-geometry : goal.returns-then-eq-clause-geometry
returns-then-eq-clause-geometry g c = c.read_page.ensures.geometry

pub returns-then-eq-clause-contents : goal.returns-then-eq-clause-contents
returns-then-eq-clause-contents g c = c.read_page.ensures.contents

pub returns-then-eq-clause-left : goal.returns-then-eq-clause-left
returns-then-eq-clause-left g c = c.read_page.ensures.left

pub returns-then-eq-clause-clock : goal.returns-then-eq-clause-clock
returns-then-eq-clause-clock g c = c.read_page.ensures.clock

pub returns-then-eq-clause-write_faults : goal.returns-then-eq-clause-write_faults
returns-then-eq-clause-write_faults g c = c.read_page.ensures.write_faults

pub returns-then-eq-clause-value : goal.returns-then-eq-clause-value
returns-then-eq-clause-value g c t e = ap (page_at (g.M.Nand.contents c.args.media.now)) (sym c.in-Some.ensures.some) ∙ c.read_page.ensures.value t c.in-Done.is

pub returns-then-eq-clause-kept : goal.returns-then-eq-clause-kept
returns-then-eq-clause-kept g c t named = inl refl

pub returns-then-eq-clause-read_faults : goal.returns-then-eq-clause-read_faults
returns-then-eq-clause-read_faults g c = done_unfailed c.read_page.ensures.read_faults (λ e. read_done_fault (sym c.in-Done.is ∙ e)) read_done_fault

pub returns-else-eq-clause-geometry : goal.returns-else-eq-clause-geometry
returns-else-eq-clause-geometry g c = c.read_page.ensures.geometry

pub returns-else-eq-clause-contents : goal.returns-else-eq-clause-contents
returns-else-eq-clause-contents g c = c.read_page.ensures.contents

pub returns-else-eq-clause-left : goal.returns-else-eq-clause-left
returns-else-eq-clause-left g c = c.read_page.ensures.left

pub returns-else-eq-clause-clock : goal.returns-else-eq-clause-clock
returns-else-eq-clause-clock g c = c.read_page.ensures.clock

pub returns-else-eq-clause-write_faults : goal.returns-else-eq-clause-write_faults
returns-else-eq-clause-write_faults g c = c.read_page.ensures.write_faults

pub returns-else-eq-clause-value : goal.returns-else-eq-clause-value
returns-else-eq-clause-value g c t e = absurd (read_lost_done e)

pub returns-else-eq-clause-read_faults : goal.returns-else-eq-clause-read_faults
returns-else-eq-clause-read_faults g c = done_unfailed c.read_page.ensures.read_faults (λ e. read_done_fault (sym c.in-Done.is ∙ e)) read_lost_fault

pub returns-in-Lost-clause-geometry : goal.returns-in-Lost-clause-geometry
returns-in-Lost-clause-geometry g c = c.read_page.ensures.geometry

pub returns-in-Lost-clause-contents : goal.returns-in-Lost-clause-contents
returns-in-Lost-clause-contents g c = c.read_page.ensures.contents

pub returns-in-Lost-clause-left : goal.returns-in-Lost-clause-left
returns-in-Lost-clause-left g c = c.read_page.ensures.left

pub returns-in-Lost-clause-clock : goal.returns-in-Lost-clause-clock
returns-in-Lost-clause-clock g c = c.read_page.ensures.clock

pub returns-in-Lost-clause-write_faults : goal.returns-in-Lost-clause-write_faults
returns-in-Lost-clause-write_faults g c = c.read_page.ensures.write_faults

pub returns-in-Lost-clause-value : goal.returns-in-Lost-clause-value
returns-in-Lost-clause-value g c t e = absurd (read_lost_done e)

pub returns-in-Lost-clause-read_faults : goal.returns-in-Lost-clause-read_faults
returns-in-Lost-clause-read_faults g c = done_unfailed c.read_page.ensures.read_faults (λ e. read_lost_fault (sym c.in-Lost.is ∙ e)) read_lost_fault

pub returns-in-Fault-clause-geometry : goal.returns-in-Fault-clause-geometry
returns-in-Fault-clause-geometry g c = c.read_page.ensures.geometry

pub returns-in-Fault-clause-contents : goal.returns-in-Fault-clause-contents
returns-in-Fault-clause-contents g c = c.read_page.ensures.contents

pub returns-in-Fault-clause-left : goal.returns-in-Fault-clause-left
returns-in-Fault-clause-left g c = c.read_page.ensures.left

pub returns-in-Fault-clause-clock : goal.returns-in-Fault-clause-clock
returns-in-Fault-clause-clock g c = c.read_page.ensures.clock

pub returns-in-Fault-clause-write_faults : goal.returns-in-Fault-clause-write_faults
returns-in-Fault-clause-write_faults g c = c.read_page.ensures.write_faults

pub returns-in-Fault-clause-value : goal.returns-in-Fault-clause-value
returns-in-Fault-clause-value g c t e = absurd (read_fault_done e)

pub returns-in-Fault-clause-kept : goal.returns-in-Fault-clause-kept
returns-in-Fault-clause-kept g c t named = inr refl

pub returns-in-Fault-clause-read_faults : goal.returns-in-Fault-clause-read_faults
returns-in-Fault-clause-read_faults g c = failed_fault c.read_page.ensures.read_faults c.in-Fault.is refl
