use Rattle.nl_pseg.proofs.Small.{earlier, rose_by}
use Rattle.nl_pseg.proofs.Apart.{wrote_done_failed, read_done_fault, read_lost_done, read_lost_fault, lost_nothing, fault_nothing, fault_lost, lost_as}
use Rattle.nl_pseg.proofs.Medium.{fits_then, within_medium}
use Rattle.nl_field.specs.CrashStates.{Rose, saturated}
use Rattle.nl_pseg.specs.Space.{HasRoomForVictim}
use Rattle.std.proofs.Common.{arith, ◌≡◌, ◌⊎◌, ⊎_elim, ℕ, ◌/◌, Option, Some, None, List, get_or, sym, ◌∙◌, ap, subst, inl, inr, ◌+◌}
use Rattle.std.proofs.lemmas.Option.{none-some}
use Rattle.nl_field.specs.Page.{page_at}
use Rattle.nl_pseg.specs.Cleaning.{IsMoved, programmed_by}
use Rattle.nl_pseg.specs.Effects.{Crashes}
use Rattle.nl_pseg_pages.specs.Pages.{main_of}
use Rattle.nl_pseg.specs.Segment.{held_at, IsPhysicalOf}
use Rattle.nl_pseg.specs.Seen.{seen, FitsPhysical}
use Rattle.nl_pseg.specs.Steps.{ReadiedOn}
use Rattle.nl_pseg.specs.declared.held.Held.{Held}
use Rattle.nl_pseg.proofs.CopyImages.{keeps_spare, readied_spare}
use Rattle.nl_pseg.proofs.Moved.{readied_few, readied_lands}
use Rattle.nl_pseg.proofs.MoveSteps.{landed_counts, landed_crashes, read_crashes, readied_crashes, readied_read, ready_fault_counts, moved_gives, moved_or_not, lost_counts, read_fault_counts}
use Rattle.nl_pseg.specs.Kept.{kept}
use Rattle.nl_pseg.specs.declared.cleaned.Copied.TheVariants.{Fault, Lost}
use Rattle.nl_pseg.proofs.MoveAnswers.{copied_programmed, fault_moves, landed_moves, lost_moves, read_moves_on, readied_moves}
use Rattle.nl_pseg.proofs.Tries.{landed_spends, readied_spends, still_spends}
use Rattle.nl_pseg.proofs.state.State.move_page.Goals as goal

pub read_page-requires-clause-spelled : goal.read_page-requires-clause-spelled
read_page-requires-clause-spelled g c = (c.requires.consistent.formed.places.each c.args.before c.args.held c.requires.live).spelled

pub returns-in-Failed-clause-counts : goal.returns-in-Failed-clause-counts
returns-in-Failed-clause-counts g c =
    let read = c.read_page.ensures in
    ready_fault_counts c.args.media.now c.read_page.new.media c.ready.new.media read.clock (read.read_faults.stays (λ f. read_done_fault (sym c.in-Done.is ∙ f))) read.write_faults c.ready.ensures.clock c.ready.ensures.read_faults (λ clean. wrote_done_failed (sym (c.ready.ensures.clean clean).0 ∙ c.in-Failed.is)) c.ready.ensures.write_faults c.in-Failed.is

pub returns-in-Done-ready-clause-counts : goal.returns-in-Done-ready-clause-counts
returns-in-Done-ready-clause-counts g c =
    let read = c.read_page.ensures in
    landed_counts c.args.media.now c.read_page.new.media c.ready.new.media read.clock (read.read_faults.stays (λ f. read_done_fault (sym c.in-Done.is ∙ f))) read.write_faults c.ready.ensures.clock c.ready.ensures.read_faults c.land.result c.land.ensures.later (λ clean. (c.ready.ensures.clean clean).1)
    (c.ready.ensures.write_faults.stays (λ f. wrote_done_failed (sym c.in-Done-ready.is ∙ f))) c.land.ensures.clock c.land.ensures.read_faults c.land.ensures.write_faults

pub returns-in-Done-ready-clause-lands : goal.returns-in-Done-ready-clause-lands
returns-in-Done-ready-clause-lands g c room =
    let r = c.ready.ensures.readied in
    let mid : HasRoomForVictim (seen (kept c.ready.new.self)) = readied_lands r room in
    ⊎_elim {C = Rose (g.M.Nand.write_faults c.args.media.now) (g.M.Nand.write_faults c.land.new.media) ⊎ HasRoomForVictim (seen (kept c.land.new.self))}
    (λ moved. inr (moved_gives c.land.result moved c.land.ensures.lands.moved (λ b a h m. m.3.lands mid)))
    (λ not.
    let same = c.ready.ensures.write_faults.stays (λ f. wrote_done_failed (sym c.in-Done-ready.is ∙ f)) ∙ c.read_page.ensures.write_faults in
    let rose = c.land.ensures.write_faults.cause (c.land.ensures.lands.kept not).0 ∙ ap (λ k. saturated (k + 1)) same in
    inl (rose_by (g.M.Nand.write_faults c.args.media.now) rose))
    (moved_or_not c.land.result)

pub read_page-requires-clause-within : goal.read_page-requires-clause-within
read_page-requires-clause-within g c = within_medium c.requires.fits c.args.before (c.requires.consistent.formed.places.each c.args.before c.args.held c.requires.live).within.1

pub ready-requires-clause-formed : goal.ready-requires-clause-formed
ready-requires-clause-formed g c = c.requires.consistent.formed

pub ready-requires-clause-tied : goal.ready-requires-clause-tied
ready-requires-clause-tied g c = c.requires.consistent.tied

pub ready-requires-clause-fits : goal.ready-requires-clause-fits
ready-requires-clause-fits g c = subst (λ x. FitsPhysical x (seen (kept c.args.self.now))) (sym c.read_page.ensures.geometry) c.requires.fits

pub ready-requires-clause-lands : goal.ready-requires-clause-lands
ready-requires-clause-lands g c = c.requires.room

pub ready-requires-clause-segment : goal.ready-requires-clause-segment
ready-requires-clause-segment g c t = subst (λ i. IsPhysicalOf i (seen (kept c.args.self.now))) (sym c.read_page.ensures.contents) (c.requires.segment t)

pub land-requires-clause-fits : goal.land-requires-clause-fits
land-requires-clause-fits g c = fits_then (c.ready.ensures.geometry ∙ c.read_page.ensures.geometry) c.ready.ensures.readied.pages c.requires.fits

pub land-requires-clause-room : goal.land-requires-clause-room
land-requires-clause-room g c = c.ready.ensures.left c.in-Done-ready.is

pub land-requires-clause-victim : goal.land-requires-clause-victim
land-requires-clause-victim g c =
    let r = c.ready.ensures.readied in
    r.victim ∙ (c.requires.victim ∙ ap (λ n. Some (c.args.before / n)) (sym r.pages.same_size))

pub land-requires-clause-live : goal.land-requires-clause-live
land-requires-clause-live g c = ap (λ (l : List (Option Held)). get_or l c.args.before None) c.ready.ensures.readied.held ∙ c.requires.live

pub land-requires-clause-segment : goal.land-requires-clause-segment
land-requires-clause-segment g c t = (c.ready.ensures.medium t).segment

pub returns-in-Lost-clause-nothing : goal.returns-in-Lost-clause-nothing
returns-in-Lost-clause-nothing g c e = lost_nothing e

pub returns-in-Lost-clause-lands : goal.returns-in-Lost-clause-lands
returns-in-Lost-clause-lands g c room = inr room

pub returns-in-Lost-clause-geometry : goal.returns-in-Lost-clause-geometry
returns-in-Lost-clause-geometry g c = c.read_page.ensures.geometry

pub returns-in-Lost-clause-counts : goal.returns-in-Lost-clause-counts
returns-in-Lost-clause-counts g c = lost_counts c.read_page.ensures.clock c.read_page.ensures.write_faults c.in-Lost.wanted c.in-Lost.found c.read_page.ensures.read_faults (λ fault. read_lost_fault (sym c.in-Lost.is ∙ fault))

pub returns-in-Fault-clause-nothing : goal.returns-in-Fault-clause-nothing
returns-in-Fault-clause-nothing g c e = fault_nothing e

pub returns-in-Fault-clause-lands : goal.returns-in-Fault-clause-lands
returns-in-Fault-clause-lands g c room = inr room

pub returns-in-Fault-clause-geometry : goal.returns-in-Fault-clause-geometry
returns-in-Fault-clause-geometry g c = c.read_page.ensures.geometry

pub returns-in-Fault-clause-counts : goal.returns-in-Fault-clause-counts
returns-in-Fault-clause-counts g c = read_fault_counts c.read_page.ensures.clock c.read_page.ensures.write_faults c.read_page.ensures.read_faults c.in-Fault.is

pub returns-in-Failed-clause-nothing : goal.returns-in-Failed-clause-nothing
returns-in-Failed-clause-nothing g c e = fault_nothing e

pub returns-in-Failed-clause-lands : goal.returns-in-Failed-clause-lands
returns-in-Failed-clause-lands g c room = inr (readied_lands c.ready.ensures.readied room)

pub returns-in-Failed-clause-geometry : goal.returns-in-Failed-clause-geometry
returns-in-Failed-clause-geometry g c = c.ready.ensures.geometry ∙ c.read_page.ensures.geometry

pub returns-in-Done-ready-clause-nothing : goal.returns-in-Done-ready-clause-nothing
returns-in-Done-ready-clause-nothing g c e = fault_nothing (sym (c.land.ensures.lands.kept (λ m. subst IsMoved e m)).0 ∙ e)

pub returns-in-Done-ready-clause-geometry : goal.returns-in-Done-ready-clause-geometry
returns-in-Done-ready-clause-geometry g c = c.land.ensures.geometry ∙ (c.ready.ensures.geometry ∙ c.read_page.ensures.geometry)

pub land-requires-clause-consistent : goal.land-requires-clause-consistent
land-requires-clause-consistent g c =
    record { formed = c.ready.ensures.formed; tied = c.ready.ensures.tied; few = readied_few c.ready.ensures.readied c.requires.consistent.few }

pub returns-in-Lost-clause-consistent : goal.returns-in-Lost-clause-consistent
returns-in-Lost-clause-consistent g c =
    c.requires.consistent

pub returns-in-Fault-clause-consistent : goal.returns-in-Fault-clause-consistent
returns-in-Fault-clause-consistent g c =
    c.requires.consistent

pub returns-in-Failed-clause-consistent : goal.returns-in-Failed-clause-consistent
returns-in-Failed-clause-consistent g c =
    record { formed = c.ready.ensures.formed; tied = c.ready.ensures.tied; few = readied_few c.ready.ensures.readied c.requires.consistent.few }

pub returns-in-Done-ready-clause-consistent : goal.returns-in-Done-ready-clause-consistent
returns-in-Done-ready-clause-consistent g c =
    c.land.ensures.consistent

pub returns-in-Lost-clause-moves : goal.returns-in-Lost-clause-moves
returns-in-Lost-clause-moves g c =
    lost_moves (seen (kept c.args.self.now)) c.args.before c.args.held c.in-Lost.wanted c.in-Lost.found (λ w f e. lost_as e (c.read_page.ensures.lost c.in-Lost.wanted c.in-Lost.found c.in-Lost.is))

pub returns-in-Lost-clause-medium : goal.returns-in-Lost-clause-medium
returns-in-Lost-clause-medium g c t =
    read_moves_on c.args.before c.args.held (Lost c.in-Lost.wanted c.in-Lost.found) (λ m. m)
    (λ w f e. ⊎_elim (λ done. read_lost_done (sym c.in-Lost.is ∙ done)) (λ fault. read_lost_fault (sym c.in-Lost.is ∙ fault)) (c.read_page.ensures.kept t ((c.requires.segment t).holds c.args.before c.args.held c.requires.live)))
    c.read_page.ensures.contents (c.requires.segment t)
    (read_crashes c.args.held.tag c.args.held.stamp (main_of (page_at (g.M.Nand.contents c.args.media.now) c.args.before)) c.read_page.ensures.contents c.read_page.ensures.clock c.read_page.ensures.left)

pub returns-in-Fault-clause-moves : goal.returns-in-Fault-clause-moves
returns-in-Fault-clause-moves g c =
    fault_moves (seen (kept c.args.self.now)) c.args.before c.args.held

pub returns-in-Fault-clause-medium : goal.returns-in-Fault-clause-medium
returns-in-Fault-clause-medium g c t =
    read_moves_on c.args.before c.args.held Fault (λ m. m) (λ w f e. fault_lost e) c.read_page.ensures.contents (c.requires.segment t)
    (read_crashes c.args.held.tag c.args.held.stamp (main_of (page_at (g.M.Nand.contents c.args.media.now) c.args.before)) c.read_page.ensures.contents c.read_page.ensures.clock c.read_page.ensures.left)

pub returns-in-Failed-clause-moves : goal.returns-in-Failed-clause-moves
returns-in-Failed-clause-moves g c =
    readied_moves c.args.before c.args.held c.ready.ensures.readied

pub returns-in-Failed-clause-medium : goal.returns-in-Failed-clause-medium
returns-in-Failed-clause-medium g c t =
    let s = kept c.args.self.now in
    let held = c.args.held in
    let r = c.ready.ensures.readied in
    let read = c.read_page.ensures in
    let on = readied_read read.contents read.clock read.left (subst (λ x. ReadiedOn g.M.Nand.clock g.M.Nand.contents g.M.Nand.left x (seen s) (seen (kept c.ready.new.self)) c.read_page.new.media c.ready.new.media) c.in-Failed.is (c.ready.ensures.medium t)) in
    record {
      told = λ w f e. fault_lost e;
      segment = on.segment;
      spare = λ spare. readied_spare r (keeps_spare on.keeps spare);
      programmed = tt;
      crash = readied_crashes held.tag held.stamp (main_of (page_at (g.M.Nand.contents c.args.media.now) c.args.before)) on;
    }

pub returns-in-Done-ready-clause-moves : goal.returns-in-Done-ready-clause-moves
returns-in-Done-ready-clause-moves g c =
    landed_moves c.land.result c.ready.ensures.readied c.land.ensures.lands

pub returns-in-Done-ready-clause-medium : goal.returns-in-Done-ready-clause-medium
returns-in-Done-ready-clause-medium g c t =
    let s = kept c.args.self.now in
    let held = c.args.held in
    let r = c.ready.ensures.readied in
    let read = c.read_page.ensures in
    let l = c.land.ensures in
    let m = l.medium t in
    let old = g.M.Nand.contents c.args.media.now in
    let on = readied_read read.contents read.clock read.left (subst (λ x. ReadiedOn g.M.Nand.clock g.M.Nand.contents g.M.Nand.left x (seen s) (seen (kept c.ready.new.self)) c.read_page.new.media c.ready.new.media) c.in-Done-ready.is (c.ready.ensures.medium t)) in
    let main : main_of (page_at old c.args.before) ≡ c.read_page.new.buf.main = ap main_of (read.value t c.in-Done.is) in
    let live : held_at (seen (kept c.ready.new.self)) c.args.before ≡ Some held = ap (λ (l : List (Option Held)). get_or l c.args.before None) r.held ∙ c.requires.live in
    let stays : page_at (g.M.Nand.contents c.ready.new.media) c.args.before ≡ page_at old c.args.before = ⊎_elim (λ same. same) (λ dead. absurd (none-some held (sym dead.0.dead ∙ c.requires.live))) (on.keeps.each c.args.before) in
    record {
      told = λ w f e. fault_lost (sym (l.lands.kept (λ m. subst IsMoved e m)).0 ∙ e);
      segment = m.segment;
      spare = λ spare. l.spare t (on.segment.holds c.args.before held live ∙ ap (λ (m : List ℕ). Some (held.tag, held.stamp, m)) (ap main_of stays ∙ main)) (readied_spare r (keeps_spare on.keeps spare));
      programmed = copied_programmed c.land.new.media c.land.result r held c.read_page.new.buf.main c.args.before on main l.lands m.alone;
      crash = subst (λ (m : List ℕ). Crashes g.M.Nand.clock g.M.Nand.contents g.M.Nand.left (seen s) held.tag held.stamp m c.args.media.now c.land.new.media (programmed_by c.land.result)) (sym main)
          (landed_crashes r held.tag held.stamp c.read_page.new.buf.main c.land.result on (λ moved. earlier (g.M.Nand.clock c.ready.new.media) (l.clock.0 moved)) m.crash);
    }

pub returns-in-Lost-clause-tried : goal.returns-in-Lost-clause-tried
returns-in-Lost-clause-tried g c =
    let same = c.read_page.ensures.write_faults in
    still_spends (Lost c.in-Lost.wanted c.in-Lost.found) _ (seen (kept c.args.self.now)) (λ more. omega (arith, same, more)) tt

pub returns-in-Fault-clause-tried : goal.returns-in-Fault-clause-tried
returns-in-Fault-clause-tried g c =
    let same = c.read_page.ensures.write_faults in
    still_spends Fault _ (seen (kept c.args.self.now)) (λ more. omega (arith, same, more)) tt

pub returns-in-Failed-clause-tried : goal.returns-in-Failed-clause-tried
returns-in-Failed-clause-tried g c = readied_spends _ c.ready.ensures.readied (c.ready.ensures.failed c.in-Failed.is)

pub returns-in-Done-ready-clause-tried : goal.returns-in-Done-ready-clause-tried
returns-in-Done-ready-clause-tried g c = landed_spends c.ready.ensures.readied c.land.result _ c.land.ensures.lands
