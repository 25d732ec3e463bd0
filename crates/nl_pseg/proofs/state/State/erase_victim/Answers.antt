use Rattle.nl_blocks.specs.Table.{block_at, dead_count}
use Rattle.nl_pseg.proofs.Small.{below_more, left_some, left_zero}
use Rattle.nl_pseg.proofs.Apart.{wrote_done_failed, erase_nothing_done, erase_nothing_fault, erase_fault_done, erase_fault_nothing, erase_done_nothing, erase_done_fault}
use Rattle.nl_pseg.proofs.Medium.{failed_fault, none_failed, done_unfailed}
use Rattle.std.proofs.Common.{◌+◌, ◌*◌, ◌<◌, ◌≤◌, refl, sym, ◌∙◌, subst}
use Rattle.std.proofs.lemmas.Option.{same_Some}
use Rattle.nl_field.specs.Page.{Image, erased}
use Rattle.nl_nand.specs.ImageLaws.{filled_cut}
use Rattle.nl_nand.specs.Nand.{Cut}
use Rattle.nl_nand.proofs.Crashes.{operation}
use Rattle.nl_pseg.specs.Cleaning.{KeepsBeside}
use Rattle.nl_pseg.specs.Segment.{held_at}
use Rattle.nl_pseg.specs.Seen.{seen}
use Rattle.nl_pseg.proofs.Erasing.{cut_segment, dead_spare, done_erases, done_segment, done_spare, keeps_beside, not_erases, nothing_erases_on}
use Rattle.nl_pseg.proofs.Images.{erase_others}
use Rattle.nl_pseg.proofs.Left.{left_is, none_is, none_live, some_is, some_live, there_is, victims_is}
use Rattle.nl_pseg.proofs.Numbers.{in_block}
use Rattle.nl_pseg.specs.Kept.{kept}
use Rattle.nl_pseg.specs.declared.cleaned.Erasure.TheVariants.{Fault, Nothing}
use Rattle.nl_pseg.proofs.state.State.erase_victim.Goals as goal

pub first_live-requires-clause-has : goal.first_live-requires-clause-has
first_live-requires-clause-has g c = (c.requires.consistent.tied.phases.victim_in c.in-Some.victim c.in-Some.is).0

pub returns-then-is_some-clause-nothing : goal.returns-then-is_some-clause-nothing
returns-then-is_some-clause-nothing g c =
    let s = kept c.args.self.now in
    let block = c.in-Some.victim in
    let has = (c.requires.consistent.tied.phases.victim_in block c.in-Some.is).0 in
    let page = some_is c.first_live.result (sym c.is_some.ensures ∙ c.if-is_some.true) c.first_live.ensures.some in
    let live = there_is (held_at (seen s) page.0) page.1.1 in
    let few = some_live s c.requires.consistent.formed c.count.ensures.table block has page.0 live.0 page.1.0 live.1 in
    let left = left_is s block has c.in-Some.is in (λ e both. left_some (dead_count (block_at s.blocks block)) few left both.1, λ not. refl)

pub erase-requires : goal.erase-requires
erase-requires g c =
    let has = (c.requires.consistent.tied.phases.victim_in c.in-Some.victim c.in-Some.is).0 in
    below_more has.below c.requires.fits.blocks

pub returns-in-Failed-clause-nothing : goal.returns-in-Failed-clause-nothing
returns-in-Failed-clause-nothing g c =
    let s = kept c.args.self.now in
    let block = c.in-Some.victim in
    let has = (c.requires.consistent.tied.phases.victim_in block c.in-Some.is).0 in
    let dead = none_is c.first_live.result (sym c.is_some.ensures ∙ c.if-is_some.false) c.first_live.ensures.none in
    let all = none_live s c.requires.consistent.formed c.count.ensures.table block has dead in
    let left = left_is s block has c.in-Some.is in (λ e. absurd (erase_fault_nothing e), λ not. absurd (not (victims_is s block c.in-Some.is, left_zero all left)))

pub returns-in-Done-clause-write_faults : goal.returns-in-Done-clause-write_faults
returns-in-Done-clause-write_faults g c = done_unfailed c.erase.ensures.counted.failures (λ e. wrote_done_failed (sym c.in-Done.is ∙ e)) erase_done_fault

pub first_live-requires-clause-formed : goal.first_live-requires-clause-formed
first_live-requires-clause-formed g c = c.requires.consistent.formed

pub release-requires-clause-formed : goal.release-requires-clause-formed
release-requires-clause-formed g c = c.requires.consistent.formed

pub release-requires-clause-tied : goal.release-requires-clause-tied
release-requires-clause-tied g c = c.requires.consistent.tied

pub release-requires-clause-victim : goal.release-requires-clause-victim
release-requires-clause-victim g c = c.in-Some.is

pub release-requires-clause-dead : goal.release-requires-clause-dead
release-requires-clause-dead g c = none_is c.first_live.result (sym c.is_some.ensures ∙ c.if-is_some.false) c.first_live.ensures.none

pub returns-in_default-clause-refused : goal.returns-in_default-clause-refused
returns-in_default-clause-refused g c e = refl

pub returns-in_default-clause-geometry : goal.returns-in_default-clause-geometry
returns-in_default-clause-geometry g c = refl

pub returns-in_default-clause-clock : goal.returns-in_default-clause-clock
returns-in_default-clause-clock g c = (λ e. absurd (erase_nothing_done e), λ not. refl)

pub returns-in_default-clause-read_faults : goal.returns-in_default-clause-read_faults
returns-in_default-clause-read_faults g c = refl

pub returns-in_default-clause-write_faults : goal.returns-in_default-clause-write_faults
returns-in_default-clause-write_faults g c = none_failed erase_nothing_fault

pub returns-then-is_some-clause-refused : goal.returns-then-is_some-clause-refused
returns-then-is_some-clause-refused g c e = refl

pub returns-then-is_some-clause-geometry : goal.returns-then-is_some-clause-geometry
returns-then-is_some-clause-geometry g c = refl

pub returns-then-is_some-clause-clock : goal.returns-then-is_some-clause-clock
returns-then-is_some-clause-clock g c = (λ e. absurd (erase_nothing_done e), λ not. refl)

pub returns-then-is_some-clause-read_faults : goal.returns-then-is_some-clause-read_faults
returns-then-is_some-clause-read_faults g c = refl

pub returns-then-is_some-clause-write_faults : goal.returns-then-is_some-clause-write_faults
returns-then-is_some-clause-write_faults g c = none_failed erase_nothing_fault

pub returns-in_default-clause-table : goal.returns-in_default-clause-table
returns-in_default-clause-table g c = c.count.ensures.table

pub returns-then-is_some-clause-table : goal.returns-then-is_some-clause-table
returns-then-is_some-clause-table g c = c.count.ensures.table

pub returns-in-Failed-clause-table : goal.returns-in-Failed-clause-table
returns-in-Failed-clause-table g c = c.count.ensures.table

pub returns-in-Done-clause-table : goal.returns-in-Done-clause-table
returns-in-Done-clause-table g c = c.release.ensures.table

pub returns-in-Failed-clause-refused : goal.returns-in-Failed-clause-refused
returns-in-Failed-clause-refused g c e = absurd (erase_fault_nothing e)

pub returns-in-Failed-clause-geometry : goal.returns-in-Failed-clause-geometry
returns-in-Failed-clause-geometry g c = c.erase.ensures.counted.same_geometry

pub returns-in-Failed-clause-clock : goal.returns-in-Failed-clause-clock
returns-in-Failed-clause-clock g c = (λ e. absurd (erase_fault_done e), λ not. c.in-Failed.ensures.counted.ticks)

pub returns-in-Failed-clause-read_faults : goal.returns-in-Failed-clause-read_faults
returns-in-Failed-clause-read_faults g c = c.erase.ensures.counted.same_read_faults

pub returns-in-Failed-clause-write_faults : goal.returns-in-Failed-clause-write_faults
returns-in-Failed-clause-write_faults g c = failed_fault c.erase.ensures.counted.failures c.in-Failed.is refl

pub returns-in-Done-clause-refused : goal.returns-in-Done-clause-refused
returns-in-Done-clause-refused g c e = absurd (erase_done_nothing e)

pub returns-in-Done-clause-geometry : goal.returns-in-Done-clause-geometry
returns-in-Done-clause-geometry g c = c.erase.ensures.counted.same_geometry

pub returns-in-Done-clause-clock : goal.returns-in-Done-clause-clock
returns-in-Done-clause-clock g c = (λ e. c.in-Done.ensures.counted.ticks, λ not. absurd (not refl))

pub returns-in-Done-clause-read_faults : goal.returns-in-Done-clause-read_faults
returns-in-Done-clause-read_faults g c = c.erase.ensures.counted.same_read_faults

pub returns-in-Done-clause-nothing : goal.returns-in-Done-clause-nothing
returns-in-Done-clause-nothing g c =
    let s = kept c.args.self.now in
    let block = c.in-Some.victim in
    let has = (c.requires.consistent.tied.phases.victim_in block c.in-Some.is).0 in
    let dead = none_is c.first_live.result (sym c.is_some.ensures ∙ c.if-is_some.false) c.first_live.ensures.none in
    let all = none_live s c.requires.consistent.formed c.count.ensures.table block has dead in
    let left = left_is s block has c.in-Some.is in
    (λ e. absurd (erase_done_nothing e), λ not. absurd (not (victims_is s block c.in-Some.is, left_zero all left)))

pub returns-in_default-clause-consistent : goal.returns-in_default-clause-consistent
returns-in_default-clause-consistent g c =
    c.requires.consistent

pub returns-in_default-clause-erases : goal.returns-in_default-clause-erases
returns-in_default-clause-erases g c =
    not_erases Nothing (seen (kept c.args.self.now)) erase_nothing_done

pub returns-in_default-clause-medium : goal.returns-in_default-clause-medium
returns-in_default-clause-medium g c t =
    nothing_erases_on c.args.media.now (c.requires.segment t)

pub returns-then-is_some-clause-consistent : goal.returns-then-is_some-clause-consistent
returns-then-is_some-clause-consistent g c =
    c.requires.consistent

pub returns-then-is_some-clause-erases : goal.returns-then-is_some-clause-erases
returns-then-is_some-clause-erases g c =
    not_erases Nothing (seen (kept c.args.self.now)) erase_nothing_done

pub returns-then-is_some-clause-medium : goal.returns-then-is_some-clause-medium
returns-then-is_some-clause-medium g c t =
    nothing_erases_on c.args.media.now (c.requires.segment t)

pub returns-in-Failed-clause-consistent : goal.returns-in-Failed-clause-consistent
returns-in-Failed-clause-consistent g c =
    c.requires.consistent

pub returns-in-Failed-clause-erases : goal.returns-in-Failed-clause-erases
returns-in-Failed-clause-erases g c =
    not_erases Fault (seen (kept c.args.self.now)) erase_fault_done

pub returns-in-Done-clause-consistent : goal.returns-in-Done-clause-consistent
returns-in-Done-clause-consistent g c =
    record { formed = c.release.ensures.formed; tied = c.release.ensures.tied; few = c.release.ensures.few }

pub returns-in-Done-clause-erases : goal.returns-in-Done-clause-erases
returns-in-Done-clause-erases g c =
    done_erases (kept c.release.new.self) c.release.ensures.erases

pub returns-in-Failed-clause-medium : goal.returns-in-Failed-clause-medium
returns-in-Failed-clause-medium g c t =
    let s = kept c.args.self.now in
    let is = c.requires.consistent in
    let victim = c.in-Some.victim in
    let pages = (g.M.Nand.geometry c.args.media.now).pages in
    let old = g.M.Nand.contents c.args.media.now in
    let dead = none_is c.first_live.result (sym c.is_some.ensures ∙ c.if-is_some.false) c.first_live.ensures.none in
    record {
      segment = cut_segment s is.formed is.tied victim c.in-Some.is dead (c.requires.segment t) (erase_others victim pages s.blocks.size c.requires.fits.pages (c.in-Failed.ensures.effect t));
      spare = λ not. dead_spare s is.formed is.tied victim c.in-Some.is dead (g.M.Nand.contents c.erase.new.self);
      pages = λ block named. subst (λ b. KeepsBeside (seen s) b old (g.M.Nand.contents c.erase.new.self)) (same_Some victim block (sym c.in-Some.is ∙ named)) (keeps_beside (seen s) victim pages c.requires.fits.pages (c.in-Failed.ensures.effect t));
      crash = λ block named. operation c.erase.result (λ i. KeepsBeside (seen s) block old i) c.erase.ensures.crash (c.erase.ensures.effect t)
          (λ (i : Image) (cut : Cut (victim * pages) (victim * pages + pages) erased old i). subst (λ b. KeepsBeside (seen s) b old i) (same_Some victim block (sym c.in-Some.is ∙ named)) (keeps_beside (seen s) victim pages c.requires.fits.pages cut));
    }

pub returns-in-Done-clause-medium : goal.returns-in-Done-clause-medium
returns-in-Done-clause-medium g c t =
    let s = kept c.args.self.now in
    let is = c.requires.consistent in
    let victim = c.in-Some.victim in
    let pages = (g.M.Nand.geometry c.args.media.now).pages in
    let old = g.M.Nand.contents c.args.media.now in
    let dead = none_is c.first_live.result (sym c.is_some.ensures ∙ c.if-is_some.false) c.first_live.ensures.none in
    record {
      segment = done_segment s is.formed is.tied victim c.in-Some.is dead c.release.ensures.erases (c.requires.segment t) (erase_others victim pages s.blocks.size c.requires.fits.pages (filled_cut (c.in-Done.ensures.effect t)))
          (λ p at.
          let w = in_block p s.blocks.size victim is.formed.some at in
          (c.in-Done.ensures.effect t).inside p (subst (λ n. victim * n ≤ p) (sym c.requires.fits.pages) w.0) (subst (λ n. p < victim * n + n) (sym c.requires.fits.pages) w.1));
      spare = λ not. done_spare s is.formed is.tied victim c.in-Some.is dead c.release.ensures.erases (g.M.Nand.contents c.erase.new.self);
      pages = λ block named. subst (λ b. KeepsBeside (seen s) b old (g.M.Nand.contents c.erase.new.self)) (same_Some victim block (sym c.in-Some.is ∙ named)) (keeps_beside (seen s) victim pages c.requires.fits.pages (filled_cut (c.in-Done.ensures.effect t)));
      crash = λ block named. operation c.erase.result (λ i. KeepsBeside (seen s) block old i) c.erase.ensures.crash (c.erase.ensures.effect t)
          (λ (i : Image) (cut : Cut (victim * pages) (victim * pages + pages) erased old i). subst (λ b. KeepsBeside (seen s) b old i) (same_Some victim block (sym c.in-Some.is ∙ named)) (keeps_beside (seen s) victim pages c.requires.fits.pages cut));
    }
