use Rattle.nl_pseg.specs.Space.{left_in_victim}
use Rattle.nl_pseg.proofs.Small.{one_page, room_left, some_room, can_program}
use Rattle.nl_pseg.proofs.Apart.{wrote_done_failed, moved_fault}
use Rattle.std.proofs.Common.{◌≡◌, cond, ℕ, ◌+◌, ◌*◌, ◌/◌, ◌<◌, Option, Some, None, List, length, get_or, refl, sym, ◌∙◌, ap, subst, is_some, length-set}
use Rattle.std.proofs.lemmas.List.{get_or-set_other, get_or-set_same}
use Rattle.std.proofs.lemmas.Option.{none-some}
use Rattle.nl_field.specs.Page.{page_at, written}
use Rattle.nl_field.specs.declared.answers.Named.TheVariants.{Placed}
use Rattle.nl_field.specs.declared.answers.Named.TheVariants as named
use Rattle.nl_pseg.specs.declared.cleaned.Copied.TheVariants.{Fault, Moved}
use Rattle.nl_nand.specs.ImageLaws.{filled_cut}
use Rattle.nl_nand.specs.Nand.{Cut}
use Rattle.nl_pseg_pages.specs.Pages.{page_with, shown_by}
use Rattle.nl_pseg.specs.Segment.{IsDead, Physical, held_at, wear_of, soiled}
use Rattle.nl_pseg.specs.Seen.{seen}
use Rattle.nl_pseg_blocks.specs.Uses.{Use, use_in}
use Rattle.nl_pseg.specs.Steps.{IsAlone, IsCopyUsed, IsLed}
use Rattle.nl_pseg.specs.declared.held.Held.{Held}
use Rattle.nl_pseg.proofs.CopyImages.{after_copy, after_led, copied_spare, copy_dead, copy_kept, failed_spare}
use Rattle.nl_pseg.proofs.CopyUsed.{copy_behind, copy_block, copy_within, copy_in_use}
use Rattle.nl_pseg.proofs.Images.{put_alone, put_crashes, shows_placed}
use Rattle.nl_pseg.proofs.MoveAnswers.{landed_few, landed_moved, landed_none}
use Rattle.nl_pseg.proofs.Moved.{unmoved_held}
use Rattle.nl_pseg.proofs.States.{within_length}
use Rattle.nl_pseg.proofs.Medium.{within_medium, done_unfailed, failed_fault}
use Rattle.nl_pseg.proofs.Begun.{told_length}
use Rattle.nl_pseg_blocks.proofs.Tables.{use_here}
use Rattle.nl_pseg.proofs.Wearing.{wear_used}
use Rattle.nl_pseg.specs.Kept.{kept}
use Rattle.nl_pseg.proofs.state.State.land.Goals as goal

-- as many pages as before
within_mid : {x : Option Held} {old new : Physical} → IsCopyUsed x old new → (p : ℕ) → p < length old.held → p < length new.held
within_mid {x} {old} {new} u p less = subst (λ n. p < n) (sym (ap (λ (l : List (Option Held)). length l) u.held ∙ length-set old.held old.copy_next x)) less

pub program_page-requires-clause-erased : goal.program_page-requires-clause-erased
program_page-requires-clause-erased g c t =
    let s = kept c.args.self.now in
    let fit = g.met.M.Nand.contents_fit c.args.media.now t in
    can_program s.target (fit.pages ∙ c.requires.fits.pages) c.requires.room c.in-Some.ensures.some.1 (λ p from below. (c.requires.segment t).blank_copy p (from, below))

pub program_page-requires-clause-spelled : goal.program_page-requires-clause-spelled
program_page-requires-clause-spelled g c = (c.requires.consistent.formed.places.each c.args.before c.args.held c.requires.live).spelled

pub use_copy-requires-in-Done-clause-spelled : goal.use_copy-requires-in-Done-clause-spelled
use_copy-requires-in-Done-clause-spelled g c = (c.requires.consistent.formed.places.each c.args.before c.args.held c.requires.live).spelled

pub lead-requires-clause-there : goal.lead-requires-clause-there
lead-requires-clause-there g c =
    let s = kept c.args.self.now in
    let is = c.requires.consistent.formed in
    let tied = c.requires.consistent.tied in
    let room = c.requires.room in
    let after = c.in-Some.after in
    let at : after ≡ (seen s).copy_next = c.in-Some.ensures.some.1 in
    let dead = copy_dead s is tied room in
    ap is_some (ap (λ n. held_at (seen (kept c.use_copy-in-Done.new.self)) n) at ∙ (ap (λ (l : List (Option Held)). get_or l (seen s).copy_next None) c.use_copy-in-Done.ensures.used.held ∙ get_or-set_same s.held.items (seen s).copy_next (Some c.args.held) None (copy_within s is tied room)))

pub lead-requires-clause-apart : goal.lead-requires-clause-apart
lead-requires-clause-apart g c e =
    let s = kept c.args.self.now in
    let is = c.requires.consistent.formed in
    let tied = c.requires.consistent.tied in
    let room = c.requires.room in
    let after = c.in-Some.after in
    let at : after ≡ (seen s).copy_next = c.in-Some.ensures.some.1 in
    let dead = copy_dead s is tied room in
    none-some c.args.held (sym dead.dead ∙ (ap (held_at (seen s)) (sym (e ∙ at)) ∙ c.requires.live))

pub next_copy-requires : goal.next_copy-requires
next_copy-requires g c = c.requires.consistent.tied.phases.target_in

pub wear-wear-requires : goal.wear-wear-requires
wear-wear-requires g c = c.requires.consistent.tied.phases.target_in

pub program_page-requires-clause-within : goal.program_page-requires-clause-within
program_page-requires-clause-within g c =
    let s = kept c.args.self.now in
    let within = subst (λ n. (seen s).copy_next < n) c.requires.consistent.formed.pages (copy_within s c.requires.consistent.formed c.requires.consistent.tied c.requires.room) in
    within_medium c.requires.fits c.in-Some.after (subst (λ n. n < (seen s).blocks * (seen s).size) (sym c.in-Some.ensures.some.1) within)

pub use_copy-requires-clause-formed : goal.use_copy-requires-clause-formed
use_copy-requires-clause-formed g c = c.requires.consistent.formed

pub use_copy-requires-clause-tied : goal.use_copy-requires-clause-tied
use_copy-requires-clause-tied g c = c.requires.consistent.tied

pub use_copy-requires-clause-room : goal.use_copy-requires-clause-room
use_copy-requires-clause-room g c = c.requires.room

pub use_copy-requires-clause-next : goal.use_copy-requires-clause-next
use_copy-requires-clause-next g c = c.in-Some.ensures.some.1

pub use_copy-requires-in-Done-clause-formed : goal.use_copy-requires-in-Done-clause-formed
use_copy-requires-in-Done-clause-formed g c = c.requires.consistent.formed

pub use_copy-requires-in-Done-clause-tied : goal.use_copy-requires-in-Done-clause-tied
use_copy-requires-in-Done-clause-tied g c = c.requires.consistent.tied

pub use_copy-requires-in-Done-clause-room : goal.use_copy-requires-in-Done-clause-room
use_copy-requires-in-Done-clause-room g c = c.requires.room

pub use_copy-requires-in-Done-clause-next : goal.use_copy-requires-in-Done-clause-next
use_copy-requires-in-Done-clause-next g c = c.in-Some.ensures.some.1

pub lead-requires-clause-formed : goal.lead-requires-clause-formed
lead-requires-clause-formed g c = c.use_copy-in-Done.ensures.formed

pub lead-requires-clause-tied : goal.lead-requires-clause-tied
lead-requires-clause-tied g c = c.use_copy-in-Done.ensures.tied

pub lead-requires-clause-victim : goal.lead-requires-clause-victim
lead-requires-clause-victim g c =
    let used = c.use_copy-in-Done.ensures.used in
    used.victim ∙ (c.requires.victim ∙ ap (λ n. Some (c.args.before / n)) (sym used.pages.same_size))

pub lead-requires-clause-live : goal.lead-requires-clause-live
lead-requires-clause-live g c =
    let s = kept c.args.self.now in
    let used = c.use_copy-in-Done.ensures.used in
    let dead = copy_dead s c.requires.consistent.formed c.requires.consistent.tied c.requires.room in
    ap is_some (ap (λ (l : List (Option Held)). get_or l c.args.before None) used.held
    ∙ (get_or-set_other s.held.items (seen s).copy_next c.args.before (Some c.args.held) None (λ e. none-some c.args.held (sym dead.dead ∙ (ap (held_at (seen s)) (sym e) ∙ c.requires.live))) ∙ c.requires.live))

pub lead-requires-clause-room : goal.lead-requires-clause-room
lead-requires-clause-room g c =
    let s = kept c.args.self.now in
    let used = c.use_copy-in-Done.ensures.used in
    let all = c.requires.consistent.tied.named.room in
    let few = c.requires.consistent.few (ap (λ (o : Option ℕ). cond (is_some o) 1 0) c.requires.victim) in
    let told = told_length s.names.pairs in
    let some = c.requires.consistent.formed.some in
    let same = used.pair_room in
    some_room (left_in_victim (seen s)) all few told some same

pub returns-in-Failed-clause-geometry : goal.returns-in-Failed-clause-geometry
returns-in-Failed-clause-geometry g c = c.program_page.ensures.geometry

pub returns-in-Failed-clause-later : goal.returns-in-Failed-clause-later
returns-in-Failed-clause-later g c = c.program_page.ensures.crash.later

pub returns-in-Failed-clause-clock : goal.returns-in-Failed-clause-clock
returns-in-Failed-clause-clock g c = (λ moved. absurd moved, λ not. c.in-Failed.ensures.clock)

pub returns-in-Failed-clause-read_faults : goal.returns-in-Failed-clause-read_faults
returns-in-Failed-clause-read_faults g c = c.program_page.ensures.read_faults

pub returns-in-Failed-clause-write_faults : goal.returns-in-Failed-clause-write_faults
returns-in-Failed-clause-write_faults g c = failed_fault c.program_page.ensures.write_faults c.in-Failed.is refl

pub returns-in-Done-clause-geometry : goal.returns-in-Done-clause-geometry
returns-in-Done-clause-geometry g c = c.program_page.ensures.geometry

pub returns-in-Done-clause-later : goal.returns-in-Done-clause-later
returns-in-Done-clause-later g c = c.program_page.ensures.crash.later

pub returns-in-Done-clause-clock : goal.returns-in-Done-clause-clock
returns-in-Done-clause-clock g c = (λ moved. c.in-Done.ensures.clock, λ not. absurd (not tt))

pub returns-in-Done-clause-read_faults : goal.returns-in-Done-clause-read_faults
returns-in-Done-clause-read_faults g c = c.program_page.ensures.read_faults

pub returns-in-Done-clause-write_faults : goal.returns-in-Done-clause-write_faults
returns-in-Done-clause-write_faults g c = done_unfailed c.program_page.ensures.write_faults (λ e. wrote_done_failed (sym c.in-Done.is ∙ e)) moved_fault

pub returns-in-Failed-clause-lands : goal.returns-in-Failed-clause-lands
returns-in-Failed-clause-lands g c =
    landed_none c.args.before c.args.held c.use_copy.ensures.used (room_left c.requires.room) (copy_kept (kept c.args.self.now) c.requires.consistent.formed c.requires.consistent.tied c.requires.room) (copy_behind (kept c.args.self.now) c.requires.consistent.formed c.requires.consistent.tied c.requires.room) (copy_dead (kept c.args.self.now) c.requires.consistent.formed c.requires.consistent.tied c.requires.room)

pub returns-in-Failed-clause-consistent : goal.returns-in-Failed-clause-consistent
returns-in-Failed-clause-consistent g c =
    record { formed = c.use_copy.ensures.formed; tied = c.use_copy.ensures.tied; few = landed_few Fault (returns-in-Failed-clause-lands g c) c.requires.consistent.few }

pub returns-in-Done-clause-lands : goal.returns-in-Done-clause-lands
returns-in-Done-clause-lands g c =
    landed_moved c.args.before c.in-Some.after c.args.held c.in-Some.ensures.some.1 c.use_copy-in-Done.ensures.used c.lead.ensures.led c.requires.victim c.requires.live (room_left c.requires.room) (copy_kept (kept c.args.self.now) c.requires.consistent.formed c.requires.consistent.tied c.requires.room) (copy_behind (kept c.args.self.now) c.requires.consistent.formed c.requires.consistent.tied c.requires.room) (copy_dead (kept c.args.self.now) c.requires.consistent.formed c.requires.consistent.tied c.requires.room)

pub returns-in-Done-clause-consistent : goal.returns-in-Done-clause-consistent
returns-in-Done-clause-consistent g c =
    record { formed = c.lead.ensures.formed; tied = c.lead.ensures.tied; few = landed_few (Moved c.args.before c.in-Some.after c.args.held.tag c.args.held.stamp) (returns-in-Done-clause-lands g c) c.requires.consistent.few }

pub returns-in-Failed-clause-medium : goal.returns-in-Failed-clause-medium
returns-in-Failed-clause-medium g c t =
    let s = kept c.args.self.now in
    let is = c.requires.consistent.formed in
    let tied = c.requires.consistent.tied in
    let room = c.requires.room in
    let held = c.args.held in
    let after = c.in-Some.after in
    let at : after ≡ (seen s).copy_next = c.in-Some.ensures.some.1 in
    let dead = copy_dead s is tied room in
    let value = written (page_with c.args.buf.now.main held.tag held.stamp c.wear-wear.result) in
    let old = g.M.Nand.contents c.args.media.now in
    let new = g.M.Nand.contents c.program_page.new.media in
    let block : after / s.blocks.size ≡ s.target = ap (λ n. n / s.blocks.size) at ∙ copy_block s is tied room in
    let worn : c.wear-wear.result ≡ wear_of (seen s) (after / s.blocks.size) = c.wear-wear.ensures ∙ sym (wear_used (use_in s.blocks (after / s.blocks.size)) (soiled (seen s) (after / s.blocks.size)) (ap (λ (b : ℕ). (use_in s.blocks b).is_kept) block ∙ copy_in_use s is tied room) ∙ (ap (λ (b : ℕ). (use_in s.blocks b).wear) block ∙ ap (λ (u : Use). u.wear) (use_here s.blocks s.target tied.phases.target_in))) in
    let cut : Cut (seen s).copy_next ((seen s).copy_next + 1) value old new = subst (λ n. Cut n (n + 1) value old new) at (c.in-Failed.ensures.effect t) in
    record {
      segment = after_copy c.use_copy.ensures.used (copy_within s is tied room) (copy_kept s is tied room) (copy_behind s is tied room) (c.requires.segment t) cut (λ h none. absurd (cc none));
      alone = tt;
      crash = put_crashes (seen s) after held.tag held.stamp c.wear-wear.result c.args.buf.now.main c.args.buf.now.main c.program_page.result named.Fault (subst (IsDead (seen s)) (sym at) dead) tt
          (λ placed. absurd placed) refl worn c.program_page.ensures.shows c.program_page.ensures.crash (c.program_page.ensures.effect t) c.program_page.ensures.clock;
    }

pub returns-in-Failed-clause-spare : goal.returns-in-Failed-clause-spare
returns-in-Failed-clause-spare g c t shows spare =
    let s = kept c.args.self.now in
    let is = c.requires.consistent.formed in
    let tied = c.requires.consistent.tied in
    let room = c.requires.room in
    let held = c.args.held in
    let after = c.in-Some.after in
    let at : after ≡ (seen s).copy_next = c.in-Some.ensures.some.1 in
    let dead = copy_dead s is tied room in
    let value = written (page_with c.args.buf.now.main held.tag held.stamp c.wear-wear.result) in
    let old = g.M.Nand.contents c.args.media.now in
    let new = g.M.Nand.contents c.program_page.new.media in
    let cut : Cut (seen s).copy_next ((seen s).copy_next + 1) value old new = subst (λ n. Cut n (n + 1) value old new) at (c.in-Failed.ensures.effect t) in
    failed_spare c.use_copy.ensures.used dead (unmoved_held c.use_copy.ensures.used dead.dead) cut spare

pub returns-in-Done-clause-medium : goal.returns-in-Done-clause-medium
returns-in-Done-clause-medium g c t =
    let s = kept c.args.self.now in
    let is = c.requires.consistent.formed in
    let tied = c.requires.consistent.tied in
    let room = c.requires.room in
    let held = c.args.held in
    let after = c.in-Some.after in
    let at : after ≡ (seen s).copy_next = c.in-Some.ensures.some.1 in
    let dead = copy_dead s is tied room in
    let value = written (page_with c.args.buf.now.main held.tag held.stamp c.wear-wear.result) in
    let old = g.M.Nand.contents c.args.media.now in
    let new = g.M.Nand.contents c.program_page.new.media in
    let block : after / s.blocks.size ≡ s.target = ap (λ n. n / s.blocks.size) at ∙ copy_block s is tied room in
    let worn : c.wear-wear.result ≡ wear_of (seen s) (after / s.blocks.size) = c.wear-wear.ensures ∙ sym (wear_used (use_in s.blocks (after / s.blocks.size)) (soiled (seen s) (after / s.blocks.size)) (ap (λ (b : ℕ). (use_in s.blocks b).is_kept) block ∙ copy_in_use s is tied room) ∙ (ap (λ (b : ℕ). (use_in s.blocks b).wear) block ∙ ap (λ (u : Use). u.wear) (use_here s.blocks s.target tied.phases.target_in))) in
    let cut : Cut (seen s).copy_next ((seen s).copy_next + 1) value old new = subst (λ n. Cut n (n + 1) value old new) at (filled_cut (c.in-Done.ensures.effect t)) in
    let has : page_at new (seen s).copy_next ≡ value = subst (λ n. page_at new n ≡ value) at ((c.in-Done.ensures.effect t).inside after one_page.0 one_page.1) in
    let used = c.use_copy-in-Done.ensures.used in
    let led : IsLed c.args.before (seen s).copy_next (seen (kept c.use_copy-in-Done.new.self)) (seen (kept c.lead.new.self)) = subst (λ n. IsLed c.args.before n (seen (kept c.use_copy-in-Done.new.self)) (seen (kept c.lead.new.self))) at c.lead.ensures.led in
    let within = within_mid used c.args.before (within_length s is c.args.before (is.places.each c.args.before held c.requires.live).within) in
    record {
      segment = after_led led within
          (after_copy used (copy_within s is tied room) (copy_kept s is tied room) (copy_behind s is tied room) (c.requires.segment t) cut
          (λ h some. shows_placed held.tag held.stamp h (page_with c.args.buf.now.main held.tag held.stamp c.wear-wear.result) has c.program_page.ensures.shows some));
      alone = subst (λ w. IsAlone after (written (page_with c.args.buf.now.main held.tag held.stamp w)) old new) worn (put_alone (c.in-Done.ensures.effect t));
      crash = put_crashes (seen s) after held.tag held.stamp c.wear-wear.result c.args.buf.now.main c.args.buf.now.main c.program_page.result (Placed (record { name = after; stamp = held.stamp })) (subst (IsDead (seen s)) (sym at) dead) refl
          (λ placed. c.in-Done.is) refl worn c.program_page.ensures.shows c.program_page.ensures.crash (c.program_page.ensures.effect t) c.program_page.ensures.clock;
    }

pub returns-in-Done-clause-spare : goal.returns-in-Done-clause-spare
returns-in-Done-clause-spare g c t shows spare =
    let s = kept c.args.self.now in
    let is = c.requires.consistent.formed in
    let tied = c.requires.consistent.tied in
    let room = c.requires.room in
    let held = c.args.held in
    let after = c.in-Some.after in
    let at : after ≡ (seen s).copy_next = c.in-Some.ensures.some.1 in
    let dead = copy_dead s is tied room in
    let value = written (page_with c.args.buf.now.main held.tag held.stamp c.wear-wear.result) in
    let old = g.M.Nand.contents c.args.media.now in
    let new = g.M.Nand.contents c.program_page.new.media in
    let cut : Cut (seen s).copy_next ((seen s).copy_next + 1) value old new = subst (λ n. Cut n (n + 1) value old new) at (filled_cut (c.in-Done.ensures.effect t)) in
    let has : page_at new (seen s).copy_next ≡ value = subst (λ n. page_at new n ≡ value) at ((c.in-Done.ensures.effect t).inside after one_page.0 one_page.1) in
    let used = c.use_copy-in-Done.ensures.used in
    let led : IsLed c.args.before (seen s).copy_next (seen (kept c.use_copy-in-Done.new.self)) (seen (kept c.lead.new.self)) = subst (λ n. IsLed c.args.before n (seen (kept c.use_copy-in-Done.new.self)) (seen (kept c.lead.new.self))) at c.lead.ensures.led in
    let within = within_mid used c.args.before (within_length s is c.args.before (is.places.each c.args.before held c.requires.live).within) in
    copied_spare used led c.requires.victim dead (copy_within s is tied room) within cut (shows ∙ sym (ap shown_by has ∙ c.program_page.ensures.shows)) spare
