use Rattle.nl_pseg.proofs.Small.{room_left, one_page, can_program}
use Rattle.nl_pseg.proofs.Apart.{wrote_done_failed}
use Rattle.nl_pseg.proofs.Medium.{within_medium}
use Rattle.nl_pseg.proofs.Counts.{program_done, program_failed}
use Rattle.std.proofs.Common.{◌≡◌, ℕ, ◌+◌, ◌/◌, refl, sym, ◌∙◌, ap, subst, inl, ◌*◌, ◌<◌}
use Rattle.nl_field.specs.Page.{PageBytes, page_at, written}
use Rattle.nl_nand.specs.ImageLaws.{filled_cut}
use Rattle.nl_nand.specs.Nand.{Cut}
use Rattle.nl_field.specs.declared.answers.Named.TheVariants.{Fault, Placed}
use Rattle.nl_pseg.specs.Steps.{IsAlone}
use Rattle.nl_pseg_pages.specs.Pages.{page_with}
use Rattle.nl_pseg.specs.Segment.{IsDead, IsNextToProgram, wear_of, soiled}
use Rattle.nl_pseg.specs.Seen.{seen}
use Rattle.nl_pseg_blocks.specs.Uses.{Use, use_in}
use Rattle.nl_pseg.proofs.Images.{after_put, put_alone, put_crashes, shows_placed}
use Rattle.nl_pseg.proofs.Placings.{used_failed, used_placed}
use Rattle.nl_pseg.proofs.Segments.{dead_next}
use Rattle.nl_pseg.proofs.States.{is_next, next_block, next_in_use, next_segment, within_length}
use Rattle.nl_pseg_blocks.proofs.Tables.{use_here}
use Rattle.nl_pseg.proofs.Tied.{next_apart, next_copy, next_own}
use Rattle.nl_pseg.proofs.Wearing.{wear_used}
use Rattle.nl_pseg.specs.Kept.{kept}
use Rattle.nl_pseg.proofs.state.State.put.Goals as goal

pub returns-in-Failed-clause-placing : goal.returns-in-Failed-clause-placing
returns-in-Failed-clause-placing g c =
    let s = kept c.args.self.now in
    let is = c.requires.formed in
    let room = c.requires.room in
    used_failed c.args.stamp _ c.use_next.ensures.used (room_left room) (next_in_use s is room (seen s).next (is_next s is room)) (λ copy. next_copy s is c.requires.tied room (seen s).next (is_next s is room) copy) (dead_next (seen s) is.places (seen s).next (is_next s is c.requires.room))

pub returns-in-Done-clause-placing : goal.returns-in-Done-clause-placing
returns-in-Done-clause-placing g c =
    let s = kept c.args.self.now in
    let is = c.requires.formed in
    let room = c.requires.room in
    let at : c.in-Some.page ≡ (seen s).next = c.in-Some.ensures.some.1 in
    let next = is_next s is c.requires.room in
    let dead : IsDead (seen s) (seen s).next = record { within = next_segment s is c.requires.room (seen s).next next; dead = dead_next (seen s) is.places (seen s).next next; own = next_own s is c.requires.tied (seen s).next next; apart = next_apart s is c.requires.tied c.requires.room (seen s).next next } in
    used_placed (c.in-Some.page) c.args.stamp at c.use_next-in-Done.ensures.used (room_left room) (next_in_use s is room (seen s).next next) (λ copy. next_copy s is c.requires.tied room (seen s).next next copy) (subst (IsDead (seen s)) (sym at) dead)

pub next_page-requires : goal.next_page-requires
next_page-requires g c = c.requires.formed.active_in

pub wear-wear-requires : goal.wear-wear-requires
wear-wear-requires g c = c.requires.formed.active_in

pub program_page-requires-clause-within : goal.program_page-requires-clause-within
program_page-requires-clause-within g c =
    let s = kept c.args.self.now in
    let w = next_segment s c.requires.formed c.requires.room (seen s).next (is_next s c.requires.formed c.requires.room) in
    within_medium c.requires.fits c.in-Some.page (subst (λ n. n < (seen s).blocks * (seen s).size) (sym c.in-Some.ensures.some.1) w.1)

pub program_page-requires-clause-erased : goal.program_page-requires-clause-erased
program_page-requires-clause-erased g c t =
    let s = kept c.args.self.now in
    let fit = g.met.M.Nand.contents_fit c.args.media.now t in
    can_program s.active (fit.pages ∙ c.requires.fits.pages) c.requires.room c.in-Some.ensures.some.1 (λ p from below. (c.requires.segment t).blank p (inl (from, below)))

pub program_page-requires-clause-spelled : goal.program_page-requires-clause-spelled
program_page-requires-clause-spelled g c = c.requires.stamp

pub use_next-requires-clause-formed : goal.use_next-requires-clause-formed
use_next-requires-clause-formed g c = c.requires.formed

pub use_next-requires-clause-tied : goal.use_next-requires-clause-tied
use_next-requires-clause-tied g c = c.requires.tied

pub use_next-requires-clause-room : goal.use_next-requires-clause-room
use_next-requires-clause-room g c = c.requires.room

pub use_next-requires-clause-next : goal.use_next-requires-clause-next
use_next-requires-clause-next g c = c.in-Some.ensures.some.1

pub use_next-requires-in-Done-clause-formed : goal.use_next-requires-in-Done-clause-formed
use_next-requires-in-Done-clause-formed g c = c.requires.formed

pub use_next-requires-in-Done-clause-tied : goal.use_next-requires-in-Done-clause-tied
use_next-requires-in-Done-clause-tied g c = c.requires.tied

pub use_next-requires-in-Done-clause-room : goal.use_next-requires-in-Done-clause-room
use_next-requires-in-Done-clause-room g c = c.requires.room

pub use_next-requires-in-Done-clause-next : goal.use_next-requires-in-Done-clause-next
use_next-requires-in-Done-clause-next g c = c.in-Some.ensures.some.1

pub use_next-requires-in-Done-clause-spelled : goal.use_next-requires-in-Done-clause-spelled
use_next-requires-in-Done-clause-spelled g c = c.requires.stamp

pub returns-in-Failed-clause-formed : goal.returns-in-Failed-clause-formed
returns-in-Failed-clause-formed g c = c.use_next.ensures.formed

pub returns-in-Failed-clause-tied : goal.returns-in-Failed-clause-tied
returns-in-Failed-clause-tied g c = c.use_next.ensures.tied

pub returns-in-Failed-clause-tried : goal.returns-in-Failed-clause-tried
returns-in-Failed-clause-tried g c = tt

pub returns-in-Failed-clause-next : goal.returns-in-Failed-clause-next
returns-in-Failed-clause-next g c = tt

pub returns-in-Failed-clause-geometry : goal.returns-in-Failed-clause-geometry
returns-in-Failed-clause-geometry g c = c.program_page.ensures.geometry

pub returns-in-Failed-clause-counts : goal.returns-in-Failed-clause-counts
returns-in-Failed-clause-counts g c = program_failed c.in-Failed.ensures.clock c.program_page.ensures.read_faults c.program_page.ensures.write_faults c.in-Failed.is

pub returns-in-Done-clause-formed : goal.returns-in-Done-clause-formed
returns-in-Done-clause-formed g c = c.use_next-in-Done.ensures.formed

pub returns-in-Done-clause-tied : goal.returns-in-Done-clause-tied
returns-in-Done-clause-tied g c = c.use_next-in-Done.ensures.tied

pub returns-in-Done-clause-tried : goal.returns-in-Done-clause-tried
returns-in-Done-clause-tried g c = tt

pub returns-in-Done-clause-next : goal.returns-in-Done-clause-next
returns-in-Done-clause-next g c = c.in-Some.ensures.some.1

pub returns-in-Done-clause-geometry : goal.returns-in-Done-clause-geometry
returns-in-Done-clause-geometry g c = c.program_page.ensures.geometry

pub returns-in-Done-clause-counts : goal.returns-in-Done-clause-counts
returns-in-Done-clause-counts g c = program_done (record { name = c.in-Some.page; stamp = c.args.stamp }) c.program_page.ensures.crash.later c.in-Done.ensures.clock c.program_page.ensures.read_faults c.program_page.ensures.write_faults (λ e. wrote_done_failed (sym c.in-Done.is ∙ e))

pub returns-in-Failed-clause-medium : goal.returns-in-Failed-clause-medium
returns-in-Failed-clause-medium g c t =
    let s = kept c.args.self.now in
    let is = c.requires.formed in
    let room = c.requires.room in
    let page = c.in-Some.page in
    let at : page ≡ (seen s).next = c.in-Some.ensures.some.1 in
    let here = is_next s is room in
    let next = subst (IsNextToProgram (seen s)) (sym at) here in
    let dead : IsDead (seen s) page = record { within = next_segment s is room page next; dead = dead_next (seen s) is.places page next; own = next_own s is c.requires.tied page next; apart = next_apart s is c.requires.tied room page next } in
    let worn : c.wear-wear.result ≡ wear_of (seen s) (page / s.blocks.size) = c.wear-wear.ensures ∙ sym (wear_used (use_in s.blocks (page / s.blocks.size)) (soiled (seen s) (page / s.blocks.size)) (next_in_use s is room page next) ∙ (ap (λ (b : ℕ). (use_in s.blocks b).wear) (next_block s is room page next) ∙ ap (λ (u : Use). u.wear) (use_here s.blocks s.active is.active_in))) in
    let main = ap (λ (b : PageBytes). b.main) c.copy_from.ensures in
    let value = written (page_with c.copy_from.new.self.main c.args.tag c.args.stamp c.wear-wear.result) in
    let old = g.M.Nand.contents c.args.media.now in
    let new = g.M.Nand.contents c.program_page.new.media in
    record {
      segment = after_put c.use_next.ensures.used (within_length s is (seen s).next (next_segment s is room (seen s).next here)) (next_in_use s is room (seen s).next here) (λ copy. next_copy s is c.requires.tied room (seen s).next here copy) (c.requires.segment t)
          (subst (λ n. Cut n (n + 1) value old new) at (c.in-Failed.ensures.effect t))
          (λ h none. absurd (cc none));
      alone = tt;
      crash = put_crashes (seen s) page c.args.tag c.args.stamp c.wear-wear.result c.copy_from.new.self.main c.args.from.now.main c.program_page.result Fault dead tt
          (λ placed. absurd placed) main worn c.program_page.ensures.shows c.program_page.ensures.crash (c.program_page.ensures.effect t) c.program_page.ensures.clock;
    }

pub returns-in-Done-clause-medium : goal.returns-in-Done-clause-medium
returns-in-Done-clause-medium g c t =
    let s = kept c.args.self.now in
    let is = c.requires.formed in
    let room = c.requires.room in
    let page = c.in-Some.page in
    let at : page ≡ (seen s).next = c.in-Some.ensures.some.1 in
    let here = is_next s is room in
    let next = subst (IsNextToProgram (seen s)) (sym at) here in
    let dead : IsDead (seen s) page = record { within = next_segment s is room page next; dead = dead_next (seen s) is.places page next; own = next_own s is c.requires.tied page next; apart = next_apart s is c.requires.tied room page next } in
    let worn : c.wear-wear.result ≡ wear_of (seen s) (page / s.blocks.size) = c.wear-wear.ensures ∙ sym (wear_used (use_in s.blocks (page / s.blocks.size)) (soiled (seen s) (page / s.blocks.size)) (next_in_use s is room page next) ∙ (ap (λ (b : ℕ). (use_in s.blocks b).wear) (next_block s is room page next) ∙ ap (λ (u : Use). u.wear) (use_here s.blocks s.active is.active_in))) in
    let main = ap (λ (b : PageBytes). b.main) c.copy_from.ensures in
    let value = written (page_with c.copy_from.new.self.main c.args.tag c.args.stamp c.wear-wear.result) in
    let old = g.M.Nand.contents c.args.media.now in
    let new = g.M.Nand.contents c.program_page.new.media in
    let filled = c.in-Done.ensures.effect t in
    let has : page_at new (seen s).next ≡ value = subst (λ n. page_at new n ≡ value) at (filled.inside page one_page.0 one_page.1) in
    record {
      segment = after_put c.use_next-in-Done.ensures.used (within_length s is (seen s).next (next_segment s is room (seen s).next here)) (next_in_use s is room (seen s).next here) (λ copy. next_copy s is c.requires.tied room (seen s).next here copy) (c.requires.segment t)
          (subst (λ n. Cut n (n + 1) value old new) at (filled_cut filled))
          (λ h some. shows_placed c.args.tag c.args.stamp h (page_with c.copy_from.new.self.main c.args.tag c.args.stamp c.wear-wear.result) has c.program_page.ensures.shows some);
      alone = subst (λ v. IsAlone page v old new) (λ i. written (page_with (main i) c.args.tag c.args.stamp (worn i))) (put_alone filled);
      crash = put_crashes (seen s) page c.args.tag c.args.stamp c.wear-wear.result c.copy_from.new.self.main c.args.from.now.main c.program_page.result (Placed (record { name = page; stamp = c.args.stamp })) dead refl
          (λ placed. c.in-Done.is) main worn c.program_page.ensures.shows c.program_page.ensures.crash (c.program_page.ensures.effect t) c.program_page.ensures.clock;
    }
