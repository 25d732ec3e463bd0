use Rattle.std.proofs.Common.{◌≡◌, ◌+◌, ◌/◌, get_or, set, refl, sym, ◌∙◌, ap, subst, arith, length-set, Option, Some}
use Rattle.std.proofs.lemmas.Nat.{div-mul-add}
use Rattle.nl_field.specs.Page.{Page, PageBytes, page_at, written}
use Rattle.nl_nand.specs.ImageLaws.{filled_cut}
use Rattle.nl_nand.specs.Nand.{Cut, Filled}
use Rattle.nl_nand.specs.declared.answers.WriteAnswer.TheVariants.{Done, Failed}
use Rattle.nl_vseg.specs.Maps.{with_at}
use Rattle.nl_vseg.specs.Pages.{page_with}
use Rattle.nl_vseg.specs.Places.{map_of}
use Rattle.nl_vseg.specs.Layout.{Layout, bound, wears_of}
use Rattle.nl_vseg.specs.Seen.{seen}
use Rattle.nl_vseg.specs.Effects.{BlockIsProgrammed}
use Rattle.nl_vseg.specs.Used.{used_of}
use Rattle.nl_vseg.specs.declared.place.Place.{Place}
use Rattle.nl_vseg.proofs.Blocks.{some_free}
use Rattle.nl_vseg.proofs.Counts.{counted_write, rose_counted, ticked_done}
use Rattle.nl_vseg.proofs.Operating.{operates_both, operates_page, operates_still}
use Rattle.nl_vseg.proofs.Small.{fits_then, page_done_failed, page_failed_done}
use Rattle.nl_vseg.proofs.Tries.{used_spends}
use Rattle.nl_vseg.proofs.Using.{numbered, numbered_image, numbered_room, room_next, same_wear, spare_used}
use Rattle.nl_vseg.proofs.Views.{wear_at}
use Rattle.nl_vseg.proofs.Writing.{more, spare_kept, spare_put, stamp_put, put_segment, can_program, after_cut, map_stays, after_new, map_new, programmed, put_either, put_takes, put_leaves}
use Rattle.nl_vseg.proofs.state.State.program.Goals as goal

pub program_page-requires-clause-erased : goal.program_page-requires-clause-erased
program_page-requires-clause-erased g c t =
    let stands = c.requires.stands in
    can_program (seen c.args.self.now) stands.formed.segment c.requires.room c.use_next-page.result c.use_next-page.ensures.page (g.M.Nand.contents c.args.media.now) (stands.segment t)
    ((g.met.M.Nand.contents_fit c.args.media.now t).pages ∙ stands.fits.pages)

pub returns-in-Failed : goal.returns-in-Failed
returns-in-Failed g c =
    let s = c.args.self.now in
    let seg = seen s in
    let stands = c.requires.stands in
    let is = stands.formed.segment in
    let room = c.requires.room in
    let page = c.use_next-page.result in
    let u = c.use_next-page.ensures in
    let table = c.use_next-page.new.blocks in
    let w = c.program_page.ensures in
    let old = g.M.Nand.contents c.args.media.now in
    let new = g.M.Nand.contents c.program_page.new.media in
    let main = c.copy_from.new.self.main in
    let given = c.args.from.now.main in
    let same : main ≡ given = ap (λ (b : PageBytes). b.main) c.copy_from.ensures in
    let value : Page = written (page_with main c.args.vaddr c.args.stamp c.wear-wear.result) in
    let first = u.states.numbers.same_first ∙ is.first in
    let next : Layout = record seg { used = seg.used + 1 } in
    let cut : g.M.Nand.tells → Cut page (page + 1) value old new = c.in-Failed.ensures.effect in
    let rose = rose_counted refl c.in-Failed.ensures.counted.failures in
    record {
      puts = record {
        stands = record {
          formed = record {
            segment = numbered next table u.states u.used.more (more seg is room page u.page);
            rising = u.used.rising;
            copies = stands.formed.copies;
            targets = stands.formed.targets ∙ sym u.states.numbers.same_size;
          };
          fits = fits_then _ _ seg (record next { table = table; used = used_of table s.active }) w.counted.same_geometry u.states.numbers stands.fits;
          segment = λ t. numbered_image next table u.states u.used.more new (after_cut seg is room page u.page old (stands.segment t) value new (cut t));
        };
        spare =
            let free = some_free seg.table is.first c.requires.free in
            spare_used next table (used_of table s.active) u.states (spare_kept seg is room page u.page free.0 free.1 free.2);
        rest = record {
          shape = record { addresses = refl; blocks = u.states.numbers.same_count; pages = u.states.numbers.same_size };
          states = u.states;
          same_active = refl;
          wear = same_wear s.blocks table s.active is.first first u.wears;
        };
        tried = used_spends seg (record next { table = table; used = used_of table s.active }) room (is.taken room) u.states refl u.used.more refl;
        less = ap (λ n. n + 1) (numbered_room next table u.states u.used.more) ∙ room_next seg room c.requires.free;
        writes = record {
          stamps = record { taken = λ done. absurd (page_failed_done done); same = λ undone v. refl };
          value = λ t. record {
            map = λ done. absurd (page_failed_done done);
            same = λ undone v. map_stays seg is room page u.page old (stands.segment t) value new (cut t) v;
            takes = λ done. absurd (page_failed_done done);
            either = put_either seg is room page u.page old (stands.segment t) c.requires.free c.args.vaddr c.args.stamp c.wear-wear.result main given same w.shows new (cut t);
            unused = λ undone unrisen. absurd (unrisen rose);
            crash = put_leaves {contents = g.M.Nand.contents} seg is room page u.page (stands.segment t) c.requires.free c.args.vaddr c.args.stamp c.wear-wear.result main given same w.shows
                _ c.program_page.result (λ done. absurd (page_failed_done done)) w.crash (w.effect t) w.counted.ticks;
          };
          operates =
              let at : page / seg.table.size ≡ seg.active = ap (λ n. n / seg.table.size) u.page ∙ div-mul-add seg.active seg.table.size seg.used room in
              operates_both (operates_page seg.table.size page c.args.vaddr c.args.stamp c.wear-wear.result main c.program_page.result (wears_of seg.table) _ _ _ _
              (ap (λ n. get_or (wears_of seg.table) n 0) at ∙ (wear_at seg.table seg.active is.first ∙ sym c.wear-wear.ensures)) w.counted.ticks w.effect)
              (operates_still _ _ _ _ _ _ u.wears refl refl);
          geometry = w.counted.same_geometry;
          ticks = λ done. absurd (page_failed_done done);
          counts = counted_write Failed w.crash.later w.counted.same_read_faults c.in-Failed.ensures.counted.failures;
        };
        programmed = λ t done. absurd (page_failed_done done);
        failed = λ failed. refl;
        write_fault = λ failed. rose;
      };
    }

pub returns-in-Done : goal.returns-in-Done
returns-in-Done g c =
    let s = c.args.self.now in
    let seg = seen s in
    let stands = c.requires.stands in
    let is = stands.formed.segment in
    let room = c.requires.room in
    let page = c.use_next-page.result in
    let u = c.use_next-page.ensures in
    let table = c.use_next-page.new.blocks in
    let w = c.program_page.ensures in
    let old = g.M.Nand.contents c.args.media.now in
    let new = g.M.Nand.contents c.program_page.new.media in
    let main = c.copy_from.new.self.main in
    let given = c.args.from.now.main in
    let same : main ≡ given = ap (λ (b : PageBytes). b.main) c.copy_from.ensures in
    let value : Page = written (page_with main c.args.vaddr c.args.stamp c.wear-wear.result) in
    let first = u.states.numbers.same_first ∙ is.first in
    let place : Option Place = Some (record { page = page; stamp = c.args.stamp }) in
    let places = set seg.places c.args.vaddr place in
    let next : Layout = record seg { places = places; used = seg.used + 1 } in
    let fill : g.M.Nand.tells → Filled page (page + 1) value old new = c.in-Done.ensures.effect in
    let cut : g.M.Nand.tells → Cut page (page + 1) value old new = λ t. filled_cut (fill t) in
    let has : (t : g.M.Nand.tells) → page_at new page ≡ value = λ t. (fill t).inside page (omega arith) (omega arith) in
    record {
      puts = record {
        stands = record {
          formed = record {
            segment = numbered next table u.states u.used.more (put_segment seg is room page u.page c.args.vaddr c.args.stamp c.requires.vaddr c.requires.stamp);
            rising = u.used.rising;
            copies = stands.formed.copies ∙ sym (length-set seg.places c.args.vaddr place);
            targets = stands.formed.targets ∙ sym u.states.numbers.same_size;
          };
          fits = fits_then _ _ seg (record next { table = table; used = used_of table s.active }) w.counted.same_geometry u.states.numbers stands.fits;
          segment = λ t. numbered_image next table u.states u.used.more new
              (after_new seg is room page u.page old (stands.segment t) value new (cut t) c.args.vaddr c.args.stamp c.wear-wear.result main c.requires.vaddr (has t) w.shows);
        };
        spare =
            let free = some_free seg.table is.first c.requires.free in
            spare_used next table (used_of table s.active) u.states (spare_put seg is room page u.page c.args.vaddr c.args.stamp c.requires.vaddr c.requires.stamp free.0 free.1 free.2);
        rest = record {
          shape = record { addresses = length-set seg.places c.args.vaddr place; blocks = u.states.numbers.same_count; pages = u.states.numbers.same_size };
          states = u.states;
          same_active = refl;
          wear = same_wear s.blocks table s.active is.first first u.wears;
        };
        tried = used_spends seg (record next { table = table; used = used_of table s.active }) room (is.taken room) u.states refl u.used.more refl;
        less = ap (λ n. n + 1) (numbered_room next table u.states u.used.more) ∙ room_next seg room c.requires.free;
        writes = record {
          stamps = record { taken = λ done v. stamp_put seg.places c.args.vaddr page c.args.stamp c.requires.vaddr v; same = λ undone. absurd (undone refl) };
          value = λ t. record {
            map = λ done v. map_new seg is room page u.page old (stands.segment t) value new (cut t) c.args.vaddr c.args.stamp c.wear-wear.result main c.requires.vaddr (has t) w.shows v
                ∙ ap (λ m. with_at (map_of seg.places old) c.args.vaddr (c.args.stamp, m) v) same;
            same = λ undone. absurd (undone refl);
            takes = λ done. put_takes seg is room page u.page old (stands.segment t) c.requires.free c.args.vaddr c.args.stamp c.wear-wear.result main given same w.shows new (fill t);
            either = put_either seg is room page u.page old (stands.segment t) c.requires.free c.args.vaddr c.args.stamp c.wear-wear.result main given same w.shows new (cut t);
            unused = λ undone. absurd (undone refl);
            crash = put_leaves {contents = g.M.Nand.contents} seg is room page u.page (stands.segment t) c.requires.free c.args.vaddr c.args.stamp c.wear-wear.result main given same w.shows
                _ c.program_page.result (λ done. c.in-Done.is) w.crash (w.effect t) w.counted.ticks;
          };
          operates =
              let at : page / seg.table.size ≡ seg.active = ap (λ n. n / seg.table.size) u.page ∙ div-mul-add seg.active seg.table.size seg.used room in
              operates_both (operates_page seg.table.size page c.args.vaddr c.args.stamp c.wear-wear.result main c.program_page.result (wears_of seg.table) _ _ _ _
              (ap (λ n. get_or (wears_of seg.table) n 0) at ∙ (wear_at seg.table seg.active is.first ∙ sym c.wear-wear.ensures)) w.counted.ticks w.effect)
              (operates_still _ _ _ _ _ _ u.wears refl refl);
          geometry = w.counted.same_geometry;
          ticks = λ done. ticked_done (g.M.Nand.clock c.args.media.now) (g.M.Nand.clock c.program_page.new.media) c.in-Done.ensures.counted.ticks;
          counts = counted_write Done w.crash.later w.counted.same_read_faults c.in-Done.ensures.counted.failures;
        };
        programmed = λ t done.
            let p = programmed seg is room page u.page old (stands.segment t) value new (cut t) c.args.vaddr c.args.stamp c.wear-wear.result main c.requires.vaddr (has t) w.shows in
            subst (λ n. BlockIsProgrammed seg.table.size (bound seg) seg.active c.args.vaddr c.args.stamp n given old new) (c.wear-wear.ensures ∙ sym (same_wear seg.table table seg.active is.first first u.wears))
            (subst (λ m. BlockIsProgrammed seg.table.size (bound seg) seg.active c.args.vaddr c.args.stamp c.wear-wear.result m old new) same p);
        failed = λ failed. absurd (page_done_failed failed);
        write_fault = λ failed. absurd (page_done_failed failed);
      };
    }
