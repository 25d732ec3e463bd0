use Rattle.std.proofs.Common.{true, false, refl, ◌∙◌, ap}
use Rattle.std.proofs.lemmas.Bool.{true≢false}
use Rattle.nl_nand.specs.declared.answers.WriteAnswer.TheVariants.{Done, Failed}
use Rattle.nl_nand.specs.ImageLaws.{filled_cut}
use Rattle.nl_vseg.specs.Layout.{closed}
use Rattle.nl_vseg.specs.Used.{used_of}
use Rattle.nl_vseg.specs.Seen.{seen}
use Rattle.nl_vseg.proofs.Cleaning.{values_erased}
use Rattle.nl_vseg.proofs.Copies.{taken_beside}
use Rattle.nl_vseg.proofs.Places.{beside_of}
use Rattle.nl_vseg.proofs.Segments.{erase_segment, erased_inside, erased_outside}
use Rattle.nl_vseg.proofs.Small.{page_done_failed, page_failed_done}
use Rattle.nl_vseg.proofs.state.State.erase_active.Goals as goal

pub returns-in-Done : goal.returns-in-Done
returns-in-Done g c =
    let seg = seen c.args.self.now in
    let block = c.args.self.now.active in
    let formed = c.requires.formed in
    let fits = c.requires.fits in
    let worn = c.set_worn.ensures in
    let pages = (g.M.Nand.geometry c.args.media.now).pages in
    record {
      keeps = values_erased g.M.Nand c.args.self.now c.set_worn.new.self block Done formed fits (λ t. (c.requires.segment t).holds) formed.segment.active_is c.requires.unmapped
          c.erase.ensures.crash c.in-Done.ensures.effect c.in-Done.ensures.counted worn.places worn.states.numbers worn.worn worn.formed
          (λ t. erase_segment (closed seg) (seen c.set_worn.new.self) block pages false (g.M.Nand.contents c.args.media.now) (g.M.Nand.contents c.erase.new.self)
          formed.segment.some fits.pages worn.places c.requires.unmapped (filled_cut (c.in-Done.ensures.effect t)) (λ e. c.in-Done.ensures.effect t)
          (λ p taken. ((λ at. refl), (λ ne. taken_beside (closed seg) seg.used p (worn.erased p taken ne) ne))) (c.requires.segment t));
      places = worn.places;
      active = worn.active;
      kept = λ done. worn.states;
      used = λ done. worn.used;
      given = λ failed. absurd (page_done_failed failed);
      cleaned = λ done. worn.marks;
      soiled = λ failed. absurd (page_done_failed failed);
      blank = λ t done p at. erased_inside block pages c.args.self.now.blocks.size fits.pages (c.in-Done.ensures.effect t) formed.segment.some p at;
      others = λ t p ne. erased_outside block pages c.args.self.now.blocks.size fits.pages (filled_cut (c.in-Done.ensures.effect t)) p (beside_of p c.args.self.now.blocks.size block ne);
    }

pub returns-in-Failed : goal.returns-in-Failed
returns-in-Failed g c =
    let seg = seen c.args.self.now in
    let block = c.args.self.now.active in
    let formed = c.requires.formed in
    let fits = c.requires.fits in
    let free = c.set_free.ensures.free in
    let pages = (g.M.Nand.geometry c.args.media.now).pages in
    record {
      keeps = values_erased g.M.Nand c.args.self.now c.set_free.new.self block Failed formed fits (λ t. (c.requires.segment t).holds) formed.segment.active_is c.requires.unmapped
          c.erase.ensures.crash c.in-Failed.ensures.effect c.in-Failed.ensures.counted free.same_places free.states.numbers (c.set_free.ensures.kept refl) c.set_free.ensures.formed
          (λ t. erase_segment (closed seg) (seen c.set_free.new.self) block pages true (g.M.Nand.contents c.args.media.now) (g.M.Nand.contents c.erase.new.self)
          formed.segment.some fits.pages free.same_places c.requires.unmapped (c.in-Failed.ensures.effect t) (λ e. absurd (true≢false e))
          (λ p taken. let e = c.set_free.ensures.erased p taken in (e.0, λ ne. taken_beside (closed seg) seg.used p (e.1 ne) ne)) (c.requires.segment t));
      places = free.same_places;
      active = free.same_active;
      kept = λ done. absurd (page_failed_done done);
      used = λ done. absurd (page_failed_done done);
      given = λ failed. record { same_places = free.same_places; closed = ap (used_of c.set_free.new.self.blocks) free.same_active ∙ free.used.full; states = free.states };
      cleaned = λ done. absurd (page_failed_done done);
      soiled = λ failed. c.set_free.ensures.marks;
      blank = λ t done. absurd (page_failed_done done);
      others = λ t p ne. erased_outside block pages c.args.self.now.blocks.size fits.pages (c.in-Failed.ensures.effect t) p (beside_of p c.args.self.now.blocks.size block ne);
    }
