use Rattle.std.proofs.Common.{true, false, refl}
use Rattle.std.proofs.lemmas.Bool.{true≢false}
use Rattle.nl_nand.specs.declared.answers.WriteAnswer.TheVariants.{Done, Failed}
use Rattle.nl_nand.specs.ImageLaws.{filled_cut}
use Rattle.nl_vseg.specs.Seen.{seen}
use Rattle.nl_vseg.proofs.Cleaning.{values_erased}
use Rattle.nl_vseg.proofs.Places.{beside_of}
use Rattle.nl_vseg.proofs.Segments.{erase_segment, erased_inside, erased_outside}
use Rattle.nl_vseg.proofs.Small.{page_failed_done}
use Rattle.nl_vseg.proofs.state.State.erase.Goals as goal

pub returns-in-Done : goal.returns-in-Done
returns-in-Done g c =
    let formed = c.requires.stands.formed in
    let fits = c.requires.stands.fits in
    let free = c.set_free.ensures.free in
    let pages = (g.M.Nand.geometry c.args.media.now).pages in
    record {
      keeps = values_erased g.M.Nand c.args.self.now c.set_free.new.self c.args.block Done formed fits (λ t. (c.requires.stands.segment t).holds) c.requires.within c.requires.unmapped
          c.erase.ensures.crash c.in-Done.ensures.effect c.in-Done.ensures.counted free.same_places free.states.numbers (c.set_free.ensures.worn refl) c.set_free.ensures.formed
          (λ t. erase_segment (seen c.args.self.now) (seen c.set_free.new.self) c.args.block pages false (g.M.Nand.contents c.args.media.now) (g.M.Nand.contents c.erase.new.self)
          formed.segment.some fits.pages free.same_places c.requires.unmapped (filled_cut (c.in-Done.ensures.effect t)) (λ e. c.in-Done.ensures.effect t) c.set_free.ensures.erased (c.requires.stands.segment t));
      free = free;
      blank = λ t done p at. erased_inside c.args.block pages c.args.self.now.blocks.size fits.pages (c.in-Done.ensures.effect t) formed.segment.some p at;
      others = λ t p ne. erased_outside c.args.block pages c.args.self.now.blocks.size fits.pages (filled_cut (c.in-Done.ensures.effect t)) p (beside_of p c.args.self.now.blocks.size c.args.block ne);
    }

pub returns-in-Failed : goal.returns-in-Failed
returns-in-Failed g c =
    let formed = c.requires.stands.formed in
    let fits = c.requires.stands.fits in
    let free = c.set_free-in-Failed.ensures.free in
    let pages = (g.M.Nand.geometry c.args.media.now).pages in
    record {
      keeps = values_erased g.M.Nand c.args.self.now c.set_free-in-Failed.new.self c.args.block Failed formed fits (λ t. (c.requires.stands.segment t).holds) c.requires.within c.requires.unmapped
          c.erase.ensures.crash c.in-Failed.ensures.effect c.in-Failed.ensures.counted free.same_places free.states.numbers (c.set_free-in-Failed.ensures.kept refl) c.set_free-in-Failed.ensures.formed
          (λ t. erase_segment (seen c.args.self.now) (seen c.set_free-in-Failed.new.self) c.args.block pages true (g.M.Nand.contents c.args.media.now) (g.M.Nand.contents c.erase.new.self)
          formed.segment.some fits.pages free.same_places c.requires.unmapped (c.in-Failed.ensures.effect t) (λ e. absurd (true≢false e)) c.set_free-in-Failed.ensures.erased (c.requires.stands.segment t));
      free = free;
      blank = λ t done. absurd (page_failed_done done);
      others = λ t p ne. erased_outside c.args.block pages c.args.self.now.blocks.size fits.pages (c.in-Failed.ensures.effect t) p (beside_of p c.args.self.now.blocks.size c.args.block ne);
    }
