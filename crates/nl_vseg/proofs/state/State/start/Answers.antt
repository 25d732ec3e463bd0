use Rattle.std.proofs.Common.{◌≡◌, ◌⊎◌, inl, inr, ⊎_elim, ◌/◌, ◌<◌, Bool, List, get_or, true, false, length, refl, sym, ◌∙◌, ap, subst}
use Rattle.std.proofs.lemmas.Bool.{cases_eq}
use Rattle.std.proofs.lemmas.List.{get_or_read}
use Rattle.nl_vseg.specs.Copying.{SetsFree}
use Rattle.nl_vseg.specs.Layout.{IsLayoutOf, block_is_free, is_soiled}
use Rattle.nl_vseg.specs.Places.{IsUnmapped}
use Rattle.nl_vseg.specs.Seen.{seen}
use Rattle.nl_vseg.proofs.Blocks.{restated_again, restated_same, restated_then}
use Rattle.nl_vseg.proofs.Cleaning.{formed_opened, stands_spare, values_from, values_still, with_active}
use Rattle.nl_vseg.proofs.Segments.{free_unmapped}
use Rattle.nl_vseg.proofs.Small.{fits_then, page_done_failed}
use Rattle.nl_vseg.proofs.Tries.{closed_takes, opened_takes, soiled_more}
use Rattle.nl_nand.specs.declared.answers.WriteAnswer.{WriteAnswer}
use Rattle.nl_nand.specs.declared.answers.WriteAnswer.TheVariants as page
use Rattle.nl_vseg.proofs.Using.{opened_image, opened_soiled}
use Rattle.nl_vseg.proofs.state.State.start.Goals as goal

done_or_failed : (answer : WriteAnswer) → (answer ≡ page.Done) ⊎ (answer ≡ page.Failed)
done_or_failed page.Done = inl refl
done_or_failed page.Failed = inr refl

pub returns-then-not-index : goal.returns-then-not-index
returns-then-not-index g c =
    let s = c.args.self.now in
    let seg = seen s in
    let stands = c.requires.stands in
    let e = c.take-block.ensures in
    let u = with_active s c.take-block.new.blocks c.take-block.result in
    record {
      keeps = values_still g.M.Nand s u (stands_spare g.M.Nand stands c.requires.free) stands
          (record {
            formed = formed_opened s c.take-block.new.blocks c.take-block.result stands.formed e.within e.was_free e.taken e.used;
            fits = fits_then _ _ seg (seen u) refl e.taken.numbers stands.fits;
            segment = λ t.
                let within : c.take-block.result < length seg.soiled = subst (λ n. c.take-block.result < n) (sym stands.formed.segment.marks) e.within in
                let no : c.index.result.now ≡ false = cc in
                let clean : is_soiled seg c.take-block.result ≡ false = sym (get_or_read seg.soiled c.take-block.result c.index.result.now within c.index.ensures false) ∙ no in
                subst (λ n. IsLayoutOf (g.M.Nand.contents c.args.media.now) (record seg { table = c.take-block.new.blocks; active = c.take-block.result; used = n })) (sym e.used.none)
                (opened_image seg c.take-block.new.blocks c.take-block.result stands.formed.segment e.within e.was_free e.taken (g.M.Nand.contents c.args.media.now) clean (stands.segment t));
          })
          refl e.taken.numbers e.wears page_done_failed;
      places = refl;
      same = λ failed. absurd (page_done_failed failed);
      closed = λ failed. absurd (page_done_failed failed);
      opened = λ done. record { taken = e.taken; begins = e.used.none; was_free = e.was_free };
      takes =
          let within : c.take-block.result < length seg.soiled = subst (λ n. c.take-block.result < n) (sym stands.formed.segment.marks) e.within in
          let no : c.index.result.now ≡ false = cc in
          let clean : is_soiled seg c.take-block.result ≡ false = sym (get_or_read seg.soiled c.take-block.result c.index.result.now within c.index.ensures false) ∙ no in
          opened_takes seg (seen u) c.take-block.result stands.formed.segment.marks e.within e.taken e.was_free refl (inl (clean, refl));
      failed = λ failed. absurd (page_done_failed failed);
      others = λ t done p. inl refl;
    }

pub erase_active-requires : goal.erase_active-requires
erase_active-requires g c =
    let s = c.args.self.now in
    let stands = c.requires.stands in
    let e = c.take-block.ensures in
    record {
      formed = formed_opened s c.take-block.new.blocks c.take-block.result stands.formed e.within e.was_free e.taken e.used;
      fits = fits_then _ _ (seen s) (seen (with_active s c.take-block.new.blocks c.take-block.result)) refl e.taken.numbers stands.fits;
      unmapped = subst (λ n. IsUnmapped n s.places.items c.take-block.result) (sym e.taken.numbers.same_size) (free_unmapped (seen s) stands.formed.segment c.take-block.result e.was_free);
      segment = λ t. opened_soiled (seen s) c.take-block.new.blocks c.take-block.result stands.formed.segment e.within e.was_free e.taken (g.M.Nand.contents c.args.media.now) (stands.segment t);
    }

pub returns : goal.returns
returns g c =
    let s = c.args.self.now in
    let t = c.take-block.ensures in
    let e = c.erase_active.ensures in
    let marks = c.requires.stands.formed.segment.marks in
    let within : c.take-block.result < length s.soiled.items = subst (λ n. c.take-block.result < n) (sym marks) t.within in
    let yes : c.index.result.now ≡ true = cc in
    let dirty : is_soiled (seen s) c.take-block.result ≡ true = sym (get_or_read s.soiled.items c.take-block.result c.index.result.now within c.index.ensures false) ∙ yes in
    record {
      keeps = values_from g.M.Nand s (with_active s c.take-block.new.blocks c.take-block.result) refl t.taken.numbers t.wears e.keeps;
      places = e.places;
      same = λ failed. restated_same t.was_free (restated_again t.taken (e.given failed).states);
      closed = λ failed. (e.given failed).closed;
      opened = λ done. record {
        taken = subst (λ b. SetsFree b false s.blocks c.erase_active.new.self.blocks) (sym e.active) (restated_then t.taken (e.kept done));
        begins = e.used done ∙ t.used.none;
        was_free = ap (block_is_free s.blocks) e.active ∙ t.was_free;
      };
      takes = ⊎_elim
          (λ done. opened_takes (seen s) (seen c.erase_active.new.self) c.take-block.result marks t.within (restated_then t.taken (e.kept done)) t.was_free e.active (inr (dirty, e.cleaned done)))
          (λ failed p taken. inl (closed_takes (seen s) (seen c.erase_active.new.self) (restated_same t.was_free (restated_again t.taken (e.given failed).states)) (e.given failed).closed
          (λ b clean. soiled_more s.soiled.items c.take-block.result b within (subst (λ (l : List Bool). get_or l b false ≡ false) (e.soiled failed) clean)) p taken))
          (done_or_failed c.erase_active.result);
      failed = λ failed. (c.take-block.result, dirty);
      others = λ told done p.
          let size = t.taken.numbers.same_size in
          elim (cases_eq (p / c.take-block.new.blocks.size) c.take-block.result) [
            | inl at ↦ inr (ap (λ n. p / n) (sym size) ∙ (at ∙ sym e.active), e.blank told done p at)
            | inr ne ↦ inl (e.others told p ne)
          ];
    }
