use Rattle.std.proofs.Common.{◌∙◌, ◌+◌, ℕ, length, [], ◌∷◌, sym, ap, subst}
use Rattle.std.proofs.lemmas.List.{length-append}
use Rattle.nl_field.specs.Page.{Image}
use Rattle.nl_map_pages.specs.Judging.{IsJudge}
use Rattle.nl_map_pages.specs.Marks.{look_of}
use Rattle.nl_map_pages.proofs.Lists.{mapped_range}
use Rattle.nl_map_pages.proofs.looking.looks.Goals as goal

pub pages-preserved : goal.pages-preserved
pages-preserved g c =
    let before = c.pages.invariant.reads in
    let reads = c.look.ensures.reads in
    let same = before.same_contents in
    record {
      told = λ tells judges. c.in-Ok-add.ensures
          ∙ mapped_range (look_of (g.M.Nand.contents c.args.media.now)) c.pages.page c.in-Some.look c.pages.looks.items (c.pages.invariant.told tells judges)
          (c.in-Some.ensures.told tells (subst (λ (x : Image). IsJudge x c.args.live.now) (sym same) judges) ∙ ap (λ (x : Image). look_of x c.pages.page) same);
      len = ap length c.in-Ok-add.ensures ∙ length-append c.pages.looks.items (c.in-Some.look ∷ []) ∙ ap (λ (n : ℕ). n + 1) c.pages.invariant.len;
      reads = record {
        same_geometry = reads.same_geometry ∙ before.same_geometry;
        same_contents = reads.same_contents ∙ same;
        same_left = record { no_more = λ m x l. before.same_left.no_more m x (reads.same_left.no_more m x l); no_fewer = λ m x l. reads.same_left.no_fewer m x (before.same_left.no_fewer m x l) };
        same_clock = reads.same_clock ∙ before.same_clock;
        same_write_faults = reads.same_write_faults ∙ before.same_write_faults;
      };
      faults = c.in-Some.ensures.faults.stays (λ none. cc) ∙ c.pages.invariant.faults;
    }
