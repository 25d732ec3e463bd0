use Rattle.std.proofs.Common.{◌≡◌, ◌∙◌, Bool, true, false, cond, sym, ap, subst}
use Rattle.nl_field.specs.Page.{page_at}
use Rattle.nl_field.specs.SpareRecord.{spare_rec_of}
use Rattle.nl_map_pages.specs.Judging.{IsJudge}
use Rattle.nl_map_pages.specs.Marks.{is_opened, look_at, look_of, spelled_mark, spelled_wear, written_mark}
use Rattle.nl_map_pages.specs.declared.look.Mark.{Mark}
use Rattle.nl_map_pages.specs.declared.look.Mark.TheVariants as marks
use Rattle.nl_map_pages.proofs.looking.look.Goals.{in-Some, in-None}
use Rattle.nl_map_pages.proofs.looking.look.Goals as goal

pub returns-in-Erased-clause-told : goal.returns-in-Erased-clause-told
unfolding look_of
returns-in-Erased-clause-told g c = λ tells judges. ap (look_at (g.M.Nand.contents c.args.media.now) c.args.page) (sym (c.in-Erased.ensures.answer tells))

pub returns-in-Uncorrectable-clause-told : goal.returns-in-Uncorrectable-clause-told
unfolding look_of
returns-in-Uncorrectable-clause-told g c = λ tells judges. ap (look_at (g.M.Nand.contents c.args.media.now) c.args.page) (sym (c.in-Uncorrectable.ensures.answer tells))

opened : (b : Bool) (x y z : Mark) → b ≡ true → z ≡ x → z ≡ cond b x y
opened b x y z is same = same ∙ (λ i. cond (sym is i) x y)

closed : (b : Bool) (x y z : Mark) → b ≡ false → z ≡ y → z ≡ cond b x y
closed b x y z is same = same ∙ (λ i. cond (sym is i) x y)

pub returns-after-live-clause-told : goal.returns-after-live-clause-told
unfolding look_of
returns-after-live-clause-told g c = λ tells judges.
    let image = g.M.Nand.contents c.args.media.now in
    let page = c.args.page in
    let rec : c.spare_of-rec.result ≡ spare_rec_of c.read.new.buf.spare = c.spare_of-rec.ensures.value ∙ ap spare_rec_of c.spare.ensures in
    let look : (mark : Mark) → mark ≡ written_mark image page c.spare_of-rec.result → record { mark = mark; wear = c.wear_on.result } ≡ look_at image page (page_at image page) =
    λ mark is. (λ i. record { mark = (is ∙ ap (written_mark image page) rec) i; wear = (c.wear_on.ensures ∙ ap spelled_wear rec) i }) ∙ ap (look_at image page) (sym (c.in-Written.ensures.answer tells)) in
    elim c.match-live.branch [
      | in-Some w ↦
          let j = subst (IsJudge image) w.in-Some.is judges in
          look c.match-live.mark (opened (is_opened image) (spelled_mark image page c.spare_of-rec.result) marks.Unjudged c.match-live.mark j.0 (w.mark-is ∙ w.mark-mark.ensures image j.1))
      | in-None w ↦
          let j = subst (IsJudge image) w.in-None.is judges in
          look c.match-live.mark (closed (is_opened image) (spelled_mark image page c.spare_of-rec.result) marks.Unjudged c.match-live.mark j w.mark-is)
    ]
