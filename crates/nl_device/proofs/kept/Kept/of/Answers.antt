use Rattle.std.proofs.Common.{◌≡◌, ◌*◌, ◌∙◌, ◌∷◌, ◌++◌, [], ap, refl, subst, sym}
use Rattle.std.proofs.Common.{All, Global, Vec, arith, length, nat_cmp, ◌+◌, ◌<◌, ◌^◌}
use Rattle.std.specs.BTreeMap.{get}
use Rattle.std.specs.List.{AllPairs}
use Rattle.nl_scan.specs.Tables.{IsSeen}
use Rattle.nl_device.specs.Kept.{CopiesAreNoted, IsOfSegment, copies_of, kept_pages}
use Rattle.nl_device.specs.declared.kept.page.KeptPage.{KeptPage}
use Rattle.nl_device.proofs.Gathered.{kept_all, kept_none, kept_push, kept_rising, kept_skip, kept_within}
use Rattle.nl_device.proofs.Noting.{noted_more, noted_none}
use Rattle.nl_device.proofs.kept.Kept.of.Goals.{in-Some+in_ok-note-in-Some+in_ok-push-in-Some, in-None}
use Rattle.nl_device.proofs.kept.Kept.of.Goals as goal

pub seen-init : goal.seen-init
seen-init c =
    record {
      low_is = refl;
      gathered = c.new-pages.ensures.items ∙ sym (kept_none (c.args.shape.now.vblocks * c.args.shape.now.pages) c.args.tables.now.seen);
      are_noted = subst (λ l. CopiesAreNoted c.args.shape.now.pages l c.new-copies.result) (sym c.new-pages.ensures.items) (noted_none c.args.shape.now.pages c.new-copies.result c.new-copies.ensures.empty);
    }

pub seen-preserved : goal.seen-preserved
seen-preserved c = elim c.match-kept_from.branch [
  | in-Some+in_ok-note-in-Some+in_ok-push-in-Some w ↦
      let items : c.match-kept_from.pages.items ≡ c.seen.pages.items ++ w.in-Some.page ∷ [] = ap (λ (v : Vec KeptPage Global). v.items) w.pages-is ∙ w.in_ok-push-in-Some.ensures.items in
      record {
        low_is = refl;
        gathered = items ∙ kept_push (c.args.shape.now.vblocks * c.args.shape.now.pages) c.seen.at c.args.tables.now.seen c.get.result.now w.in-Some.page c.seen.pages.items
            c.get.ensures (sym c.kept_from.ensures ∙ w.in-Some.is) c.seen.invariant.gathered;
        are_noted = λ stamp. ap (λ m. get nat_cmp m stamp) w.copies-is
            ∙ noted_more c.args.shape.now.pages c.seen.pages.items w.in-Some.page c.seen.copies w.note.new.copies c.seen.invariant.are_noted w.in_ok-note-in-Some.ensures stamp
            ∙ ap (λ l. copies_of c.args.shape.now.pages l stamp) (sym items);
      }
  | in-None w ↦
      record {
        low_is = refl;
        gathered = ap (λ (v : Vec KeptPage Global). v.items) w.pages-is
            ∙ kept_skip (c.args.shape.now.vblocks * c.args.shape.now.pages) c.seen.at c.args.tables.now.seen c.get.result.now c.seen.pages.items
            c.get.ensures (sym c.kept_from.ensures ∙ w.in-None.is) c.seen.invariant.gathered;
        are_noted = λ stamp. ap (λ m. get nat_cmp m stamp) w.copies-is ∙ c.seen.invariant.are_noted stamp ∙ ap (λ (v : Vec KeptPage Global). copies_of c.args.shape.now.pages v.items stamp) (sym w.pages-is);
      }
]

gathered : (c : goal.In_ok-vec) → c.seen.pages.items ≡ kept_pages (c.args.shape.now.vblocks * c.args.shape.now.pages) c.args.tables.now.seen
gathered c = kept_all (c.args.shape.now.vblocks * c.args.shape.now.pages) c.seen.at c.args.tables.now.seen c.seen.pages.items (omega (arith, c.seen-test.false, c.len-at-end.ensures)) c.seen.invariant.gathered

pub invariant_of-result : goal.invariant_of-result
invariant_of-result c =
    record {
      some = c.requires.some;
      few = subst (λ n. c.args.shape.now.vblocks + n < 2 ^ 32) (sym (sym c.in_ok-vec.field-0.ok.0 ∙ c.in_ok-vec.ensures.len)) c.requires.few;
      rising = subst (AllPairs (λ a b. a.page < b.page)) (sym (gathered c)) (kept_rising (c.args.shape.now.vblocks * c.args.shape.now.pages) c.args.tables.now.seen c.requires.rising);
      within = subst (All (IsOfSegment c.args.shape.now.vblocks (length c.in_ok-vec.field-0.items) c.args.shape.now.pages)) (sym (gathered c))
          (kept_within c.args.shape.now.vblocks (length c.in_ok-vec.field-0.items) c.args.shape.now.pages c.args.tables.now.seen c.requires.some
          (subst (λ n. All (IsSeen ((c.args.shape.now.vblocks + n) * c.args.shape.now.pages)) c.args.tables.now.seen) (sym (sym c.in_ok-vec.field-0.ok.0 ∙ c.in_ok-vec.ensures.len)) c.requires.within));
      noted = c.seen.invariant.are_noted;
    }
