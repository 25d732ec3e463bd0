use Rattle.nl_pseg.proofs.Small.{same_most, none_used, below_count, below_more, clock_same, clock_ticks, clock_stays, not_full, not_left, room_left}
use Rattle.nl_pseg.proofs.Apart.{wrote_done_failed, wrote_failed_done}
use Rattle.nl_pseg.proofs.Medium.{done_unfailed, failed_fault, none_failed}
use Rattle.nl_pseg.proofs.Readied.{taken_formed}
use Rattle.nl_blocks.specs.Used.{is_active_state, used_in}
use Rattle.nl_pseg.proofs.Taking.{again_counted, none_holds, some_holds, taken_counted}
use Rattle.nl_nand.specs.declared.answers.WriteAnswer.TheVariants as wrote
use Rattle.nl_pseg.specs.declared.state.State.{State}
use Rattle.std.proofs.Common.{◌≡◌, inl, inr, ⊎_elim, ℕ, ◌+◌, ◌*◌, ◌/◌, ◌<◌, ◌≤◌, true, false, refl, sym, ◌∙◌, ap, subst, arith, IfNone, Option, is_some}
use Rattle.std.proofs.lemmas.Bool.{cases_eq, true≢false}
use Rattle.nl_field.specs.Page.{Image, erased}
use Rattle.nl_nand.specs.ImageLaws.{filled_cut}
use Rattle.nl_nand.specs.Nand.{Cut}
use Rattle.nl_nand.proofs.Crashes.{operation}
use Rattle.nl_nand.proofs.Crashes as crashes
use Rattle.nl_pseg.specs.Effects.{PreservesSegment}
use Rattle.nl_pseg.specs.Segment.{is_free, is_kept, is_soiled, IsPhysicalOf}
use Rattle.nl_pseg.specs.Seen.{seen, IsPhysicalFormed, IsTied}
use Rattle.nl_pseg.specs.Steps.{OpensFreeBlock, OpensForProgram, opened_at}
use Rattle.nl_pseg_blocks.specs.Uses.{Use, use_in, SetsUse}
use Rattle.nl_pseg.proofs.Forms.{formed_restated, formed_same, same_pages, same_unspent}
use Rattle.nl_pseg.proofs.Images.{erase_keeps, erase_others, failed_segment, keeps_nothing, opened_segment}
use Rattle.nl_pseg.proofs.Numbers.{in_block}
use Rattle.nl_pseg.proofs.Openings.{free_use, last_block, opened, opened_block, two_free}
use Rattle.nl_pseg_blocks.proofs.Tables.{free_kept, has_same, restated_again, restated_same}
use Rattle.nl_pseg.proofs.Taken.{free_again}
use Rattle.nl_pseg.proofs.Tied.{free_apart, free_copy, free_own}
use Rattle.nl_pseg.proofs.Wearing.{taken_clean, taken_soiled}
use Rattle.nl_pseg.specs.Kept.{kept, Kept}
use Rattle.nl_pseg.proofs.state.State.start.Goals as goal

full_is : (s : State) (next : Option ℕ) → IfNone next (used_in is_active_state s.blocks s.active ≡ s.blocks.size) → is_some next ≡ false → s.blocks.size ≤ (kept s).used
full_is s next holds none = let e = none_holds next _ holds none in omega (arith, e)

pub returns-then-is_some-clause-left : goal.returns-then-is_some-clause-left
returns-then-is_some-clause-left g c done =
    some_holds c.next_page.result _ _ c.next_page.ensures.some (sym c.is_some.ensures ∙ c.if-is_some.true)

pub write_to-requires-clause-formed : goal.write_to-requires-clause-formed
write_to-requires-clause-formed g c =
    let s = kept c.args.self.now in
    let is = c.requires.formed in
    let t = c.take-block.new.blocks in
    let r = c.take-block.ensures.taken in
    subst (λ (k : Kept). IsPhysicalFormed (record k { blocks = t })) (taken_counted c.args.self.now is c.requires.tied t r.numbers (full_is c.args.self.now c.next_page.result c.next_page.ensures.none (sym c.is_some.ensures ∙ c.if-is_some.false)) c.take-block.ensures.filled)
    (taken_formed s is c.take-block.result c.take-block.ensures.has c.take-block.ensures.was_free t r)

pub write_to-requires-in-Done-clause-formed : goal.write_to-requires-in-Done-clause-formed
write_to-requires-in-Done-clause-formed g c =
    let s = kept c.args.self.now in
    let is = c.requires.formed in
    let t = c.wear_out.new.blocks in
    let r = restated_again c.take-block.ensures.taken c.wear_out.ensures.worn in
    subst (λ (k : Kept). IsPhysicalFormed (record k { blocks = t })) (taken_counted c.args.self.now is c.requires.tied t r.numbers (full_is c.args.self.now c.next_page.result c.next_page.ensures.none (sym c.is_some.ensures ∙ c.if-is_some.false)) (λ b has. c.wear_out.ensures.fill.filled b (has_same b c.take-block.ensures.taken.numbers has) ∙ c.take-block.ensures.filled b has))
    (taken_formed s is c.take-block.result c.take-block.ensures.has c.take-block.ensures.was_free t r)

pub write_to-requires-in-Done-clause-unused : goal.write_to-requires-in-Done-clause-unused
write_to-requires-in-Done-clause-unused g c =
    c.wear_out.ensures.fill.used c.take-block.result (has_same c.take-block.result c.take-block.ensures.taken.numbers c.take-block.ensures.has) ∙ c.take-block.ensures.used

pub write_to-requires-clause-taking : goal.write_to-requires-clause-taking
write_to-requires-clause-taking g c =
    let s = c.args.self.now in
    let t = c.take-block.new.blocks in
    let r = c.take-block.ensures.taken in
    record {
      table = s.blocks;
      wear = _;
      tied = subst IsTied (taken_counted s c.requires.formed c.requires.tied t r.numbers (full_is c.args.self.now c.next_page.result c.next_page.ensures.none (sym c.is_some.ensures ∙ c.if-is_some.false)) c.take-block.ensures.filled) c.requires.tied;
      restated = r;
      had = c.take-block.ensures.has;
      was_free = c.take-block.ensures.was_free;
      full = same_most;
    }

pub write_to-requires-in-Done-clause-taking : goal.write_to-requires-in-Done-clause-taking
write_to-requires-in-Done-clause-taking g c =
    let s = c.args.self.now in
    let t = c.wear_out.new.blocks in
    let r = restated_again c.take-block.ensures.taken c.wear_out.ensures.worn in
    record {
      table = s.blocks;
      wear = _;
      tied = subst IsTied (taken_counted s c.requires.formed c.requires.tied t r.numbers (full_is c.args.self.now c.next_page.result c.next_page.ensures.none (sym c.is_some.ensures ∙ c.if-is_some.false)) (λ b has. c.wear_out.ensures.fill.filled b (has_same b c.take-block.ensures.taken.numbers has) ∙ c.take-block.ensures.filled b has)) c.requires.tied;
      restated = r;
      had = c.take-block.ensures.has;
      was_free = c.take-block.ensures.was_free;
      full = same_most;
    }

pub write_to-requires-clause-in_use : goal.write_to-requires-clause-in_use
write_to-requires-clause-in_use g c p h named at =
    let s = kept c.args.self.now in
    let here : p / s.blocks.size ≡ c.take-block.result = ap (λ n. p / n) (sym c.take-block.ensures.taken.numbers.same_size) ∙ at in
    true≢false (sym (free_kept s.blocks c.take-block.result c.take-block.ensures.was_free) ∙ (ap (is_kept (seen s)) (sym here) ∙ (c.requires.formed.places.each p h named).in_use))

pub write_to-requires-in-Done-clause-in_use : goal.write_to-requires-in-Done-clause-in_use
write_to-requires-in-Done-clause-in_use g c p h named at =
    let s = kept c.args.self.now in
    let here : p / s.blocks.size ≡ c.take-block.result = ap (λ n. p / n) (sym (restated_again c.take-block.ensures.taken c.wear_out.ensures.worn).numbers.same_size) ∙ at in
    true≢false (sym (free_kept s.blocks c.take-block.result c.take-block.ensures.was_free) ∙ (ap (is_kept (seen s)) (sym here) ∙ (c.requires.formed.places.each p h named).in_use))

pub returns-then-not-is_soiled-clause-opening : goal.returns-then-not-is_soiled-clause-opening
returns-then-not-is_soiled-clause-opening g c =
    let s = kept c.args.self.now in
    let full : s.blocks.size ≤ s.used = (full_is c.args.self.now c.next_page.result c.next_page.ensures.none (sym c.is_some.ensures ∙ c.if-is_some.false)) in
    let r = taken_clean s c.take-block.new.blocks c.take-block.result (sym c.is_soiled.ensures ∙ c.if-not-is_soiled.true) c.take-block.ensures.taken in
    let formed = formed_restated s c.take-block.new.blocks c.take-block.result _ false c.requires.formed r (λ room. absurd (not_full full room)) (λ yes. absurd (true≢false (sym yes))) in
    inr (
      c.take-block.result,
      subst (OpensFreeBlock c.take-block.result (seen s)) (sym c.write_to.ensures.opened)
          (subst (λ (k : Kept). OpensFreeBlock c.take-block.result (seen s) (opened_at (seen (record k { blocks = c.take-block.new.blocks })) c.take-block.result))
          (taken_counted c.args.self.now c.requires.formed c.requires.tied c.take-block.new.blocks r.numbers full c.take-block.ensures.filled)
          (opened s c.take-block.new.blocks c.take-block.result c.requires.formed full (two_free _ s.used _ full c.requires.room) r c.take-block.ensures.was_free formed)),
    )

pub returns-then-not-is_soiled-clause-medium : goal.returns-then-not-is_soiled-clause-medium
returns-then-not-is_soiled-clause-medium g c t =
    let s = kept c.args.self.now in
    let is = c.requires.formed in
    let block = c.take-block.result in
    let full : s.blocks.size ≤ s.used = (full_is c.args.self.now c.next_page.result c.next_page.ensures.none (sym c.is_some.ensures ∙ c.if-is_some.false)) in
    let r = taken_clean s c.take-block.new.blocks block (sym c.is_soiled.ensures ∙ c.if-not-is_soiled.true) c.take-block.ensures.taken in
    let formed = formed_restated s c.take-block.new.blocks block _ false is r (λ room. absurd (not_full full room)) (λ yes. absurd (true≢false (sym yes))) in
    let o : OpensFreeBlock block (seen s) (seen (kept c.write_to.new.self)) = subst (OpensFreeBlock block (seen s)) (sym c.write_to.ensures.opened)
    (subst (λ (k : Kept). OpensFreeBlock block (seen s) (opened_at (seen (record k { blocks = c.take-block.new.blocks })) block))
    (taken_counted c.args.self.now is c.requires.tied c.take-block.new.blocks r.numbers full c.take-block.ensures.filled)
    (opened s c.take-block.new.blocks block is full (two_free _ s.used _ full c.requires.room) r c.take-block.ensures.was_free formed)) in
    let image = g.M.Nand.contents c.args.media.now in
    let clean : is_soiled (seen s) block ≡ false = sym c.is_soiled.ensures ∙ c.if-not-is_soiled.true in
    record {
      segment = opened_segment o is.some is.places (free_copy s is c.requires.tied block c.take-block.ensures.has c.take-block.ensures.was_free) (c.requires.segment t) (λ p ne. refl)
          (λ p at. (c.requires.segment t).blank p (inr (ap (is_kept (seen s)) at ∙ free_kept s.blocks block c.take-block.ensures.was_free, ap (is_soiled (seen s)) at ∙ clean)));
      keeps = keeps_nothing (seen s) image;
      crash = crashes.start c.args.media.now (λ m i. PreservesSegment (seen s) image i);
      others = λ done p. inl refl;
    }

pub returns-in-Done-clause-opening : goal.returns-in-Done-clause-opening
returns-in-Done-clause-opening g c =
    let s = kept c.args.self.now in
    let full : s.blocks.size ≤ s.used = (full_is c.args.self.now c.next_page.result c.next_page.ensures.none (sym c.is_some.ensures ∙ c.if-is_some.false)) in
    let r = taken_soiled s c.take-block.new.blocks c.wear_out.new.blocks c.take-block.result c.take-block.ensures.was_free (sym c.is_soiled.ensures ∙ c.if-not-is_soiled.false) c.take-block.ensures.taken c.wear_out.ensures.worn in
    let formed = formed_restated s c.wear_out.new.blocks c.take-block.result _ false c.requires.formed r (λ room. absurd (not_full full room)) (λ yes. absurd (true≢false (sym yes))) in
    inr (
      c.take-block.result,
      subst (OpensFreeBlock c.take-block.result (seen s)) (sym c.write_to-in-Done.ensures.opened)
          (subst (λ (k : Kept). OpensFreeBlock c.take-block.result (seen s) (opened_at (seen (record k { blocks = c.wear_out.new.blocks })) c.take-block.result))
          (taken_counted c.args.self.now c.requires.formed c.requires.tied c.wear_out.new.blocks r.numbers full (λ b has. c.wear_out.ensures.fill.filled b (has_same b c.take-block.ensures.taken.numbers has) ∙ c.take-block.ensures.filled b has))
          (opened s c.wear_out.new.blocks c.take-block.result c.requires.formed full (two_free _ s.used _ full c.requires.room) r c.take-block.ensures.was_free formed)),
    )

pub returns-in-Done-clause-medium : goal.returns-in-Done-clause-medium
returns-in-Done-clause-medium g c t =
    let s = kept c.args.self.now in
    let is = c.requires.formed in
    let block = c.take-block.result in
    let full : s.blocks.size ≤ s.used = (full_is c.args.self.now c.next_page.result c.next_page.ensures.none (sym c.is_some.ensures ∙ c.if-is_some.false)) in
    let r = taken_soiled s c.take-block.new.blocks c.wear_out.new.blocks block c.take-block.ensures.was_free (sym c.is_soiled.ensures ∙ c.if-not-is_soiled.false) c.take-block.ensures.taken c.wear_out.ensures.worn in
    let formed = formed_restated s c.wear_out.new.blocks block _ false is r (λ room. absurd (not_full full room)) (λ yes. absurd (true≢false (sym yes))) in
    let o : OpensFreeBlock block (seen s) (seen (kept c.write_to-in-Done.new.self)) = subst (OpensFreeBlock block (seen s)) (sym c.write_to-in-Done.ensures.opened)
    (subst (λ (k : Kept). OpensFreeBlock block (seen s) (opened_at (seen (record k { blocks = c.wear_out.new.blocks })) block))
    (taken_counted c.args.self.now is c.requires.tied c.wear_out.new.blocks r.numbers full (λ b has. c.wear_out.ensures.fill.filled b (has_same b c.take-block.ensures.taken.numbers has) ∙ c.take-block.ensures.filled b has))
    (opened s c.wear_out.new.blocks block is full (two_free _ s.used _ full c.requires.room) r c.take-block.ensures.was_free formed)) in
    let pages = (g.M.Nand.geometry c.args.media.now).pages in
    let filled = c.in-Done.ensures.effect t in
    let dirty : is_soiled (seen s) block ≡ true = sym c.is_soiled.ensures ∙ c.if-not-is_soiled.false in
    let inside = λ (p : ℕ) (at : p / s.blocks.size ≡ block).
    (let w = in_block p s.blocks.size block is.some at in
    filled.inside p (subst (λ n. block * n ≤ p) (sym c.requires.fits.pages) w.0) (subst (λ n. p < block * n + n) (sym c.requires.fits.pages) w.1)) in
    let next = opened_block o is.some in
    let keep = λ (i : Image) (cut : Cut (block * pages) (block * pages + pages) erased (g.M.Nand.contents c.args.media.now) i). erase_keeps (seen s) block pages c.requires.fits.pages (last_block s) is.places (free_kept s.blocks block c.take-block.ensures.was_free) (free_own s is c.requires.tied block c.take-block.ensures.was_free) (free_apart s is c.requires.tied block c.take-block.ensures.has c.take-block.ensures.was_free) cut in
    record {
      segment = opened_segment o is.some is.places (free_copy s is c.requires.tied block c.take-block.ensures.has c.take-block.ensures.was_free) (c.requires.segment t) (erase_others block pages s.blocks.size c.requires.fits.pages (filled_cut filled)) inside;
      keeps = keep _ (filled_cut filled);
      crash = operation c.erase.result (λ i. PreservesSegment (seen s) (g.M.Nand.contents c.args.media.now) i) c.erase.ensures.crash (c.erase.ensures.effect t) keep;
      others = λ done p. ⊎_elim
          (λ at. inr (at ∙ sym next, ap (is_free (seen s)) next ∙ c.take-block.ensures.was_free, ap (is_soiled (seen s)) next ∙ dirty, inside p at))
          (λ ne. inl (erase_others block pages s.blocks.size c.requires.fits.pages (filled_cut filled) p ne))
          (cases_eq (p / s.blocks.size) block);
    }

pub returns-in-Done-clause-ready : goal.returns-in-Done-clause-ready
returns-in-Done-clause-ready g c ready =
    let s = kept c.args.self.now in
    let block = c.take-block.result in
    let dirty : is_soiled (seen s) block ≡ true = sym c.is_soiled.ensures ∙ c.if-not-is_soiled.false in
    absurd (⊎_elim
    (λ lt. not_left (full_is c.args.self.now c.next_page.result c.next_page.ensures.none (sym c.is_some.ensures ∙ c.if-is_some.false)) lt)
    (λ clean. true≢false (sym dirty ∙ clean block (free_kept s.blocks block c.take-block.ensures.was_free)))
    ready)

pub returns-in-Failed-clause-ready : goal.returns-in-Failed-clause-ready
returns-in-Failed-clause-ready g c ready =
    let s = kept c.args.self.now in
    let block = c.take-block.result in
    let dirty : is_soiled (seen s) block ≡ true = sym c.is_soiled.ensures ∙ c.if-not-is_soiled.false in
    absurd (⊎_elim
    (λ lt. not_left (full_is c.args.self.now c.next_page.result c.next_page.ensures.none (sym c.is_some.ensures ∙ c.if-is_some.false)) lt)
    (λ clean. true≢false (sym dirty ∙ clean block (free_kept s.blocks block c.take-block.ensures.was_free)))
    ready)

pub returns-in-Failed-clause-formed : goal.returns-in-Failed-clause-formed
returns-in-Failed-clause-formed g c =
    let s = kept c.args.self.now in
    let is = c.requires.formed in
    let block = c.take-block.result in
    let mid = c.take-block.new.blocks in
    let t = c.give_back.new.blocks in
    let r = c.take-block.ensures.taken in
    let back : SetsUse block true (use_in s.blocks block).wear mid t = subst (λ n. SetsUse block true n mid t) (ap (λ (u : Use). u.wear) r.here) c.give_back.ensures in
    let whole = restated_again r back in
    let same = restated_same (free_use s block is c.take-block.ensures.was_free) whole in
    let counted = again_counted c.args.self.now is c.requires.tied block _ c.take-block.ensures.has c.take-block.ensures.was_free t whole in
    subst (λ (k : Kept). IsPhysicalFormed (record k { blocks = t })) counted (formed_same s t is same whole.marks (λ room. absurd (not_full (full_is c.args.self.now c.next_page.result c.next_page.ensures.none (sym c.is_some.ensures ∙ c.if-is_some.false)) room)))

pub returns-in-Failed-clause-tied : goal.returns-in-Failed-clause-tied
returns-in-Failed-clause-tied g c =
    let s = kept c.args.self.now in
    let is = c.requires.formed in
    let block = c.take-block.result in
    let mid = c.take-block.new.blocks in
    let t = c.give_back.new.blocks in
    let r = c.take-block.ensures.taken in
    let back : SetsUse block true (use_in s.blocks block).wear mid t = subst (λ n. SetsUse block true n mid t) (ap (λ (u : Use). u.wear) r.here) c.give_back.ensures in
    let whole = restated_again r back in
    let same = restated_same (free_use s block is c.take-block.ensures.was_free) whole in
    let counted = again_counted c.args.self.now is c.requires.tied block _ c.take-block.ensures.has c.take-block.ensures.was_free t whole in
    subst (λ (k : Kept). IsTied (record k { blocks = t })) counted (free_again s c.requires.tied t same block c.take-block.ensures.has c.take-block.ensures.was_free whole.states)

pub returns-in-Failed-clause-opening : goal.returns-in-Failed-clause-opening
returns-in-Failed-clause-opening g c =
    let s = kept c.args.self.now in
    let is = c.requires.formed in
    let block = c.take-block.result in
    let mid = c.take-block.new.blocks in
    let t = c.give_back.new.blocks in
    let r = c.take-block.ensures.taken in
    let back : SetsUse block true (use_in s.blocks block).wear mid t = subst (λ n. SetsUse block true n mid t) (ap (λ (u : Use). u.wear) r.here) c.give_back.ensures in
    let whole = restated_again r back in
    let same = restated_same (free_use s block is c.take-block.ensures.was_free) whole in
    let counted = again_counted c.args.self.now is c.requires.tied block _ c.take-block.ensures.has c.take-block.ensures.was_free t whole in
    let dirty : is_soiled (seen s) block ≡ true = sym c.is_soiled.ensures ∙ c.if-not-is_soiled.false in
    subst (λ (k : Kept). OpensForProgram wrote.Failed (seen s) (seen (record k { blocks = t }))) counted (
      same_pages s t same,
      refl,
      same_unspent s t same,
      λ ready. ⊎_elim
          (λ lt. not_left (full_is c.args.self.now c.next_page.result c.next_page.ensures.none (sym c.is_some.ensures ∙ c.if-is_some.false)) lt)
          (λ clean. true≢false (sym dirty ∙ clean block (free_kept s.blocks block c.take-block.ensures.was_free)))
          ready,
      record { same_pairs = refl; same_pair_room = refl; same_victim = refl; copies = (same_unspent s t same).copies },
    )

pub returns-in-Failed-clause-medium : goal.returns-in-Failed-clause-medium
returns-in-Failed-clause-medium g c tells =
    let s = kept c.args.self.now in
    let is = c.requires.formed in
    let block = c.take-block.result in
    let mid = c.take-block.new.blocks in
    let t = c.give_back.new.blocks in
    let r = c.take-block.ensures.taken in
    let back : SetsUse block true (use_in s.blocks block).wear mid t = subst (λ n. SetsUse block true n mid t) (ap (λ (u : Use). u.wear) r.here) c.give_back.ensures in
    let whole = restated_again r back in
    let same = restated_same (free_use s block is c.take-block.ensures.was_free) whole in
    let counted = again_counted c.args.self.now is c.requires.tied block _ c.take-block.ensures.has c.take-block.ensures.was_free t whole in
    let pages = (g.M.Nand.geometry c.args.media.now).pages in
    let cut = c.in-Failed.ensures.effect tells in
    let dirty : is_soiled (seen s) block ≡ true = sym c.is_soiled.ensures ∙ c.if-not-is_soiled.false in
    let keep = λ (i : Image) (cut_is : Cut (block * pages) (block * pages + pages) erased (g.M.Nand.contents c.args.media.now) i). erase_keeps (seen s) block pages c.requires.fits.pages (last_block s) is.places (free_kept s.blocks block c.take-block.ensures.was_free) (free_own s is c.requires.tied block c.take-block.ensures.was_free) (free_apart s is c.requires.tied block c.take-block.ensures.has c.take-block.ensures.was_free) cut_is in
    record {
      segment = subst (λ (k : Kept). IsPhysicalOf (g.M.Nand.contents c.erase.new.self) (seen (record k { blocks = t }))) counted
          (failed_segment block (same_pages s t same) refl (same_unspent s t same) is.places (free_copy s is c.requires.tied block c.take-block.ensures.has c.take-block.ensures.was_free) (c.requires.segment tells) (free_kept s.blocks block c.take-block.ensures.was_free) dirty
          (let full = (full_is c.args.self.now c.next_page.result c.next_page.ensures.none (sym c.is_some.ensures ∙ c.if-is_some.false)) in omega (arith, full)) (erase_others block pages s.blocks.size c.requires.fits.pages cut));
      keeps = keep _ cut;
      crash = operation c.erase.result (λ i. PreservesSegment (seen s) (g.M.Nand.contents c.args.media.now) i) c.erase.ensures.crash (c.erase.ensures.effect tells) keep;
      others = λ done. absurd (wrote_failed_done done);
    }

pub is_soiled-requires : goal.is_soiled-requires
is_soiled-requires g c = below_count c.take-block.ensures.has.below c.requires.formed.marks

pub erase-requires : goal.erase-requires
erase-requires g c = below_more c.take-block.ensures.has.below c.requires.fits.blocks

pub wear_out-requires-clause-has : goal.wear_out-requires-clause-has
wear_out-requires-clause-has g c = has_same c.take-block.result c.take-block.ensures.taken.numbers c.take-block.ensures.has

pub wear_out-requires-clause-used : goal.wear_out-requires-clause-used
wear_out-requires-clause-used g c = ap (λ (u : Use). u.is_kept) c.take-block.ensures.taken.here

pub give_back-requires : goal.give_back-requires
give_back-requires g c = has_same c.take-block.result c.take-block.ensures.taken.numbers c.take-block.ensures.has

pub write_to-requires-clause-has : goal.write_to-requires-clause-has
write_to-requires-clause-has g c = has_same c.take-block.result c.take-block.ensures.taken.numbers c.take-block.ensures.has

pub write_to-requires-in-Done-clause-has : goal.write_to-requires-in-Done-clause-has
write_to-requires-in-Done-clause-has g c = has_same c.take-block.result (restated_again c.take-block.ensures.taken c.wear_out.ensures.worn).numbers c.take-block.ensures.has

pub write_to-requires-clause-active : goal.write_to-requires-clause-active
write_to-requires-clause-active g c = c.take-block.ensures.active

pub write_to-requires-in-Done-clause-active : goal.write_to-requires-in-Done-clause-active
write_to-requires-in-Done-clause-active g c = c.wear_out.ensures.state ∙ c.take-block.ensures.active

pub write_to-requires-clause-unused : goal.write_to-requires-clause-unused
write_to-requires-clause-unused g c = c.take-block.ensures.used

pub returns-then-is_some-clause-formed : goal.returns-then-is_some-clause-formed
returns-then-is_some-clause-formed g c = c.requires.formed

pub returns-then-is_some-clause-tied : goal.returns-then-is_some-clause-tied
returns-then-is_some-clause-tied g c = c.requires.tied

pub returns-then-is_some-clause-medium : goal.returns-then-is_some-clause-medium
returns-then-is_some-clause-medium g c t = record { segment = c.requires.segment t; keeps = keeps_nothing (seen (kept c.args.self.now)) (g.M.Nand.contents c.args.media.now); crash = crashes.start c.args.media.now (λ m i. PreservesSegment (seen (kept c.args.self.now)) (g.M.Nand.contents c.args.media.now) i); others = λ done p. inl refl }

pub returns-then-is_some-clause-geometry : goal.returns-then-is_some-clause-geometry
returns-then-is_some-clause-geometry g c = refl

pub returns-then-is_some-clause-clock : goal.returns-then-is_some-clause-clock
returns-then-is_some-clause-clock g c = clock_same

pub returns-then-is_some-clause-read_faults : goal.returns-then-is_some-clause-read_faults
returns-then-is_some-clause-read_faults g c = refl

pub returns-then-is_some-clause-write_faults : goal.returns-then-is_some-clause-write_faults
returns-then-is_some-clause-write_faults g c = none_failed wrote_done_failed

pub returns-then-is_some-clause-ready : goal.returns-then-is_some-clause-ready
returns-then-is_some-clause-ready g c x = (refl, refl)

pub returns-then-not-is_soiled-clause-formed : goal.returns-then-not-is_soiled-clause-formed
returns-then-not-is_soiled-clause-formed g c = c.write_to.ensures.formed

pub returns-then-not-is_soiled-clause-tied : goal.returns-then-not-is_soiled-clause-tied
returns-then-not-is_soiled-clause-tied g c = c.write_to.ensures.tied

pub returns-then-not-is_soiled-clause-left : goal.returns-then-not-is_soiled-clause-left
returns-then-not-is_soiled-clause-left g c done = none_used c.write_to.ensures.used c.write_to.ensures.pages c.take-block.ensures.taken.numbers.same_size c.requires.formed.some

pub returns-then-not-is_soiled-clause-geometry : goal.returns-then-not-is_soiled-clause-geometry
returns-then-not-is_soiled-clause-geometry g c = refl

pub returns-then-not-is_soiled-clause-clock : goal.returns-then-not-is_soiled-clause-clock
returns-then-not-is_soiled-clause-clock g c = clock_same

pub returns-then-not-is_soiled-clause-read_faults : goal.returns-then-not-is_soiled-clause-read_faults
returns-then-not-is_soiled-clause-read_faults g c = refl

pub returns-then-not-is_soiled-clause-write_faults : goal.returns-then-not-is_soiled-clause-write_faults
returns-then-not-is_soiled-clause-write_faults g c = none_failed wrote_done_failed

pub returns-then-not-is_soiled-clause-ready : goal.returns-then-not-is_soiled-clause-ready
returns-then-not-is_soiled-clause-ready g c x = (refl, refl)

pub returns-in-Done-clause-formed : goal.returns-in-Done-clause-formed
returns-in-Done-clause-formed g c = c.write_to-in-Done.ensures.formed

pub returns-in-Done-clause-tied : goal.returns-in-Done-clause-tied
returns-in-Done-clause-tied g c = c.write_to-in-Done.ensures.tied

pub returns-in-Done-clause-left : goal.returns-in-Done-clause-left
returns-in-Done-clause-left g c done = none_used c.write_to-in-Done.ensures.used c.write_to-in-Done.ensures.pages (restated_again c.take-block.ensures.taken c.wear_out.ensures.worn).numbers.same_size c.requires.formed.some

pub returns-in-Done-clause-geometry : goal.returns-in-Done-clause-geometry
returns-in-Done-clause-geometry g c = c.erase.ensures.counted.same_geometry

pub returns-in-Done-clause-clock : goal.returns-in-Done-clause-clock
returns-in-Done-clause-clock g c = (c.erase.ensures.crash.later, clock_ticks (g.M.Nand.clock c.args.media.now) c.in-Done.ensures.counted.ticks)

pub returns-in-Done-clause-read_faults : goal.returns-in-Done-clause-read_faults
returns-in-Done-clause-read_faults g c = c.erase.ensures.counted.same_read_faults

pub returns-in-Done-clause-write_faults : goal.returns-in-Done-clause-write_faults
returns-in-Done-clause-write_faults g c = done_unfailed c.erase.ensures.counted.failures (λ e. wrote_done_failed (sym c.in-Done.is ∙ e)) wrote_done_failed

pub returns-in-Failed-clause-left : goal.returns-in-Failed-clause-left
returns-in-Failed-clause-left g c done = absurd (wrote_failed_done done)

pub returns-in-Failed-clause-geometry : goal.returns-in-Failed-clause-geometry
returns-in-Failed-clause-geometry g c = c.erase.ensures.counted.same_geometry

pub returns-in-Failed-clause-clock : goal.returns-in-Failed-clause-clock
returns-in-Failed-clause-clock g c = (c.erase.ensures.crash.later, clock_stays c.in-Failed.ensures.counted.ticks)

pub returns-in-Failed-clause-read_faults : goal.returns-in-Failed-clause-read_faults
returns-in-Failed-clause-read_faults g c = c.erase.ensures.counted.same_read_faults

pub returns-in-Failed-clause-write_faults : goal.returns-in-Failed-clause-write_faults
returns-in-Failed-clause-write_faults g c = failed_fault c.erase.ensures.counted.failures c.in-Failed.is refl

pub next_page-requires : goal.next_page-requires
next_page-requires g c = c.requires.formed.active_in

pub take-block-requires : goal.take-block-requires
take-block-requires g c = two_free c.args.self.now.blocks.size (kept c.args.self.now).used _ (full_is c.args.self.now c.next_page.result c.next_page.ensures.none (sym c.is_some.ensures ∙ c.if-is_some.false)) c.requires.room

pub returns-then-is_some-clause-opening : goal.returns-then-is_some-clause-opening
returns-then-is_some-clause-opening g c =
    let some = some_holds c.next_page.result _ _ c.next_page.ensures.some (sym c.is_some.ensures ∙ c.if-is_some.true) in
    inl (room_left some, refl)
