use Rattle.nl_pseg.proofs.Small.{same_most, none_used, below_count, below_more, clock_same, clock_ticks, clock_stays}
use Rattle.nl_pseg.proofs.Apart.{wrote_done_failed, wrote_failed_done}
use Rattle.nl_pseg.proofs.Medium.{done_unfailed, failed_fault, none_failed}
use Rattle.nl_blocks.specs.Used.{is_target_state, used_in}
use Rattle.nl_pseg.proofs.Taking.{again_counted, none_holds, some_holds, targeted_counted}
use Rattle.nl_pseg.specs.declared.state.State.{State}
use Rattle.std.proofs.Common.{◌≡◌, inl, inr, ⊎_elim, ℕ, ◌+◌, ◌*◌, ◌/◌, ◌<◌, ◌≤◌, true, false, refl, sym, ◌∙◌, ap, subst, arith, IfNone, Option, is_some}
use Rattle.std.proofs.lemmas.Bool.{cases_eq, true≢false}
use Rattle.nl_field.specs.Page.{Image, erased}
use Rattle.nl_nand.specs.ImageLaws.{filled_cut}
use Rattle.nl_nand.specs.Nand.{Cut}
use Rattle.nl_nand.proofs.Crashes.{operation}
use Rattle.nl_nand.proofs.Crashes as crashes
use Rattle.nl_pseg.specs.Effects.{PreservesSegment}
use Rattle.nl_pseg.specs.Segment.{Physical, IsPhysicalOf, IsUnspent, is_free, is_kept, is_soiled}
use Rattle.nl_pseg.specs.Seen.{seen, IsPhysicalFormed, IsTied}
use Rattle.nl_pseg.specs.Steps.{IsReadied, aimed_at}
use Rattle.nl_pseg_blocks.specs.Uses.{Use, use_in, SetsUse}
use Rattle.nl_pseg.proofs.Aimed.{again_readied, again_unspent, aimed_readied}
use Rattle.nl_pseg.proofs.Forms.{formed_same}
use Rattle.nl_pseg.proofs.Images.{erase_keeps, erase_others, keeps_nothing}
use Rattle.nl_pseg.proofs.Numbers.{block_of, in_block}
use Rattle.nl_pseg.proofs.Openings.{free_use, last_block, one_free}
use Rattle.nl_pseg.proofs.Readied.{again_segment, aimed_segment, free_dead, taken_formed, still_readied}
use Rattle.nl_pseg_blocks.proofs.Tables.{free_kept, has_same, restated_again, restated_same}
use Rattle.nl_pseg.proofs.Taken.{free_again, free_other}
use Rattle.nl_pseg.proofs.Tied.{free_apart, free_own}
use Rattle.nl_blocks.specs.declared.states.BlockState.TheVariants.{Active}
use Rattle.nl_pseg.proofs.Wearing.{taken_clean, taken_soiled}
use Rattle.nl_pseg.specs.Kept.{kept, Kept}
use Rattle.nl_pseg.proofs.state.State.ready.Goals as goal

full_is : (s : State) (next : Option ℕ) → IfNone next (used_in is_target_state s.blocks s.target ≡ s.blocks.size) → is_some next ≡ false → s.blocks.size ≤ (kept s).filled
full_is s next holds none = let e = none_holds next _ holds none in omega (arith, e)

pub aim-requires-clause-formed : goal.aim-requires-clause-formed
aim-requires-clause-formed g c =
    let s = kept c.args.self.now in
    let is = c.requires.formed in
    let block = c.take_target-block.result in
    let has = c.take_target-block.ensures.has in
    let free = c.take_target-block.ensures.was_free in
    let r = c.take_target-block.ensures.taken in
    subst (λ (k : Kept). IsPhysicalFormed (record k { blocks = c.take_target-block.new.blocks })) (targeted_counted c.args.self.now c.requires.formed c.requires.tied c.take_target-block.new.blocks c.take_target-block.ensures.taken.numbers (full_is c.args.self.now c.next_copy.result c.next_copy.ensures.none (sym c.is_some.ensures ∙ c.if-is_some.false)) c.take_target-block.ensures.used)
    (taken_formed s is block has free c.take_target-block.new.blocks r)

pub aim-requires-clause-in_use : goal.aim-requires-clause-in_use
aim-requires-clause-in_use g c p h held at =
    let s = kept c.args.self.now in
    let is = c.requires.formed in
    let block = c.take_target-block.result in
    let has = c.take_target-block.ensures.has in
    let free = c.take_target-block.ensures.was_free in
    let r = c.take_target-block.ensures.taken in
    free_dead s is block has free p h held (ap (λ n. p / n) (sym r.numbers.same_size) ∙ at)

pub aim-requires-in-Done-clause-formed : goal.aim-requires-in-Done-clause-formed
aim-requires-in-Done-clause-formed g c =
    let s = kept c.args.self.now in
    let is = c.requires.formed in
    let block = c.take_target-block.result in
    let has = c.take_target-block.ensures.has in
    let free = c.take_target-block.ensures.was_free in
    let r = taken_soiled s c.take_target-block.new.blocks c.wear_out.new.blocks block free (sym c.is_soiled.ensures ∙ c.if-not-is_soiled.false) c.take_target-block.ensures.taken c.wear_out.ensures.worn in
    subst (λ (k : Kept). IsPhysicalFormed (record k { blocks = c.wear_out.new.blocks })) (targeted_counted c.args.self.now c.requires.formed c.requires.tied c.wear_out.new.blocks (restated_again c.take_target-block.ensures.taken c.wear_out.ensures.worn).numbers (full_is c.args.self.now c.next_copy.result c.next_copy.ensures.none (sym c.is_some.ensures ∙ c.if-is_some.false))
    (λ b has_b. c.wear_out.ensures.fill.used b (has_same b c.take_target-block.ensures.taken.numbers has_b) ∙ c.take_target-block.ensures.used b has_b))
    (taken_formed s is block has free c.wear_out.new.blocks r)

pub aim-requires-in-Done-clause-in_use : goal.aim-requires-in-Done-clause-in_use
aim-requires-in-Done-clause-in_use g c p h held at =
    let s = kept c.args.self.now in
    let is = c.requires.formed in
    let block = c.take_target-block.result in
    let has = c.take_target-block.ensures.has in
    let free = c.take_target-block.ensures.was_free in
    let r = taken_soiled s c.take_target-block.new.blocks c.wear_out.new.blocks block free (sym c.is_soiled.ensures ∙ c.if-not-is_soiled.false) c.take_target-block.ensures.taken c.wear_out.ensures.worn in
    free_dead s is block has free p h held (ap (λ n. p / n) (sym r.numbers.same_size) ∙ at)

pub returns-then-not-is_soiled-clause-readied : goal.returns-then-not-is_soiled-clause-readied
returns-then-not-is_soiled-clause-readied g c =
    let s = kept c.args.self.now in
    let is = c.requires.formed in
    let block = c.take_target-block.result in
    let has = c.take_target-block.ensures.has in
    let free = c.take_target-block.ensures.was_free in
    let r = taken_clean s c.take_target-block.new.blocks block (sym c.is_soiled.ensures ∙ c.if-not-is_soiled.true) c.take_target-block.ensures.taken in
    let full : s.blocks.size ≤ s.filled = (full_is c.args.self.now c.next_copy.result c.next_copy.ensures.none (sym c.is_some.ensures ∙ c.if-is_some.false)) in
    subst (IsReadied (seen s)) (sym c.aim.ensures.aimed)
    (subst (λ (k : Kept). IsReadied (seen s) (aimed_at (seen (record k { blocks = c.take_target-block.new.blocks })) block)) (targeted_counted c.args.self.now c.requires.formed c.requires.tied c.take_target-block.new.blocks c.take_target-block.ensures.taken.numbers (full_is c.args.self.now c.next_copy.result c.next_copy.ensures.none (sym c.is_some.ensures ∙ c.if-is_some.false)) c.take_target-block.ensures.used)
    (aimed_readied s is c.requires.tied c.take_target-block.new.blocks block c.count.ensures.table c.count-2.ensures.table full r free))

pub returns-in-Done-clause-readied : goal.returns-in-Done-clause-readied
returns-in-Done-clause-readied g c =
    let s = kept c.args.self.now in
    let is = c.requires.formed in
    let block = c.take_target-block.result in
    let has = c.take_target-block.ensures.has in
    let free = c.take_target-block.ensures.was_free in
    let r = taken_soiled s c.take_target-block.new.blocks c.wear_out.new.blocks block free (sym c.is_soiled.ensures ∙ c.if-not-is_soiled.false) c.take_target-block.ensures.taken c.wear_out.ensures.worn in
    let full : s.blocks.size ≤ s.filled = (full_is c.args.self.now c.next_copy.result c.next_copy.ensures.none (sym c.is_some.ensures ∙ c.if-is_some.false)) in
    subst (IsReadied (seen s)) (sym c.aim-in-Done.ensures.aimed)
    (subst (λ (k : Kept). IsReadied (seen s) (aimed_at (seen (record k { blocks = c.wear_out.new.blocks })) block)) (targeted_counted c.args.self.now c.requires.formed c.requires.tied c.wear_out.new.blocks (restated_again c.take_target-block.ensures.taken c.wear_out.ensures.worn).numbers (full_is c.args.self.now c.next_copy.result c.next_copy.ensures.none (sym c.is_some.ensures ∙ c.if-is_some.false))
    (λ b has_b. c.wear_out.ensures.fill.used b (has_same b c.take_target-block.ensures.taken.numbers has_b) ∙ c.take_target-block.ensures.used b has_b))
    (aimed_readied s is c.requires.tied c.wear_out.new.blocks block c.count.ensures.table c.count-in-Done.ensures.table full r free))

pub returns-then-not-is_soiled-clause-medium : goal.returns-then-not-is_soiled-clause-medium
returns-then-not-is_soiled-clause-medium g c t =
    let s = kept c.args.self.now in
    let is = c.requires.formed in
    let block = c.take_target-block.result in
    let has = c.take_target-block.ensures.has in
    let free = c.take_target-block.ensures.was_free in
    let r = taken_clean s c.take_target-block.new.blocks block (sym c.is_soiled.ensures ∙ c.if-not-is_soiled.true) c.take_target-block.ensures.taken in
    let image = g.M.Nand.contents c.args.media.now in
    let clean : is_soiled (seen s) block ≡ false = sym c.is_soiled.ensures ∙ c.if-not-is_soiled.true in
    record {
      segment = subst (IsPhysicalOf image) (sym c.aim.ensures.aimed)
          (subst (λ (k : Kept). IsPhysicalOf image (aimed_at (seen (record k { blocks = c.take_target-block.new.blocks })) block)) (targeted_counted c.args.self.now c.requires.formed c.requires.tied c.take_target-block.new.blocks c.take_target-block.ensures.taken.numbers (full_is c.args.self.now c.next_copy.result c.next_copy.ensures.none (sym c.is_some.ensures ∙ c.if-is_some.false)) c.take_target-block.ensures.used)
          (aimed_segment s is block has free c.take_target-block.new.blocks r (c.requires.segment t) (λ p ne. refl)
          (λ p at. (c.requires.segment t).blank p (inr (ap (is_kept (seen s)) at ∙ free_kept s.blocks block free, ap (is_soiled (seen s)) at ∙ clean)))));
      keeps = keeps_nothing (seen s) image;
      crash = crashes.start c.args.media.now (λ m i. PreservesSegment (seen s) image i);
      others = λ done p. inl refl;
    }

pub returns-in-Done-clause-medium : goal.returns-in-Done-clause-medium
returns-in-Done-clause-medium g c t =
    let s = kept c.args.self.now in
    let is = c.requires.formed in
    let block = c.take_target-block.result in
    let has = c.take_target-block.ensures.has in
    let free = c.take_target-block.ensures.was_free in
    let r = taken_soiled s c.take_target-block.new.blocks c.wear_out.new.blocks block free (sym c.is_soiled.ensures ∙ c.if-not-is_soiled.false) c.take_target-block.ensures.taken c.wear_out.ensures.worn in
    let pages = (g.M.Nand.geometry c.args.media.now).pages in
    let old = g.M.Nand.contents c.args.media.now in
    let dirty : is_soiled (seen s) block ≡ true = sym c.is_soiled.ensures ∙ c.if-not-is_soiled.false in
    let keep = λ (i : Image) (cut : Cut (block * pages) (block * pages + pages) erased old i). erase_keeps (seen s) block pages c.requires.fits.pages (last_block s) is.places (free_kept s.blocks block free) (free_own s is c.requires.tied block free) (free_apart s is c.requires.tied block has free) cut in
    let filled = c.in-Done.ensures.effect t in
    let inside = λ (p : ℕ) (at : p / s.blocks.size ≡ block).
    (let w = in_block p s.blocks.size block is.some at in
    filled.inside p (subst (λ n. block * n ≤ p) (sym c.requires.fits.pages) w.0) (subst (λ n. p < block * n + n) (sym c.requires.fits.pages) w.1)) in
    let next : (seen (kept c.aim-in-Done.new.self)).copy_next / s.blocks.size ≡ block = ap (λ (x : Physical). x.copy_next / s.blocks.size) c.aim-in-Done.ensures.aimed ∙ (let e = r.numbers.same_size in let a : block * c.wear_out.new.blocks.size ≡ block * s.blocks.size = ap (λ n. block * n) e in block_of (block * c.wear_out.new.blocks.size) s.blocks.size block (omega (arith, a)) (let some = is.some in omega (arith, a, some))) in
    record {
      segment = subst (IsPhysicalOf (g.M.Nand.contents c.erase.new.self)) (sym c.aim-in-Done.ensures.aimed)
          (subst (λ (k : Kept). IsPhysicalOf (g.M.Nand.contents c.erase.new.self) (aimed_at (seen (record k { blocks = c.wear_out.new.blocks })) block)) (targeted_counted c.args.self.now c.requires.formed c.requires.tied c.wear_out.new.blocks (restated_again c.take_target-block.ensures.taken c.wear_out.ensures.worn).numbers (full_is c.args.self.now c.next_copy.result c.next_copy.ensures.none (sym c.is_some.ensures ∙ c.if-is_some.false))
          (λ b has_b. c.wear_out.ensures.fill.used b (has_same b c.take_target-block.ensures.taken.numbers has_b) ∙ c.take_target-block.ensures.used b has_b))
          (aimed_segment s is block has free c.wear_out.new.blocks r (c.requires.segment t) (erase_others block pages s.blocks.size c.requires.fits.pages (filled_cut filled)) inside));
      keeps = keep _ (filled_cut filled);
      crash = operation c.erase.result (λ i. PreservesSegment (seen s) old i) c.erase.ensures.crash (c.erase.ensures.effect t) keep;
      others = λ done p. ⊎_elim
          (λ at. inr (at ∙ sym next, ap (is_free (seen s)) next ∙ free, ap (is_soiled (seen s)) next ∙ dirty, inside p at))
          (λ ne. inl (erase_others block pages s.blocks.size c.requires.fits.pages (filled_cut filled) p ne))
          (cases_eq (p / s.blocks.size) block);
    }

pub returns-in-Failed-clause-formed : goal.returns-in-Failed-clause-formed
returns-in-Failed-clause-formed g c =
    let s = kept c.args.self.now in
    let is = c.requires.formed in
    let block = c.take_target-block.result in
    let has = c.take_target-block.ensures.has in
    let free = c.take_target-block.ensures.was_free in
    let r = c.take_target-block.ensures.taken in
    let mid = c.take_target-block.new.blocks in
    let has_mid = has_same block r.numbers has in
    let again : SetsUse block true (use_in s.blocks block).wear mid c.give_back.new.blocks = subst (λ n. SetsUse block true n mid c.give_back.new.blocks) (ap (λ (u : Use). u.wear) r.here) c.give_back.ensures in
    let both = restated_again r again in
    let same = restated_same (free_use s block is free) both in
    subst (λ (k : Kept). IsPhysicalFormed (record k { blocks = c.give_back.new.blocks })) (again_counted c.args.self.now is c.requires.tied block _ has free c.give_back.new.blocks both)
    (formed_same s c.give_back.new.blocks is same both.marks (λ room. both.states s.active is.active_in (free_other s.blocks block s.active Active has free refl (is.taken room)) ∙ is.taken room))

pub returns-in-Failed-clause-tied : goal.returns-in-Failed-clause-tied
returns-in-Failed-clause-tied g c =
    let s = kept c.args.self.now in
    let is = c.requires.formed in
    let block = c.take_target-block.result in
    let has = c.take_target-block.ensures.has in
    let free = c.take_target-block.ensures.was_free in
    let r = c.take_target-block.ensures.taken in
    let mid = c.take_target-block.new.blocks in
    let has_mid = has_same block r.numbers has in
    let again : SetsUse block true (use_in s.blocks block).wear mid c.give_back.new.blocks = subst (λ n. SetsUse block true n mid c.give_back.new.blocks) (ap (λ (u : Use). u.wear) r.here) c.give_back.ensures in
    let both = restated_again r again in
    let same = restated_same (free_use s block is free) both in
    subst (λ (k : Kept). IsTied (record k { blocks = c.give_back.new.blocks })) (again_counted c.args.self.now is c.requires.tied block _ has free c.give_back.new.blocks both)
    (free_again s c.requires.tied c.give_back.new.blocks same block has free both.states)

pub returns-in-Failed-clause-readied : goal.returns-in-Failed-clause-readied
returns-in-Failed-clause-readied g c =
    let s = kept c.args.self.now in
    let is = c.requires.formed in
    let block = c.take_target-block.result in
    let has = c.take_target-block.ensures.has in
    let free = c.take_target-block.ensures.was_free in
    let r = c.take_target-block.ensures.taken in
    let mid = c.take_target-block.new.blocks in
    let has_mid = has_same block r.numbers has in
    let again : SetsUse block true (use_in s.blocks block).wear mid c.give_back.new.blocks = subst (λ n. SetsUse block true n mid c.give_back.new.blocks) (ap (λ (u : Use). u.wear) r.here) c.give_back.ensures in
    let both = restated_again r again in
    let same = restated_same (free_use s block is free) both in
    subst (λ (k : Kept). IsReadied (seen s) (seen (record k { blocks = c.give_back.new.blocks }))) (again_counted c.args.self.now is c.requires.tied block _ has free c.give_back.new.blocks both)
    (again_readied s is c.requires.tied c.give_back.new.blocks c.count.ensures.table c.count-in-Failed.ensures.table same both.marks)

pub returns-in-Failed-clause-failed : goal.returns-in-Failed-clause-failed
returns-in-Failed-clause-failed g c e =
    let s = kept c.args.self.now in
    let is = c.requires.formed in
    let block = c.take_target-block.result in
    let has = c.take_target-block.ensures.has in
    let free = c.take_target-block.ensures.was_free in
    let r = c.take_target-block.ensures.taken in
    let mid = c.take_target-block.new.blocks in
    let full : s.blocks.size ≤ s.filled = (full_is c.args.self.now c.next_copy.result c.next_copy.ensures.none (sym c.is_some.ensures ∙ c.if-is_some.false)) in
    let dirty : is_soiled (seen s) block ≡ true = sym c.is_soiled.ensures ∙ c.if-not-is_soiled.false in
    let again : SetsUse block true (use_in s.blocks block).wear mid c.give_back.new.blocks = subst (λ n. SetsUse block true n mid c.give_back.new.blocks) (ap (λ (u : Use). u.wear) r.here) c.give_back.ensures in
    let both = restated_again r again in
    let same = restated_same (free_use s block is free) both in (
      subst (λ (k : Kept). IsUnspent (seen s) (seen (record k { blocks = c.give_back.new.blocks }))) (again_counted c.args.self.now is c.requires.tied block _ has free c.give_back.new.blocks both)
          (again_unspent s is c.requires.tied c.give_back.new.blocks c.count.ensures.table c.count-in-Failed.ensures.table same both.marks),
      ⊎_elim (λ some. omega (arith, full, some)) (λ clean. true≢false (sym dirty ∙ clean block (free_kept s.blocks block free))),
    )

pub returns-in-Failed-clause-medium : goal.returns-in-Failed-clause-medium
returns-in-Failed-clause-medium g c t =
    let s = kept c.args.self.now in
    let is = c.requires.formed in
    let block = c.take_target-block.result in
    let has = c.take_target-block.ensures.has in
    let free = c.take_target-block.ensures.was_free in
    let r = c.take_target-block.ensures.taken in
    let full : s.blocks.size ≤ s.filled = (full_is c.args.self.now c.next_copy.result c.next_copy.ensures.none (sym c.is_some.ensures ∙ c.if-is_some.false)) in
    let mid = c.take_target-block.new.blocks in
    let has_mid = has_same block r.numbers has in
    let again : SetsUse block true (use_in s.blocks block).wear mid c.give_back.new.blocks = subst (λ n. SetsUse block true n mid c.give_back.new.blocks) (ap (λ (u : Use). u.wear) r.here) c.give_back.ensures in
    let both = restated_again r again in
    let same = restated_same (free_use s block is free) both in
    let pages = (g.M.Nand.geometry c.args.media.now).pages in
    let old = g.M.Nand.contents c.args.media.now in
    let dirty : is_soiled (seen s) block ≡ true = sym c.is_soiled.ensures ∙ c.if-not-is_soiled.false in
    let keep = λ (i : Image) (cut : Cut (block * pages) (block * pages + pages) erased old i). erase_keeps (seen s) block pages c.requires.fits.pages (last_block s) is.places (free_kept s.blocks block free) (free_own s is c.requires.tied block free) (free_apart s is c.requires.tied block has free) cut in
    let cut = c.in-Failed.ensures.effect t in
    record {
      segment = subst (λ (k : Kept). IsPhysicalOf (g.M.Nand.contents c.erase.new.self) (seen (record k { blocks = c.give_back.new.blocks }))) (again_counted c.args.self.now is c.requires.tied block _ has free c.give_back.new.blocks both)
          (again_segment s is block has free c.give_back.new.blocks same full dirty (c.requires.segment t) (erase_others block pages s.blocks.size c.requires.fits.pages cut));
      keeps = keep _ cut;
      crash = operation c.erase.result (λ i. PreservesSegment (seen s) old i) c.erase.ensures.crash (c.erase.ensures.effect t) keep;
      others = λ done. absurd (wrote_failed_done done);
    }

pub returns-in-Done-clause-clean : goal.returns-in-Done-clause-clean
returns-in-Done-clause-clean g c clean =
    let s = kept c.args.self.now in
    let block = c.take_target-block.result in
    let dirty : is_soiled (seen s) block ≡ true = sym c.is_soiled.ensures ∙ c.if-not-is_soiled.false in
    absurd (true≢false (sym dirty ∙ clean block (free_kept s.blocks block c.take_target-block.ensures.was_free)))

pub returns-in-Failed-clause-clean : goal.returns-in-Failed-clause-clean
returns-in-Failed-clause-clean g c clean =
    let s = kept c.args.self.now in
    let block = c.take_target-block.result in
    let dirty : is_soiled (seen s) block ≡ true = sym c.is_soiled.ensures ∙ c.if-not-is_soiled.false in
    absurd (true≢false (sym dirty ∙ clean block (free_kept s.blocks block c.take_target-block.ensures.was_free)))

pub aim-requires-in-Done-clause-targeted : goal.aim-requires-in-Done-clause-targeted
aim-requires-in-Done-clause-targeted g c =
    let s = kept c.args.self.now in
    let r = restated_again c.take_target-block.ensures.taken c.wear_out.ensures.worn in
    record {
      table = s.blocks;
      wear = _;
      tied = subst IsTied (targeted_counted c.args.self.now c.requires.formed c.requires.tied c.wear_out.new.blocks (restated_again c.take_target-block.ensures.taken c.wear_out.ensures.worn).numbers (full_is c.args.self.now c.next_copy.result c.next_copy.ensures.none (sym c.is_some.ensures ∙ c.if-is_some.false))
          (λ b has_b. c.wear_out.ensures.fill.used b (has_same b c.take_target-block.ensures.taken.numbers has_b) ∙ c.take_target-block.ensures.used b has_b)) c.requires.tied;
      restated = r;
      had = c.take_target-block.ensures.has;
      was_free = c.take_target-block.ensures.was_free;
      full = same_most;
    }

pub aim-requires-clause-targeted : goal.aim-requires-clause-targeted
aim-requires-clause-targeted g c =
    let s = kept c.args.self.now in
    record {
      table = s.blocks;
      wear = _;
      tied = subst IsTied (targeted_counted c.args.self.now c.requires.formed c.requires.tied c.take_target-block.new.blocks c.take_target-block.ensures.taken.numbers (full_is c.args.self.now c.next_copy.result c.next_copy.ensures.none (sym c.is_some.ensures ∙ c.if-is_some.false)) c.take_target-block.ensures.used) c.requires.tied;
      restated = c.take_target-block.ensures.taken;
      had = c.take_target-block.ensures.has;
      was_free = c.take_target-block.ensures.was_free;
      full = same_most;
    }

pub aim-requires-in-Done-clause-unused : goal.aim-requires-in-Done-clause-unused
aim-requires-in-Done-clause-unused g c =
    c.wear_out.ensures.fill.filled c.take_target-block.result (has_same c.take_target-block.result c.take_target-block.ensures.taken.numbers c.take_target-block.ensures.has) ∙ c.take_target-block.ensures.filled

pub returns-then-is_some-clause-left : goal.returns-then-is_some-clause-left
returns-then-is_some-clause-left g c done =
    some_holds c.next_copy.result _ _ c.next_copy.ensures.some (sym c.is_some.ensures ∙ c.if-is_some.true)

pub is_soiled-requires : goal.is_soiled-requires
is_soiled-requires g c = below_count c.take_target-block.ensures.has.below c.requires.formed.marks

pub erase-requires : goal.erase-requires
erase-requires g c = below_more c.take_target-block.ensures.has.below c.requires.fits.blocks

pub wear_out-requires-clause-has : goal.wear_out-requires-clause-has
wear_out-requires-clause-has g c = has_same c.take_target-block.result c.take_target-block.ensures.taken.numbers c.take_target-block.ensures.has

pub wear_out-requires-clause-used : goal.wear_out-requires-clause-used
wear_out-requires-clause-used g c = ap (λ (u : Use). u.is_kept) c.take_target-block.ensures.taken.here

pub give_back-requires : goal.give_back-requires
give_back-requires g c = has_same c.take_target-block.result c.take_target-block.ensures.taken.numbers c.take_target-block.ensures.has

pub aim-requires-clause-has : goal.aim-requires-clause-has
aim-requires-clause-has g c = has_same c.take_target-block.result c.take_target-block.ensures.taken.numbers c.take_target-block.ensures.has

pub aim-requires-in-Done-clause-has : goal.aim-requires-in-Done-clause-has
aim-requires-in-Done-clause-has g c = has_same c.take_target-block.result (restated_again c.take_target-block.ensures.taken c.wear_out.ensures.worn).numbers c.take_target-block.ensures.has

pub aim-requires-clause-target : goal.aim-requires-clause-target
aim-requires-clause-target g c = c.take_target-block.ensures.target

pub aim-requires-in-Done-clause-target : goal.aim-requires-in-Done-clause-target
aim-requires-in-Done-clause-target g c = c.wear_out.ensures.state ∙ c.take_target-block.ensures.target

pub aim-requires-clause-unused : goal.aim-requires-clause-unused
aim-requires-clause-unused g c = c.take_target-block.ensures.filled

pub returns-then-is_some-clause-formed : goal.returns-then-is_some-clause-formed
returns-then-is_some-clause-formed g c = c.requires.formed

pub returns-then-is_some-clause-tied : goal.returns-then-is_some-clause-tied
returns-then-is_some-clause-tied g c = c.requires.tied

pub returns-then-is_some-clause-medium : goal.returns-then-is_some-clause-medium
returns-then-is_some-clause-medium g c t = record { segment = c.requires.segment t; keeps = keeps_nothing (seen (kept c.args.self.now)) (g.M.Nand.contents c.args.media.now); crash = crashes.start c.args.media.now (λ m i. PreservesSegment (seen (kept c.args.self.now)) (g.M.Nand.contents c.args.media.now) i); others = λ done p. inl refl }

pub returns-then-is_some-clause-geometry : goal.returns-then-is_some-clause-geometry
returns-then-is_some-clause-geometry g c = refl

pub returns-then-is_some-clause-clock : goal.returns-then-is_some-clause-clock
returns-then-is_some-clause-clock g c = clock_same

pub returns-then-is_some-clause-read_faults : goal.returns-then-is_some-clause-read_faults
returns-then-is_some-clause-read_faults g c = refl

pub returns-then-is_some-clause-write_faults : goal.returns-then-is_some-clause-write_faults
returns-then-is_some-clause-write_faults g c = none_failed wrote_done_failed

pub returns-then-is_some-clause-clean : goal.returns-then-is_some-clause-clean
returns-then-is_some-clause-clean g c x = (refl, refl)

pub returns-then-not-is_soiled-clause-formed : goal.returns-then-not-is_soiled-clause-formed
returns-then-not-is_soiled-clause-formed g c = c.aim.ensures.formed

pub returns-then-not-is_soiled-clause-tied : goal.returns-then-not-is_soiled-clause-tied
returns-then-not-is_soiled-clause-tied g c = c.aim.ensures.tied

pub returns-then-not-is_soiled-clause-left : goal.returns-then-not-is_soiled-clause-left
returns-then-not-is_soiled-clause-left g c done = none_used c.aim.ensures.filled c.aim.ensures.pages c.take_target-block.ensures.taken.numbers.same_size c.requires.formed.some

pub returns-then-not-is_soiled-clause-geometry : goal.returns-then-not-is_soiled-clause-geometry
returns-then-not-is_soiled-clause-geometry g c = refl

pub returns-then-not-is_soiled-clause-clock : goal.returns-then-not-is_soiled-clause-clock
returns-then-not-is_soiled-clause-clock g c = clock_same

pub returns-then-not-is_soiled-clause-read_faults : goal.returns-then-not-is_soiled-clause-read_faults
returns-then-not-is_soiled-clause-read_faults g c = refl

pub returns-then-not-is_soiled-clause-write_faults : goal.returns-then-not-is_soiled-clause-write_faults
returns-then-not-is_soiled-clause-write_faults g c = none_failed wrote_done_failed

pub returns-then-not-is_soiled-clause-clean : goal.returns-then-not-is_soiled-clause-clean
returns-then-not-is_soiled-clause-clean g c x = (refl, refl)

pub returns-in-Done-clause-formed : goal.returns-in-Done-clause-formed
returns-in-Done-clause-formed g c = c.aim-in-Done.ensures.formed

pub returns-in-Done-clause-tied : goal.returns-in-Done-clause-tied
returns-in-Done-clause-tied g c = c.aim-in-Done.ensures.tied

pub returns-in-Done-clause-left : goal.returns-in-Done-clause-left
returns-in-Done-clause-left g c done = none_used c.aim-in-Done.ensures.filled c.aim-in-Done.ensures.pages (restated_again c.take_target-block.ensures.taken c.wear_out.ensures.worn).numbers.same_size c.requires.formed.some

pub returns-in-Done-clause-geometry : goal.returns-in-Done-clause-geometry
returns-in-Done-clause-geometry g c = c.erase.ensures.counted.same_geometry

pub returns-in-Done-clause-clock : goal.returns-in-Done-clause-clock
returns-in-Done-clause-clock g c = (c.erase.ensures.crash.later, clock_ticks (g.M.Nand.clock c.args.media.now) c.in-Done.ensures.counted.ticks)

pub returns-in-Done-clause-read_faults : goal.returns-in-Done-clause-read_faults
returns-in-Done-clause-read_faults g c = c.erase.ensures.counted.same_read_faults

pub returns-in-Done-clause-write_faults : goal.returns-in-Done-clause-write_faults
returns-in-Done-clause-write_faults g c = done_unfailed c.erase.ensures.counted.failures (λ e. wrote_done_failed (sym c.in-Done.is ∙ e)) wrote_done_failed

pub returns-in-Failed-clause-left : goal.returns-in-Failed-clause-left
returns-in-Failed-clause-left g c done = absurd (wrote_failed_done done)

pub returns-in-Failed-clause-geometry : goal.returns-in-Failed-clause-geometry
returns-in-Failed-clause-geometry g c = c.erase.ensures.counted.same_geometry

pub returns-in-Failed-clause-clock : goal.returns-in-Failed-clause-clock
returns-in-Failed-clause-clock g c = (c.erase.ensures.crash.later, clock_stays c.in-Failed.ensures.counted.ticks)

pub returns-in-Failed-clause-read_faults : goal.returns-in-Failed-clause-read_faults
returns-in-Failed-clause-read_faults g c = c.erase.ensures.counted.same_read_faults

pub returns-in-Failed-clause-write_faults : goal.returns-in-Failed-clause-write_faults
returns-in-Failed-clause-write_faults g c = failed_fault c.erase.ensures.counted.failures c.in-Failed.is refl

pub next_copy-requires : goal.next_copy-requires
next_copy-requires g c = c.requires.tied.phases.target_in

pub take_target-block-requires : goal.take_target-block-requires
take_target-block-requires g c = one_free c.args.self.now.blocks.size (kept c.args.self.now).filled _ (full_is c.args.self.now c.next_copy.result c.next_copy.ensures.none (sym c.is_some.ensures ∙ c.if-is_some.false)) c.requires.lands

pub returns-then-is_some-clause-readied : goal.returns-then-is_some-clause-readied
returns-then-is_some-clause-readied g c = still_readied (seen (kept c.args.self.now))
