-- What is seen of a segment as a page is live no longer, or as names are gone.
use Rattle.std.proofs.Common.{◌≡◌, ◌⊎◌, inl, inr, ⊎_elim, ℕ, ◌+◌, ◌-◌, ◌*◌, ◌/◌, ◌<◌, ◌≤◌, true, false, is_some, Option, Some, None, List, length, get_or, set, Contains, refl, sym, ◌∙◌, ap, subst, arith}
use Rattle.std.proofs.lemmas.Bool.{cases_Bool, true≢false}
use Rattle.std.proofs.lemmas.Option.{none-some}
use Rattle.nl_field.specs.Page.{Image}
use Rattle.nl_pseg.specs.Segment.{CanSpareBlock, InSegment, IsClean, IsNextToProgram, IsPhysicalOf, IsUnspent, KeepsBlock, Physical, SameNames, SameBlocksAndPages, TakenAsErased, held_at, is_free, is_kept, is_soiled, is_waiting, room, soiled, without_target}
use Rattle.nl_pseg_blocks.specs.Uses.{use_at}
use Rattle.nl_pseg.specs.Space.{GivesBackBlocks, HasFewPairs, Lessens, gain_of, landing, left_in_victim, reach, victims, waiting}
use Rattle.nl_pseg.specs.Steps.{EndsPage, NamesGoneFromSegment}
use Rattle.nl_pseg.specs.declared.held.Held.{Held}
use Rattle.nl_pseg.proofs.Numbers.{block_from}
use Rattle.nl_pseg.proofs.Segments.{copy_same, set_held}
use Rattle.nl_pseg.proofs.Waits.{none_waits, wait_by, wait_is, waiting_same}
use Rattle.nl_pseg.proofs.Wearing.{wear_same}

-- a name is gone, and then another one
pub gone_then : {a b c : Physical} → NamesGoneFromSegment a b → NamesGoneFromSegment b c → NamesGoneFromSegment a c
gone_then {a} {b} {c} f g = record {
  range = record { range_first = g.range.range_first ∙ f.range.range_first; range_blocks = g.range.range_blocks ∙ f.range.range_blocks; range_size = g.range.range_size ∙ f.range.range_size };
  next = (g.next.0 ∙ f.next.0, g.next.1 ∙ f.next.1);
  copies = (g.copies.0 ∙ f.copies.0, g.copies.1 ∙ f.copies.1);
  victim = g.victim ∙ f.victim;
  same_soiled = λ k. g.same_soiled k ∙ f.same_soiled k;
  kept = λ k. g.kept k ∙ f.kept k;
  wears = λ k. g.wears k ∙ f.wears k;
  frees = λ k is. g.frees k (f.frees k is);
  others = λ k used. g.others k (f.kept k ∙ used);
  more = let x = f.more in let y = g.more in omega (arith, x, y);
  blocks = g.blocks ∙ f.blocks;
  gone = λ n old. f.gone n (g.gone n old);
  fewer = let x = f.fewer in let y = g.fewer in omega (arith, x, y);
}

pub gone_none : (a : Physical) → ((block : ℕ) → is_kept a block ≡ false → is_free a block ≡ false) → NamesGoneFromSegment a a
gone_none a none = record {
  range = record { range_first = refl; range_blocks = refl; range_size = refl };
  next = (refl, refl);
  copies = (refl, refl);
  victim = refl;
  same_soiled = λ k. refl;
  kept = λ k. refl;
  wears = λ k. refl;
  frees = λ k is. is;
  others = none;
  more = omega arith;
  blocks = refl;
  gone = λ n old. old;
  fewer = omega arith;
}

-- the page dies then
pub ends : {old mid new : Physical} (page : ℕ) → InSegment old page → NamesGoneFromSegment old mid → mid.held ≡ old.held → mid.pairs ≡ without_target page old.pairs → SameBlocksAndPages mid new → IsUnspent mid new → SameNames mid new
    → new.held ≡ set mid.held page None → EndsPage page old new
ends {old} {mid} {new} page within g held pairs same space names now = record {
  within = within;
  pairs = names.same_pairs ∙ pairs;
  held = now ∙ ap (λ (l : List (Option Held)). set l page None) held;
  gone = record {
    range = record { range_first = same.same_first ∙ g.range.range_first; range_blocks = same.same_blocks ∙ g.range.range_blocks; range_size = same.same_size ∙ g.range.range_size };
    next = (space.next ∙ g.next.0, space.left ∙ g.next.1);
    copies = (names.copies.0 ∙ g.copies.0, names.copies.1 ∙ g.copies.1);
    victim = names.same_victim ∙ g.victim;
    same_soiled = λ k. space.same_soiled k ∙ g.same_soiled k;
    kept = λ k. space.same_kept k ∙ g.kept k;
    wears = λ k. space.same_erasures k ∙ g.wears k;
    frees = λ k is. space.same_free k ∙ g.frees k is;
    others = λ k used. space.same_free k ∙ g.others k used;
    more = let x = g.more in let y = space.free in omega (arith, x, y);
    blocks =
        let x = g.blocks in
        let y = space.free in
        let w = waiting_same mid new same.same_first (λ k. wait_by mid new k (space.same_free k) (space.same_kept k)) in
        omega (arith, x, y, w);
    gone = λ n is. g.gone n (subst (λ (ps : List (ℕ × ℕ)). (target : ℕ) × Contains ps (n, target)) names.same_pairs is);
    fewer = let x = g.fewer in let y = ap (λ (l : List (ℕ × ℕ)). length l) names.same_pairs in omega (arith, x, y);
  };
}

-- there are few pairs still
pub few_on : (old new : Physical) → new.victim ≡ old.victim → new.size ≡ old.size → length new.pairs ≤ length old.pairs → left_in_victim new ≤ left_in_victim old → HasFewPairs old → HasFewPairs new
few_on old new victim size pairs left few one =
    let was : victims old ≡ 1 = ap (λ (v : Option ℕ). victims (record old { victim = v })) (sym victim) ∙ one in
    let bound = few was in
    omega (arith, bound, size, pairs, left)

-- what is live was
pub ended_was : {page : ℕ} {old new : Physical} → EndsPage page old new → page < length old.held → (p : ℕ) (h : Held) → held_at new p ≡ Some h → held_at old p ≡ Some h
ended_was {page} {old} {new} d within p h live = ⊎_elim
    (λ here. absurd (none-some h here.1))
    (λ there. there.1)
    (set_held old.held page None within p h (ap (λ (l : List (Option Held)). get_or l p None) (sym d.held) ∙ live))

module _ {old new : Physical} (g : NamesGoneFromSegment old new) where
  pub gone_pages : SameBlocksAndPages old new
  gone_pages = record { same_first = g.range.range_first; same_blocks = g.range.range_blocks; same_size = g.range.range_size; same_wear = λ k. wear_same (use_at old.first old.uses k) (use_at new.first new.uses k) (soiled old k) (soiled new k) (g.kept k) (g.wears k) (g.same_soiled k) }

  pub more_landing : landing old ≤ landing new
  more_landing =
      let a = block_from old.free new.free old.size g.more in
      let e : new.free * new.size ≡ new.free * old.size = ap (λ k. new.free * k) g.range.range_size in
      let d = g.copies.1 in
      omega (arith, a, e, d)

  pub gone_lessens : (gone : ℕ) → left_in_victim new ≤ left_in_victim old → left_in_victim old ≤ left_in_victim new + gone → Lessens gone old new
  gone_lessens gone less most = record {
    victim = g.victim;
    copies = g.copies;
    fewer_wait = let a = g.more in let b = g.blocks in omega (arith, a, b);
    left = less;
    left_most = most;
    lands = λ lands. let m = more_landing in omega (arith, less, lands, m);
  }

  pub gone_reach : gain_of old ≤ gain_of new → reach old ≤ reach new
  gone_reach more =
      let e : (new.free + waiting new) * new.size ≡ (old.free + waiting old) * old.size = (λ i. g.blocks i * g.range.range_size i) in
      let d = g.copies.1 in
      omega (arith, e, d, more)

  pub same_reach : gain_of new ≡ gain_of old → reach new ≡ reach old
  same_reach same =
      let e : (new.free + waiting new) * new.size ≡ (old.free + waiting old) * old.size = (λ i. g.blocks i * g.range.range_size i) in
      let d = g.copies.1 in
      omega (arith, e, d, same)

  frees : (block : ℕ) → is_free new block ≡ true → (is_free old block ≡ true) ⊎ (is_waiting old block ≡ true)
  frees block free = ⊎_elim
      (λ kept. ⊎_elim (λ yes. inl yes) (λ no. inr (wait_is old block kept no)) (cases_Bool (is_free old block)))
      (λ used. absurd (true≢false (sym free ∙ g.others block used)))
      (cases_Bool (is_kept old block))

  pub gone_room : room old ≤ room new
  gone_room =
      let a = g.more in
      let b = block_from (old.free - 1) (new.free - 1) old.size (omega (arith, a)) in
      let e : (new.free - 1) * new.size ≡ (new.free - 1) * old.size = ap (λ k. (new.free - 1) * k) g.range.range_size in
      let l = g.next.1 in
      omega (arith, b, e, l)

  pub gone_unspent : waiting old ≡ 0 → IsUnspent old new
  gone_unspent none = record {
    next = g.next.0;
    left = g.next.1;
    free =
        let a = g.more in
        let b = g.blocks in
        omega (arith, a, b, none);
    same_free = λ block. ⊎_elim
        (λ now. now ∙ sym (⊎_elim (λ was. was) (λ waits. absurd (none_waits old block none waits)) (frees block now)))
        (λ not_now. not_now ∙ sym (⊎_elim (λ was. absurd (true≢false (sym (g.frees block was) ∙ not_now))) (λ no. no) (cases_Bool (is_free old block))))
        (cases_Bool (is_free new block));
    same_kept = g.kept;
    same_erasures = g.wears;
    same_soiled = g.same_soiled;
    copies = g.copies;
  }

  pub gone_back : gain_of old ≤ gain_of new → GivesBackBlocks old new
  gone_back more = record {
    next = g.next.0;
    left = g.next.1;
    soiled = g.same_soiled;
    wears = g.wears;
    blocks = g.blocks;
    frees = frees;
    still = g.frees;
    more_reach = gone_reach more;
    more_room = gone_room;
    same = gone_unspent;
  }

  next_back : (p : ℕ) → IsNextToProgram new p → IsNextToProgram old p
  next_back p next = let a = g.next.0 in let b = g.next.1 in (omega (arith, a, next.0), omega (arith, a, b, next.1))

  pub gone_taken : (p : ℕ) → TakenAsErased new p → TakenAsErased old p
  gone_taken p (inl next) = inl (next_back p next)
  gone_taken p (inr free) = inr (
    sym (g.kept (p / old.size)) ∙ (ap (λ n. is_kept new (p / n)) (sym g.range.range_size) ∙ free.0),
    ap is_some (sym (g.same_soiled (p / old.size))) ∙ (ap (λ n. is_soiled new (p / n)) (sym g.range.range_size) ∙ free.1),
  )

  pub gone_segment : ((p : ℕ) (h : Held) → held_at new p ≡ Some h → held_at old p ≡ Some h) → (image : Image) → IsPhysicalOf image old → IsPhysicalOf image new
  gone_segment was image is = record {
    holds = λ p h held. is.holds p h (was p h held);
    blank = λ p taken. is.blank p (gone_taken p taken);
    blank_copy = λ p next. is.blank_copy p (copy_same old new p g.copies next);
  }

  pub gone_spare : ((p : ℕ) (h : Held) → held_at new p ≡ Some h → held_at old p ≡ Some h) → (image : Image) → CanSpareBlock image old → CanSpareBlock image new
  gone_spare was image is =
      let size = g.range.range_size in
      record {
        block = is.block;
        from = subst (λ n. n ≤ is.block) (sym g.range.range_first) is.from;
        below = subst (λ n. is.block < n) (sym g.range.range_blocks) is.below;
        idle = λ p next at. is.idle p (next_back p next) (ap (λ n. p / n) (sym size) ∙ at);
        copied = λ p h held at.
            let w = is.copied p h (was p h held) (ap (λ n. p / n) (sym size) ∙ at) in
            (w.0, g.victim ∙ (w.1 ∙ ap (λ n. Some (w.0 / n)) (sym size)), (λ e. w.2 (ap (λ n. w.0 / n) (sym size) ∙ e)), w.3);
      }

  pub gone_clean : IsClean old → IsClean new
  gone_clean clean b kept = ap is_some (g.same_soiled b) ∙ clean b (sym (g.kept b) ∙ kept)

  pub gone_kept : KeepsBlock old → KeepsBlock new
  gone_kept k = record {
    block = k.block;
    from = subst (λ n. n ≤ k.block) (sym g.range.range_first) k.from;
    below = subst (λ n. k.block < n) (sym g.range.range_blocks) k.below;
    kept = ⊎_elim (λ is. inl (g.kept k.block ∙ is)) (λ is. inr (g.victim ∙ is)) k.kept;
  }

-- nothing changed
pub nothing_lessens : (gone : ℕ) (seg : Physical) → Lessens gone seg seg
nothing_lessens gone seg = record { victim = refl; copies = (refl, refl); fewer_wait = omega arith; left = omega arith; left_most = omega arith; lands = λ lands. lands }

pub nothing_back : (seg : Physical) → GivesBackBlocks seg seg
nothing_back seg = record {
  next = refl;
  left = refl;
  soiled = λ b. refl;
  wears = λ b. refl;
  blocks = refl;
  frees = λ b free. inl free;
  still = λ b free. free;
  more_reach = omega arith;
  more_room = omega arith;
  same = λ none. record { next = refl; left = refl; free = refl; same_free = λ b. refl; same_kept = λ b. refl; same_erasures = λ b. refl; same_soiled = λ b. refl; copies = (refl, refl) };
}

-- with no victim in hand there are few pairs
pub few_none : (seg : Physical) → seg.victim ≡ None → HasFewPairs seg
few_none seg none one =
    let zero_is : victims seg ≡ 0 = ap (λ (v : Option ℕ). victims (record seg { victim = v })) none in
    absurd (omega (arith, zero_is, one))
