-- The numbers of the space after a call.
use Rattle.std.proofs.Common.{◌≡◌, ◌⊎◌, ⊎_elim, ℕ, ◌+◌, ◌-◌, ◌*◌, ◌<◌, ◌≤◌, cond, List, Option, Some, None, is_some, length, get_or, set, refl, sym, ◌∙◌, ap, subst, arith}
use Rattle.std.proofs.lemmas.List.{get_or-set_other, length-set}
use Rattle.std.proofs.lemmas.List.Sums.{sum_by-set}
use Rattle.nl_iface.specs.Space.{Freed, IsSpace, NoneRetired, SameSegment, FailsToWrite, Wrote, NamesGone}
use Rattle.nl_pseg.specs.Segment.{IsSpent, IsUnspent, Physical, SameBlocksAndPages, room}
use Rattle.nl_pseg.specs.declared.held.Held.{Held}
use Rattle.nl_pseg.specs.Space.{GivesBackBlocks, HasRoomForVictim, Lessens, SameCleaning, waiting}
use Rattle.nl_device.specs.Device.{HasSpareBlock}
use Rattle.nl_device.specs.Space.{live_in, space_of}
use Rattle.nl_device.proofs.SpaceSteps.{is_space, lessened, page_gone, same_segment}

-- where a block is kept the numbers are right
pub space_is : (seg : Physical) → HasSpareBlock seg → IsSpace (space_of seg)
space_is seg has = is_space seg has.whole (has.whole.numbers.kept has.block)

-- a page is live now
pub one_more : (held : List (Option Held)) (p : ℕ) (h : Held) → p < length held → get_or held p None ≡ None → live_in (set held p (Some h)) ≡ live_in held + 1
one_more held p h below dead =
    let weight : Option Held → ℕ = λ h. cond (is_some h) 1 0 in
    let e = sum_by-set weight held p (Some h) None below in
    let z : weight (get_or held p None) ≡ 0 = ap weight dead in
    omega (arith, e, z)

-- a page is live no longer
pub one_less : (held : List (Option Held)) (p : ℕ) (h : Held) → p < length held → get_or held p None ≡ Some h → live_in (set held p None) + 1 ≡ live_in held
one_less held p h below live =
    let weight : Option Held → ℕ = λ h. cond (is_some h) 1 0 in
    let e = sum_by-set weight held p None None below in
    let z : weight (get_or held p None) ≡ 1 = ap weight live in
    omega (arith, e, z)

same_pages : (old new : Physical) → SameBlocksAndPages old new → SameSegment (space_of old) (space_of new)
same_pages old new same = same_segment old new same.same_first same.same_blocks same.same_size

no_more : (xs ys : List (ℕ × ℕ)) → ys ≡ xs → length ys ≤ length xs
no_more xs ys same = let e = ap (λ (ps : List (ℕ × ℕ)). length ps) same in omega (arith, e)

-- where nothing of cleaning changed, nothing of it is less
pub still_lessens : (old new : Physical) → SameCleaning old new → (HasRoomForVictim old → HasRoomForVictim new) → Lessens 0 old new
still_lessens old new same lands = record {
  victim = same.victim;
  copies = same.copies;
  fewer_wait = let w = same.same_waiting in omega (arith, w);
  left = let l = same.left in omega (arith, l);
  left_most = let l = same.left in omega (arith, l);
  lands = lands;
}

pub wrote : (old new : Physical) → SameBlocksAndPages old new → Lessens 0 old new → waiting new ≡ waiting old → IsSpent old new → live_in new.held + 0 ≡ live_in old.held + 1 → new.pairs ≡ old.pairs → Wrote 0 (space_of old) (space_of new)
unfolding space_of
wrote old new same fewer waits is live pairs = record {
  same = same_pages old new same;
  lessened = lessened 0 old new (no_more old.pairs new.pairs pairs) fewer;
  live = live;
  room = λ none. let r = is.room in omega (arith, r);
  exact = λ none either. (waits, is.room);
}

-- a page was placed in place of another one
pub wrote_over : (old new : Physical) → SameBlocksAndPages old new → Lessens 1 old new → room old ≤ room new + 1 → (waiting old ≡ 0 → IsSpent old new) → live_in new.held + 1 ≡ live_in old.held + 1 → length new.pairs ≤ length old.pairs → Wrote 1 (space_of old) (space_of new)
unfolding space_of
wrote_over old new same fewer room spent live pairs = record {
  same = same_pages old new same;
  lessened = lessened 1 old new pairs fewer;
  live = live;
  room = λ none. room;
  exact = λ none either. ⊎_elim
      (λ one. absurd (omega (arith, one)))
      (λ waits. let few = fewer.fewer_wait in (omega (arith, waits, few), (spent waits).room))
      either;
}

pub write_failed : (old new : Physical) → SameBlocksAndPages old new → SameCleaning old new → (HasRoomForVictim old → HasRoomForVictim new) → IsSpent old new ⊎ IsUnspent old new → new.held ≡ old.held → new.pairs ≡ old.pairs → FailsToWrite (space_of old) (space_of new)
unfolding space_of
write_failed old new same cleaning lands spent held pairs = record {
  same = same_pages old new same;
  lessened = lessened 0 old new (no_more old.pairs new.pairs pairs) (still_lessens old new cleaning lands);
  waiting = cleaning.same_waiting;
  pairs = ap (λ (ps : List (ℕ × ℕ)). length ps) pairs;
  live = ap live_in held;
  room = ⊎_elim (λ is. let r = is.room in omega (arith, r)) (λ is. let r = unspent_room old new same is in omega (arith, r)) spent;
  room_most = λ none. ⊎_elim (λ is. let r = is.room in omega (arith, r)) (λ is. let r = unspent_room old new same is in omega (arith, r)) spent;
}
  where
    unspent_room : (old new : Physical) → SameBlocksAndPages old new → IsUnspent old new → room new ≡ room old
    unspent_room old new same is = λ i. is.left i + (is.free i - 1) * same.same_size i

pub freed : (old new : Physical) → SameBlocksAndPages old new → Lessens 1 old new → GivesBackBlocks old new → live_in new.held + 1 ≡ live_in old.held → length new.pairs ≤ length old.pairs → Freed (space_of old) (space_of new)
freed old new same fewer back live pairs = page_gone old new same live pairs fewer back

-- one page more is live
pub wrote_one : (old new : Physical) (at : ℕ) (h : Held) → SameBlocksAndPages old new → SameCleaning old new → (HasRoomForVictim old → HasRoomForVictim new) → IsSpent old new → at < length old.held → get_or old.held at None ≡ None → new.held ≡ set old.held at (Some h) → new.pairs ≡ old.pairs
    → Wrote 0 (space_of old) (space_of new)
wrote_one old new at h same cleaning lands is below dead held pairs =
    let e = ap live_in held in
    let m = one_more old.held at h below dead in
    wrote old new same (still_lessens old new cleaning lands) cleaning.same_waiting is (omega (arith, e, m)) pairs

-- a page is live in place of another one
pub one_for_one : (held : List (Option Held)) (p q : ℕ) (h x : Held) → p < length held → q < length held → (q ≡ p → ⊥) → get_or held p None ≡ None → get_or held q None ≡ Some x → live_in (set (set held p (Some h)) q None) + 1 ≡ live_in held + 1
one_for_one held p q h x below within apart dead live =
    let more = one_more held p h below dead in
    let less = one_less (set held p (Some h)) q x (subst (λ n. q < n) (sym (length-set held p (Some h))) within) (get_or-set_other held p q (Some h) None apart ∙ live) in
    omega (arith, more, less)

pub free_is : (seg : Physical) → (space_of seg).free ≡ seg.free
unfolding space_of
free_is seg = refl

pub waiting_is : (seg : Physical) → (space_of seg).waiting ≡ waiting seg
unfolding space_of
waiting_is seg = refl

-- no block is bad
pub none_retired : (old new : Physical) → NoneRetired (space_of old) (space_of new)
unfolding space_of
none_retired old new = refl

-- no name is gone
pub names_gone : (seg : Physical) → NamesGone (space_of seg) (space_of seg)
names_gone seg = record {
  same = record { block = refl; all = refl; bad = omega arith; kept = refl };
  bad = refl;
  lessened = record { victim = refl; waiting = omega arith; pairs = omega arith; left = omega arith; left_most = omega arith; lands = λ none lands. lands };
  blocks = refl;
  live = refl;
  reach = refl;
  room = omega arith;
}

pub pairs_is : (seg : Physical) → (space_of seg).pairs ≡ length seg.pairs
unfolding space_of
pairs_is seg = refl

-- a victim in hand, or none
pub none_victim : (seg : Physical) → seg.victim ≡ None → (space_of seg).victim ≡ 0
unfolding space_of
none_victim seg none = ap (λ (o : Option ℕ). cond (is_some o) 1 0) none

pub victim_none : (seg : Physical) → (space_of seg).victim ≡ 0 → seg.victim ≡ None
unfolding space_of
victim_none seg is = by seg.victim is
  where
    count : Option ℕ → ℕ
    count o = cond (is_some o) 1 0

    by : (o : Option ℕ) → count o ≡ 0 → o ≡ None
    by None e = refl
    by (Some v) e = absurd (omega (arith, e))
