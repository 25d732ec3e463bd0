-- How segments go on.
use Rattle.std.proofs.Common.{◌≡◌, ◌⊎◌, inl, inr, ⊎_elim, ℕ, ◌+◌, ◌-◌, ◌*◌, ◌/◌, ◌<◌, ◌≤◌, nat_le, true, false, Option, Some, None, List, length, get_or, set, refl, sym, ◌∙◌, ap, subst, arith, IsTrue, IfSome, is_some}
use Rattle.std.proofs.lemmas.Bool.{cases_eq, cases_Bool, cases_lt, leb-true, true≢false}
use Rattle.std.proofs.lemmas.List.{get_or-set_same, get_or-set_other, get_or_past, get_or_read}
use Rattle.std.proofs.lemmas.Option.{none-some, same_Some}
use Rattle.nl_field.specs.Spelling.{is_stamp}
use Rattle.nl_pseg.specs.Segment.{Physical, IsNextToProgram, IsNextCopy, InSegment, IsUnspent, SameBlocksAndPages, TakenAsErased, held_at, is_kept, is_soiled, stamp_in, soiled}
use Rattle.nl_pseg_blocks.specs.Uses.{Use, no_use, use_at}
use Rattle.nl_pseg.specs.Seen.{AreLivePlaces, IsLivePlace}
use Rattle.nl_pseg.specs.Steps.{UsesNextPage, OpensFreeBlock, SameRange}
use Rattle.nl_pseg.specs.declared.held.Held.{Held}
use Rattle.nl_pseg.proofs.Numbers.{block_of}
use Rattle.nl_pseg_blocks.proofs.Tables.{use_from, use_before}

-- a kept block is one of the segment
pub kept_within : (first : ℕ) (uses : List Use) (block : ℕ) → (use_at first uses block).is_kept ≡ true → (first ≤ block) × (block < first + length uses)
kept_within first uses block free = elim (cases_Bool (nat_le first block)) [
  | inl from_is ↦
      let from : first ≤ block = leb-true first block from_is in
      elim (cases_lt (block - first) (length uses)) [
        | inl lt ↦ (from, omega (arith, from, lt))
        | inr past ↦ absurd (true≢false (sym free ∙ ap (λ (u : Use). u.is_kept) (use_from first uses block from ∙ get_or_past uses (block - first) no_use past)))
      ]
  | inr before ↦ absurd (true≢false (sym free ∙ ap (λ (u : Use). u.is_kept) (use_before first uses block before)))
]

-- a live page is below the length
pub held_within : (held : List (Option Held)) (page : ℕ) (h : Held) → get_or held page None ≡ Some h → page < length held
held_within held page h is = elim (cases_lt page (length held)) [
  | inl within ↦ within
  | inr past ↦ absurd (none-some h (sym (get_or_past held page None past) ∙ is))
]

-- what was read of a list
pub was_read : {X : Type 0} (xs : List X) (i : ℕ) (x y d : X) → i < length xs → x ≡ get_or xs i x → x ≡ y → get_or xs i d ≡ y
was_read xs i x y d within read is = sym (get_or_read xs i x within read d) ∙ is

-- the number of what is live
pub live_stamp : {x : Option Held} (h : Held) (stamp : ℕ) → x ≡ Some h → stamp_in x ≡ Some stamp → h.stamp ≡ stamp
live_stamp h stamp is live = same_Some h.stamp stamp (ap stamp_in (sym is) ∙ live)

-- what is on a page, where one page was set
pub set_held : (held : List (Option Held)) (page : ℕ) (x : Option Held) → page < length held → (p : ℕ) (h : Held) → get_or (set held page x) p None ≡ Some h
    → ((p ≡ page) × (x ≡ Some h)) ⊎ ((p ≡ page → ⊥) × (get_or held p None ≡ Some h))
set_held held page x within p h is = elim (cases_eq p page) [
  | inl same ↦ inl (same, sym (get_or-set_same held page x None within) ∙ (ap (λ n. get_or (set held page x) n None) (sym same) ∙ is))
  | inr ne ↦ inr (ne, sym (get_or-set_other held page p x None ne) ∙ is)
]

-- the places are those of pages that are not given out and not Free
pub dead_kept : (seg : Physical) → AreLivePlaces seg → (p : ℕ) → is_kept seg (p / seg.size) ≡ true → held_at seg p ≡ None
dead_kept seg are p free = at (held_at seg p) refl
  where
    at : (x : Option Held) → held_at seg p ≡ x → held_at seg p ≡ None
    at None is = is
    at (Some h) is = absurd (true≢false (sym free ∙ (are.each p h is).in_use))

pub dead_next : (seg : Physical) → AreLivePlaces seg → (p : ℕ) → IsNextToProgram seg p → held_at seg p ≡ None
dead_next seg are p next = at (held_at seg p) refl
  where
    at : (x : Option Held) → held_at seg p ≡ x → held_at seg p ≡ None
    at None is = is
    at (Some h) is = absurd ((are.each p h is).behind next)

pub range_of : {old new : Physical} → SameBlocksAndPages old new → SameRange old new
range_of same = record { range_first = same.same_first; range_blocks = same.same_blocks; range_size = same.same_size }

pub within_same : {old new : Physical} (p : ℕ) → SameRange old new → InSegment old p → InSegment new p
within_same {old} {new} p same within =
    let low : new.first * new.size ≡ old.first * old.size = (λ i. same.range_first i * same.range_size i) in
    let high : new.blocks * new.size ≡ old.blocks * old.size = (λ i. same.range_blocks i * same.range_size i) in
    (omega (arith, low, within.0), omega (arith, high, within.1))

pub pages_back : {old new : Physical} → SameBlocksAndPages old new → SameBlocksAndPages new old
pages_back same = record { same_first = sym same.same_first; same_blocks = sym same.same_blocks; same_size = sym same.same_size; same_wear = λ block. sym (same.same_wear block) }

pub pages_then : {a b c : Physical} → SameBlocksAndPages a b → SameBlocksAndPages b c → SameBlocksAndPages a c
pages_then first second = record {
  same_first = second.same_first ∙ first.same_first;
  same_blocks = second.same_blocks ∙ first.same_blocks;
  same_size = second.same_size ∙ first.same_size;
  same_wear = λ block. second.same_wear block ∙ first.same_wear block;
}

-- the same pages for copies
pub copy_same : (old new : Physical) (p : ℕ) → (new.copy_next ≡ old.copy_next) × (new.copy_left ≡ old.copy_left) → IsNextCopy new p → IsNextCopy old p
copy_same old new p same next = let a = same.0 in let b = same.1 in (omega (arith, a, next.0), omega (arith, a, b, next.1))

-- a place stays one
pub place_same : {old new : Physical} (p : ℕ) (h : Held) → SameRange old new → (is_kept new (p / old.size) ≡ false) → (IsNextToProgram new p → ⊥) → IsLivePlace old p h → IsLivePlace new p h
place_same {old} {new} p h same in_use behind is = record {
  within = within_same p same is.within;
  in_use = ap (λ n. is_kept new (p / n)) same.range_size ∙ in_use;
  behind = behind;
  spelled = is.spelled;
}

-- the next page was used
module _ {x : Option Held} {old new : Physical} (u : UsesNextPage x old new) where
  next_fewer : (p : ℕ) → IsNextToProgram new p → IsNextToProgram old p × (p ≡ old.next → ⊥)
  next_fewer p next =
      let n = u.next in
      let l = u.left in
      ((omega (arith, n, next.0), omega (arith, n, l, next.1)), λ same. omega (arith, same, n, next.0))

  pub used_places : 0 < old.size → old.next < length old.held → InSegment old old.next → is_kept old (old.next / old.size) ≡ false → IfSome x (λ h. IsTrue (is_stamp h.stamp)) → AreLivePlaces old → AreLivePlaces new
  used_places some within segment in_use spelled are = record {
    each = λ p h is. each p h (set_held old.held old.next x within p h (ap (λ (l : List (Option Held)). get_or l p None) (sym u.held) ∙ is));
  }
    where
      stays : (b : ℕ) → is_kept old b ≡ false → is_kept new b ≡ false
      stays b was = ap (λ (w : Use). w.is_kept) (u.uses b) ∙ was

      each : (p : ℕ) (h : Held) → ((p ≡ old.next) × (x ≡ Some h)) ⊎ ((p ≡ old.next → ⊥) × (held_at old p ≡ Some h)) → IsLivePlace new p h
      each p h (inl here) = record {
        within = within_same p (range_of u.pages) (subst (InSegment old) (sym here.0) segment);
        in_use = ap (λ n. is_kept new (p / n)) u.pages.same_size ∙ stays (p / old.size) (ap (λ q. is_kept old (q / old.size)) here.0 ∙ in_use);
        behind = λ next. (next_fewer p next).1 here.0;
        spelled = subst (λ (y : Option Held). IfSome y (λ k. IsTrue (is_stamp k.stamp))) here.1 spelled;
      }
      each p h (inr there) =
          let was = are.each p h there.1 in
          place_same p h (range_of u.pages) (stays (p / old.size) was.in_use) (λ next. was.behind (next_fewer p next).0) was

  -- what is taken as erased then, was before, and is not that page
  pub used_taken : is_kept old (old.next / old.size) ≡ false → (p : ℕ) → TakenAsErased new p → TakenAsErased old p × (p ≡ old.next → ⊥)
  used_taken in_use p (inl next) = let n = next_fewer p next in (inl n.0, n.1)
  used_taken in_use p (inr free) =
      let at : (use_at old.first old.uses (p / old.size)).is_kept ≡ true = ap (λ (w : Use). w.is_kept) (sym (u.uses (p / old.size))) ∙ (ap (λ n. is_kept new (p / n)) (sym u.pages.same_size) ∙ free.0) in
      let clean : is_soiled old (p / old.size) ≡ false = ap (λ (l : List (Option ℕ)). is_soiled (record old { soiled = l }) (p / old.size)) (sym u.soiled) ∙ (ap (λ n. is_soiled new (p / n)) (sym u.pages.same_size) ∙ free.1) in
      (inr (at, clean), λ same. true≢false (sym at ∙ (ap (λ q. is_kept old (q / old.size)) same ∙ in_use)))

-- a Free block is written to
module _ {block : ℕ} {old new : Physical} (o : OpensFreeBlock block old new) where
  pub opened_next : 0 < old.size → (p : ℕ) → IsNextToProgram new p → p / old.size ≡ block
  opened_next some p next = let n = o.next in let l = o.left in block_of p old.size block (omega (arith, n, next.0)) (omega (arith, n, l, next.1))

  pub opened_places : 0 < old.size → AreLivePlaces old → AreLivePlaces new
  opened_places some are = record {
    each = λ p h is.
        let was = are.each p h (ap (λ (l : List (Option Held)). get_or l p None) (sym o.held) ∙ is) in
        let ne : p / old.size ≡ block → ⊥ = (λ at. true≢false (sym o.was_kept ∙ (ap (is_kept old) (sym at) ∙ was.in_use))) in
        place_same p h (range_of o.pages) (ap (λ (w : Use). w.is_kept) (o.others (p / old.size) ne) ∙ was.in_use) (λ next. ne (opened_next some p next)) was;
  }

-- a page died, and no page was given out
module _ {old new : Physical} (same : SameBlocksAndPages old new) (space : IsUnspent old new) where
  next_back : (p : ℕ) → IsNextToProgram new p → IsNextToProgram old p
  next_back p next = let n = space.next in let l = space.left in (omega (arith, n, next.0), omega (arith, n, l, next.1))

  pub unspent_taken : (p : ℕ) → TakenAsErased new p → TakenAsErased old p
  unspent_taken p (inl next) = inl (next_back p next)
  unspent_taken p (inr free) = inr (
    sym (space.same_kept (p / old.size)) ∙ (ap (λ n. is_kept new (p / n)) (sym same.same_size) ∙ free.0),
    ap is_some (sym (space.same_soiled (p / old.size))) ∙ (ap (λ n. is_soiled new (p / n)) (sym same.same_size) ∙ free.1),
  )

  pub unspent_places : ((p : ℕ) (h : Held) → held_at new p ≡ Some h → held_at old p ≡ Some h) → AreLivePlaces old → AreLivePlaces new
  unspent_places back are = record {
    each = λ p h is.
        let was = are.each p h (back p h is) in
        place_same p h (range_of same) (space.same_kept (p / old.size) ∙ was.in_use) (λ next. was.behind (next_back p next)) was;
  }

-- a page of a block is live, and is not programmed next
pub held_places : {old new : Physical} (page : ℕ) (h : Held) → SameRange old new → new.held ≡ set old.held page (Some h) → page < length old.held → IsLivePlace new page h
    → ((b : ℕ) → is_kept old b ≡ false → is_kept new b ≡ false) → ((p : ℕ) → IsNextToProgram new p → IsNextToProgram old p) → AreLivePlaces old → AreLivePlaces new
held_places {old} {new} page h range held within place free next are = record {
  each = λ p k is. each p k (set_held old.held page (Some h) within p k (ap (λ (l : List (Option Held)). get_or l p None) (sym held) ∙ is));
}
  where
    each : (p : ℕ) (k : Held) → ((p ≡ page) × (Some h ≡ Some k)) ⊎ ((p ≡ page → ⊥) × (held_at old p ≡ Some k)) → IsLivePlace new p k
    each p k (inl here) = subst (λ n. IsLivePlace new n k) (sym here.0) (subst (IsLivePlace new page) (same_Some h k here.1) place)
    each p k (inr there) =
        let was = are.each p k there.1 in
        place_same p k range (free (p / old.size) was.in_use) (λ n. was.behind (next p n)) was

-- Apart from one block, what is taken as erased stays. Nothing of that block is taken as erased then.
pub record IsApart (block : ℕ) (old new : Physical) : Type 0 where
  pub range : SameRange old new
  pub next : new.next ≡ old.next
  pub left : new.left ≡ old.left
  pub idle : (p : ℕ) → IsNextToProgram old p → p / old.size ≡ block → ⊥
  pub others_kept : (other : ℕ) → (other ≡ block → ⊥) → is_kept new other ≡ is_kept old other
  pub others_soiled : (other : ℕ) → (other ≡ block → ⊥) → soiled new other ≡ soiled old other
  pub gone : is_kept new block ≡ true → is_soiled new block ≡ false → ⊥

module _ {block : ℕ} {old new : Physical} (apart : IsApart block old new) where
  apart_next : (p : ℕ) → IsNextToProgram new p → IsNextToProgram old p
  apart_next p next = let n = apart.next in let l = apart.left in (omega (arith, n, next.0), omega (arith, n, l, next.1))

  pub apart_taken : (p : ℕ) → TakenAsErased new p → TakenAsErased old p × (p / old.size ≡ block → ⊥)
  apart_taken p (inl next) = (inl (apart_next p next), apart.idle p (apart_next p next))
  apart_taken p (inr free) =
      let at : is_kept new (p / old.size) ≡ true = ap (λ n. is_kept new (p / n)) (sym apart.range.range_size) ∙ free.0 in
      let clean : is_soiled new (p / old.size) ≡ false = ap (λ n. is_soiled new (p / n)) (sym apart.range.range_size) ∙ free.1 in
      let ne : p / old.size ≡ block → ⊥ = (λ is. apart.gone (ap (is_kept new) (sym is) ∙ at) (ap (is_soiled new) (sym is) ∙ clean)) in
      (inr (sym (apart.others_kept (p / old.size) ne) ∙ at, ap is_some (sym (apart.others_soiled (p / old.size) ne)) ∙ clean), ne)

  pub apart_still : (p : ℕ) → TakenAsErased old p → (p / old.size ≡ block → ⊥) → TakenAsErased new p
  apart_still p (inl next) ne = let n = apart.next in let l = apart.left in inl (omega (arith, n, next.0), omega (arith, n, l, next.1))
  apart_still p (inr free) ne = inr (
    ap (λ n. is_kept new (p / n)) apart.range.range_size ∙ (apart.others_kept (p / old.size) ne ∙ free.0),
    ap (λ n. is_soiled new (p / n)) apart.range.range_size ∙ (ap is_some (apart.others_soiled (p / old.size) ne) ∙ free.1),
  )

-- a live page died
pub ended_places : (seg : Physical) (page : ℕ) → page < length seg.held → AreLivePlaces seg → AreLivePlaces (record seg { held = set seg.held page None })
ended_places seg page within are = record {
  each = λ p h is. ⊎_elim
      (λ here. absurd (none-some h here.1))
      (λ there. let was = are.each p h there.1 in record { within = was.within; in_use = was.in_use; behind = was.behind; spelled = was.spelled })
      (set_held seg.held page None within p h is);
}
