-- When there is nothing to copy.
use Rattle.std.proofs.Common.{◌≡◌, inl, inr, ⊎_elim, ℕ, ◌*◌, Bool, true, false, cond, is_some, length, refl, sym, ◌∙◌, ap, subst, arith}
use Rattle.std.specs.Prelude.{◌↔◌, IsTrue}
use Rattle.std.specs.Bool.{OnFalse, OnTrue}
use Rattle.std.proofs.lemmas.Bool.{OnFalse_at, OnTrue_at, cases_Bool, cases_eq, cases_lt, true≢false}
use Rattle.nl_iface.specs.Moves.{HasNothingToCopy}
use Rattle.nl_iface.specs.Space.{CanLand}
use Rattle.nl_pseg.specs.Cleaning.{BeginsBlock, CannotBegin, IsChosen}
use Rattle.nl_pseg.specs.Segment.{Physical}
use Rattle.nl_pseg.specs.Space.{HasRoomForVictim, IsWhole, dead_pages, left_in_victim, victims}
use Rattle.nl_device.specs.Space.{space_of}

pub left_is : (seg : Physical) → (space_of seg).left ≡ left_in_victim seg
unfolding space_of
left_is seg = refl

pub land_can : (seg : Physical) → HasRoomForVictim seg → CanLand (space_of seg)
unfolding space_of
land_can seg lands = lands

can_land : (seg : Physical) → CanLand (space_of seg) → HasRoomForVictim seg
unfolding space_of
can_land seg lands = lands

pub mid_lands : (old mid : Physical) (began : Bool) → CanLand (space_of old) → OnTrue began ((block : ℕ) × IsChosen false old block × BeginsBlock block old mid) → OnFalse began (mid ≡ old) → HasRoomForVictim mid
mid_lands old mid began lands begun none = ⊎_elim
    (λ is. let b : (block : ℕ) × IsChosen false old block × BeginsBlock block old mid = OnTrue_at is begun in b.2.lands)
    (λ is. subst HasRoomForVictim (sym (OnFalse_at is none)) (can_land old lands))
    (cases_Bool began)

pub none_left : (seg : Physical) → IsWhole seg → victims seg ≡ 0 → left_in_victim seg ≡ 0
none_left seg whole none = let v = whole.numbers.victim in let e : victims seg * seg.size ≡ 0 * seg.size = ap (λ n. n * seg.size) none in omega (arith, v, e)

-- a victim with live pages is in hand
pub in_hand : (seg : Physical) → IsWhole seg → (left_in_victim seg ≡ 0 → ⊥) → victims seg ≡ 1
in_hand seg whole some = ⊎_elim
    (λ hand. ap (λ b. cond b 1 0) hand)
    (λ none. absurd (some (none_left seg whole (ap (λ b. cond b 1 0) none))))
    (cases_Bool (is_some seg.victim))

cannot_idle : (seg : Physical) → HasNothingToCopy (space_of seg) → CannotBegin false seg
unfolding space_of
cannot_idle seg (inl hand) = inl hand.0
cannot_idle seg (inr why) = ⊎_elim (λ dead. inr (inr (inr dead))) (λ rest. ⊎_elim (λ many. inr (inl many)) (λ free. inr (inr (inl free))) rest) why.1

idle_left : (seg : Physical) → IsWhole seg → HasNothingToCopy (space_of seg) → left_in_victim seg ≡ 0
unfolding space_of
idle_left seg whole (inl hand) = hand.1
idle_left seg whole (inr why) = none_left seg whole why.0

-- where nothing can be copied, no victim is begun, and none is in hand that has a live page
pub idle_mid : (old mid : Physical) (began : Bool) → IsTrue began ↔ (CannotBegin false old → ⊥) → OnFalse began (mid ≡ old) → IsWhole old → HasNothingToCopy (space_of old) → (began ≡ false) × (left_in_victim mid ≡ 0)
idle_mid old mid began cannot none whole idle =
    let un : began ≡ false = ⊎_elim (λ is. absurd (cannot.0 is (cannot_idle old idle))) (λ is. is) (cases_Bool began) in
    (un, ap left_in_victim (OnFalse_at un none) ∙ idle_left old whole idle)

mid_reason : (seg : Physical) → ((CannotBegin false seg → ⊥) → ⊥) → left_in_victim seg ≡ 0 → HasNothingToCopy (space_of seg)
unfolding space_of
mid_reason seg off left = ⊎_elim
    (λ some. inl (by some, left))
    (λ none.
    let zero : victims seg ≡ 0 = ap (λ b. cond b 1 0) none in
    inr (
      zero,
      ⊎_elim
          (λ dead. inl dead)
          (λ dead. inr (⊎_elim
          (λ many. inl many)
          (λ few. inr (⊎_elim
          (λ free. free)
          (λ free. absurd (off (λ why. ⊎_elim (λ hand. omega (arith, hand, zero)) (λ rest. ⊎_elim (λ many. omega (arith, many, few)) (λ more. ⊎_elim (λ f. free f) (λ z. dead z) more) rest) why)))
          (cases_eq seg.free 0)))
          (cases_lt (2 * seg.size) (length seg.pairs))))
          (cases_eq (dead_pages seg) 0),
    ))
    (cases_Bool (is_some seg.victim))
  where
    by : is_some seg.victim ≡ true → victims seg ≡ 1
    by some = ap (λ b. cond b 1 0) some

-- where no victim was begun, and none in hand has a live page, there is nothing to copy
pub mid_idle : (old mid : Physical) (began : Bool) → IsTrue began ↔ (CannotBegin false old → ⊥) → OnFalse began (mid ≡ old) → began ≡ false → left_in_victim mid ≡ 0 → HasNothingToCopy (space_of old)
mid_idle old mid began cannot none un left = mid_reason old (λ off. true≢false (sym (cannot.1 off) ∙ un)) (ap left_in_victim (sym (OnFalse_at un none)) ∙ left)
