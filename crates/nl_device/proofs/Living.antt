-- The live pages after a call.
use Rattle.std.proofs.Common.{◌≡◌, ◌⊎◌, inl, inr, ⊎_elim, ℕ, ◌+◌, ◌*◌, ◌<◌, ◌≤◌, ◌==◌, cond, List, [], Option, Some, None, length, get_or, set, refl, sym, ◌∙◌, ap, subst, arith, eq-eqb, ne_eqb}
use Rattle.std.proofs.lemmas.Bool.{cases_eq, cond-true, cond-false}
use Rattle.std.proofs.lemmas.List.{get_or-set_same, get_or-set_other, length-set}
use Rattle.std.proofs.lemmas.Option.{same_Some, none-some}
use Rattle.std.specs.Prelude.{Contains}
use Rattle.nl_field.specs.declared.pointer.Tag.{Tag}
use Rattle.nl_iface.specs.Names.{LivePage, with_page, without_page}
use Rattle.nl_pseg.specs.Space.{IsWhole, waiting}
use Rattle.nl_pseg.specs.Segment.{InSegment, Physical, SameBlocksAndPages, TakenAsErased, held_at}
use Rattle.nl_pseg.specs.declared.held.Held.{Held}
use Rattle.nl_device.specs.Device.{HasLive}
use Rattle.nl_device.specs.Shown.{live_page}

-- with one page more
pub set_live : (held : List (Option Held)) (name : ℕ) (tag : Tag) (stamp : ℕ) → name < length held → (q : ℕ)
    → live_page (get_or (set held name (Some (record { tag = tag; stamp = stamp }))) q None) ≡ with_page (λ p. live_page (get_or held p None)) name (record { tag = tag; stamp = stamp }) q
set_live held name tag stamp below q = elim (cases_eq q name) [
  | inl is ↦ ap (λ n. live_page (get_or (set held name (Some (record { tag = tag; stamp = stamp }))) n None)) is ∙ (ap live_page (get_or-set_same held name (Some (record { tag = tag; stamp = stamp })) None below)
      ∙ sym (cond-true (q == name) (Some (record { tag = tag; stamp = stamp })) (live_page (get_or held q None)) (eq-eqb q name is)))
  | inr ne ↦ ap live_page (get_or-set_other held name q (Some (record { tag = tag; stamp = stamp })) None ne) ∙ sym (cond-false (q == name) (Some (record { tag = tag; stamp = stamp })) (live_page (get_or held q None)) (ne_eqb q name ne))
]

-- with one page less
pub clear_live : (held : List (Option Held)) (place : ℕ) → place < length held → (q : ℕ) → live_page (get_or (set held place None) q None) ≡ without_page (λ p. live_page (get_or held p None)) place q
clear_live held place below q = elim (cases_eq q place) [
  | inl is ↦ ap (λ n. live_page (get_or (set held place None) n None)) is ∙ (ap live_page (get_or-set_same held place None None below)
      ∙ sym (cond-true (q == place) None (live_page (get_or held q None)) (eq-eqb q place is)))
  | inr ne ↦ ap live_page (get_or-set_other held place q None None ne) ∙ sym (cond-false (q == place) None (live_page (get_or held q None)) (ne_eqb q place ne))
]

-- with a new page in place of another one
pub swap_live : (held : List (Option Held)) (name place : ℕ) (tag : Tag) (stamp : ℕ) → name < length held → place < length held → (name ≡ place → ⊥) → (q : ℕ)
    → live_page (get_or (set (set held name (Some (record { tag = tag; stamp = stamp }))) place None) q None) ≡ with_page (without_page (λ p. live_page (get_or held p None)) place) name (record { tag = tag; stamp = stamp }) q
swap_live held name place tag stamp below within apart q =
    let x : Option Held = Some (record { tag = tag; stamp = stamp }) in
    let page : LivePage = record { tag = tag; stamp = stamp } in
    let old : ℕ → Option LivePage = λ p. live_page (get_or held p None) in
    clear_live (set held name x) place (subst (λ n. place < n) (sym (length-set held name x)) within) q
    ∙ elim (cases_eq q place) [
      | inl is ↦ cond-true (q == place) None (live_page (get_or (set held name x) q None)) (eq-eqb q place is)
          ∙ sym (cond-false (q == name) (Some page) (without_page old place q) (ne_eqb q name (λ same. apart (sym same ∙ is))) ∙ cond-true (q == place) None (old q) (eq-eqb q place is))
      | inr ne ↦ cond-false (q == place) None (live_page (get_or (set held name x) q None)) (ne_eqb q place ne)
          ∙ (set_live held name tag stamp below q ∙ ap (λ o. cond (q == name) (Some page) o) (sym (cond-false (q == place) None (old q) (ne_eqb q place ne))))
    ]

-- what is held after a page more
pub set_held : (held : List (Option Held)) (name : ℕ) (x : Held) (q : ℕ) (h : Held) → name < length held → get_or (set held name (Some x)) q None ≡ Some h → ((q ≡ name) × (x ≡ h)) ⊎ ((q ≡ name → ⊥) × (get_or held q None ≡ Some h))
set_held held name x q h below is = elim (cases_eq q name) [
  | inl same ↦ inl (same, same_Some x h (sym (get_or-set_same held name (Some x) None below) ∙ (ap (λ n. get_or (set held name (Some x)) n None) (sym same) ∙ is)))
  | inr ne ↦ inr (ne, sym (get_or-set_other held name q (Some x) None ne) ∙ is)
]

-- what is live after one page less
pub clear_held : (held : List (Option Held)) (place q : ℕ) (h : Held) → place < length held → get_or (set held place None) q None ≡ Some h → (q ≡ place → ⊥) × (get_or held q None ≡ Some h)
clear_held held place q h below is = elim (cases_eq q place) [
  | inl same ↦ absurd (none-some h (sym (get_or-set_same held place None None below) ∙ (ap (λ n. get_or (set held place None) n None) (sym same) ∙ is)))
  | inr ne ↦ (ne, sym (get_or-set_other held place q None None ne) ∙ is)
]

-- the pages are where they were
pub moved_in : (old new : Physical) → SameBlocksAndPages old new → (p : ℕ) → InSegment old p → InSegment new p
moved_in old new same p is = (subst (λ n. n ≤ p) (sym (λ i. same.same_first i * same.same_size i)) is.0, subst (λ n. p < n) (sym (λ i. same.same_blocks i * same.same_size i)) is.1)

-- a new page, whose stamp is new
pub live_more : (old new : Physical) (name next : ℕ) (tag : Tag) → HasLive old → SameBlocksAndPages old new → ((p : ℕ) → TakenAsErased new p → InSegment new p) → InSegment old name → name < length old.held
    → ((p : ℕ) (h : Held) → held_at old p ≡ Some h → h.stamp < next) → new.held ≡ set old.held name (Some (record { tag = tag; stamp = next })) → HasLive new
live_more old new name next tag live same blank within below fresh is = record {
  in_segment = λ p h has. moved_in old new same p (⊎_elim (λ here. subst (InSegment old) (sym here.0) within) (λ was. live.in_segment p h was.1) (split p h has));
  blank_in = blank;
  differ = λ p q g h p_has q_has e. ⊎_elim
      (λ a. ⊎_elim
      (λ b. a.0 ∙ sym b.0)
      (λ b. let lt = fresh q h b.1 in let s = ap (λ (x : Held). x.stamp) a.1 in absurd (omega (arith, lt, s, e)))
      (split q h q_has))
      (λ a. ⊎_elim
      (λ b. let lt = fresh p g a.1 in let s = ap (λ (x : Held). x.stamp) b.1 in absurd (omega (arith, lt, s, e)))
      (λ b. live.differ p q g h a.1 b.1 e)
      (split q h q_has))
      (split p g p_has);
}
  where
    split : (p : ℕ) (h : Held) → held_at new p ≡ Some h → ((p ≡ name) × (record { tag = tag; stamp = next } ≡ h)) ⊎ ((p ≡ name → ⊥) × (held_at old p ≡ Some h))
    split p h has = set_held old.held name (record { tag = tag; stamp = next }) p h below (ap (λ (l : List (Option Held)). get_or l p None) (sym is) ∙ has)

-- one page less
pub live_less : (old new : Physical) (place : ℕ) → HasLive old → SameBlocksAndPages old new → ((p : ℕ) → TakenAsErased new p → InSegment new p) → place < length old.held → new.held ≡ set old.held place None → HasLive new
live_less old new place live same blank below is = record {
  in_segment = λ p h has. moved_in old new same p (live.in_segment p h (split p h has).1);
  blank_in = blank;
  differ = λ p q g h p_has q_has e. live.differ p q g h (split p g p_has).1 (split q h q_has).1 e;
}
  where
    split : (p : ℕ) (h : Held) → held_at new p ≡ Some h → (p ≡ place → ⊥) × (held_at old p ≡ Some h)
    split p h has = clear_held old.held place p h below (ap (λ (l : List (Option Held)). get_or l p None) (sym is) ∙ has)

-- what is live where the pages are the same
pub live_kept : (old new : Physical) → HasLive old → SameBlocksAndPages old new → ((p : ℕ) → TakenAsErased new p → InSegment new p) → new.held ≡ old.held → HasLive new
live_kept old new live same blank is = record {
  in_segment = λ p h has. moved_in old new same p (live.in_segment p h (split p h has));
  blank_in = blank;
  differ = λ p q g h p_has q_has e. live.differ p q g h (split p g p_has) (split q h q_has) e;
}
  where
    split : (p : ℕ) (h : Held) → held_at new p ≡ Some h → held_at old p ≡ Some h
    split p h has = ap (λ (l : List (Option Held)). get_or l p None) (sym is) ∙ has

-- where there is no pair no block waits for names
pub none_wait : (seg : Physical) → IsWhole seg → seg.pairs ≡ [] → waiting seg ≡ 0
none_wait seg whole none = let few = whole.numbers.few_wait in let e = ap (λ (l : List (ℕ × ℕ)). length l) none in omega (arith, few, e)

-- where there are no pairs, no name is an old one
pub no_old : (pairs : List (ℕ × ℕ)) (name : ℕ) → pairs ≡ [] → (target : ℕ) × Contains pairs (name, target) → ⊥
no_old pairs name none = subst (λ (l : List (ℕ × ℕ)). (target : ℕ) × Contains l (name, target) → ⊥) (sym none) (λ old. let lt = old.1.1 in absurd (omega (arith, lt)))

-- what is held after a new page in place of another one
pub swap_held : (held : List (Option Held)) (name place : ℕ) (x : Held) (q : ℕ) (h : Held) → name < length held → place < length held → get_or (set (set held name (Some x)) place None) q None ≡ Some h
    → ((q ≡ name) × (x ≡ h)) ⊎ ((q ≡ name → ⊥) × (get_or held q None ≡ Some h))
swap_held held name place x q h below within is = set_held held name x q h below (clear_held (set held name (Some x)) place q h (subst (λ n. place < n) (sym (length-set held name (Some x))) within) is).1

-- a new page in place of another one
pub live_swap : (old new : Physical) (name place next : ℕ) (tag : Tag) → HasLive old → SameBlocksAndPages old new → ((p : ℕ) → TakenAsErased new p → InSegment new p) → InSegment old name → name < length old.held → place < length old.held
    → ((p : ℕ) (h : Held) → held_at old p ≡ Some h → h.stamp < next) → new.held ≡ set (set old.held name (Some (record { tag = tag; stamp = next }))) place None → HasLive new
live_swap old new name place next tag live same blank within below there fresh is =
    let middle : Physical = record new { held = set old.held name (Some (record { tag = tag; stamp = next })) } in
    live_less middle new place (live_more old middle name next tag live (record { same_first = same.same_first; same_blocks = same.same_blocks; same_size = same.same_size; same_wear = same.same_wear }) blank within below fresh refl)
    (record { same_first = refl; same_blocks = refl; same_size = refl; same_wear = λ b. refl }) blank (subst (λ n. place < n) (sym (length-set old.held name (Some (record { tag = tag; stamp = next })))) there) is

-- the stamps of what is held stay below a next one that rises
pub more_below : (old new : Physical) (name next after : ℕ) (tag : Tag) → name < length old.held → new.held ≡ set old.held name (Some (record { tag = tag; stamp = next })) → ((p : ℕ) (h : Held) → held_at old p ≡ Some h → h.stamp < next) → after ≡ next + 1
    → (p : ℕ) (h : Held) → held_at new p ≡ Some h → h.stamp < after
more_below old new name next after tag below is under one p h has = ⊎_elim
    (λ here. let s = ap (λ (y : Held). y.stamp) here.1 in omega (arith, s, one))
    (λ was. let lt = under p h was.1 in omega (arith, lt, one))
    (set_held old.held name (record { tag = tag; stamp = next }) p h below (ap (λ (l : List (Option Held)). get_or l p None) (sym is) ∙ has))

pub swap_below : (old new : Physical) (name place next after : ℕ) (tag : Tag) → name < length old.held → place < length old.held → new.held ≡ set (set old.held name (Some (record { tag = tag; stamp = next }))) place None
    → ((p : ℕ) (h : Held) → held_at old p ≡ Some h → h.stamp < next) → after ≡ next + 1 → (p : ℕ) (h : Held) → held_at new p ≡ Some h → h.stamp < after
swap_below old new name place next after tag below within is under one p h has = ⊎_elim
    (λ here. let s = ap (λ (y : Held). y.stamp) here.1 in omega (arith, s, one))
    (λ was. let lt = under p h was.1 in omega (arith, lt, one))
    (swap_held old.held name place (record { tag = tag; stamp = next }) p h below within (ap (λ (l : List (Option Held)). get_or l p None) (sym is) ∙ has))

pub same_below_still : (old new : Physical) (next after : ℕ) → new.held ≡ old.held → ((p : ℕ) (h : Held) → held_at old p ≡ Some h → h.stamp < next) → next ≤ after → (p : ℕ) (h : Held) → held_at new p ≡ Some h → h.stamp < after
same_below_still old new next after is under rises p h has = let lt = under p h (ap (λ (l : List (Option Held)). get_or l p None) (sym is) ∙ has) in omega (arith, lt, rises)

-- the pages that were live are, and one more
pub more_keeps : (old new : Physical) (name : ℕ) (x : Held) → held_at old name ≡ None → new.held ≡ set old.held name (Some x) → (p : ℕ) (h : Held) → held_at old p ≡ Some h → held_at new p ≡ Some h
more_keeps old new name x dead is p h has =
    ap (λ (l : List (Option Held)). get_or l p None) is
    ∙ (get_or-set_other old.held name p (Some x) None (λ same. none-some h (sym dead ∙ (ap (held_at old) (sym same) ∙ has))) ∙ has)

pub more_less : (old new : Physical) (name : ℕ) (x : Held) → name < length old.held → new.held ≡ set old.held name (Some x) → (p : ℕ) (h : Held) → held_at new p ≡ Some h → (held_at old p ≡ Some h) ⊎ (p ≡ name)
more_less old new name x below is p h has = ⊎_elim (λ here. inr here.0) (λ was. inl was.1) (set_held old.held name x p h below (ap (λ (l : List (Option Held)). get_or l p None) (sym is) ∙ has))

-- what is live after one page more and another one less
pub swap_keeps : (old new : Physical) (name place : ℕ) (x : Held) → held_at old name ≡ None → new.held ≡ set (set old.held name (Some x)) place None → (p : ℕ) (h : Held) → (p ≡ place → ⊥) → held_at old p ≡ Some h → held_at new p ≡ Some h
swap_keeps old new name place x dead is p h far has =
    ap (λ (l : List (Option Held)). get_or l p None) is
    ∙ (get_or-set_other (set old.held name (Some x)) place p None None far
    ∙ (get_or-set_other old.held name p (Some x) None (λ same. none-some h (sym dead ∙ (ap (held_at old) (sym same) ∙ has))) ∙ has))

pub swap_less : (old new : Physical) (name place : ℕ) (x : Held) → name < length old.held → place < length old.held → new.held ≡ set (set old.held name (Some x)) place None → (p : ℕ) (h : Held) → held_at new p ≡ Some h → (held_at old p ≡ Some h) ⊎ (p ≡ name)
swap_less old new name place x below within is p h has = ⊎_elim (λ here. inr here.0) (λ was. inl was.1) (swap_held old.held name place x p h below within (ap (λ (l : List (Option Held)). get_or l p None) (sym is) ∙ has))

-- one less
pub less_keeps : (old new : Physical) (place : ℕ) → new.held ≡ set old.held place None → (p : ℕ) (h : Held) → (p ≡ place → ⊥) → held_at old p ≡ Some h → held_at new p ≡ Some h
less_keeps old new place is p h far has = ap (λ (l : List (Option Held)). get_or l p None) is ∙ (get_or-set_other old.held place p None None far ∙ has)

pub less_before : (old new : Physical) (place : ℕ) → place < length old.held → new.held ≡ set old.held place None → (p : ℕ) (h : Held) → held_at new p ≡ Some h → held_at old p ≡ Some h
less_before old new place below is p h has = (clear_held old.held place p h below (ap (λ (l : List (Option Held)). get_or l p None) (sym is) ∙ has)).1

-- what is live where the pages are the same
pub same_before : (old new : Physical) → new.held ≡ old.held → (p : ℕ) (h : Held) → held_at new p ≡ Some h → held_at old p ≡ Some h
same_before old new is p h has = ap (λ (l : List (Option Held)). get_or l p None) (sym is) ∙ has

pub same_keeps : (old new : Physical) → new.held ≡ old.held → (p : ℕ) (h : Held) → held_at old p ≡ Some h → held_at new p ≡ Some h
same_keeps old new is p h has = ap (λ (l : List (Option Held)). get_or l p None) is ∙ has
