-- A page that was tried is taken as erased no longer.
use Rattle.std.proofs.Common.{◌≡◌, ◌⊎◌, inl, inr, ⊎_elim, ℕ, ◌+◌, ◌-◌, ◌*◌, ◌/◌, ◌<◌, ◌≤◌, Bool, true, false, List, get_or, set, length, refl, sym, ◌∙◌, ap, subst, arith}
use Rattle.std.proofs.lemmas.Bool.{cases_Bool, cases_eq, true≢false}
use Rattle.std.proofs.lemmas.List.{get_or-set_other, get_or-set_same}
use Rattle.nl_field.specs.declared.answers.VirtualWrite.{VirtualWrite}
use Rattle.nl_field.specs.declared.answers.VirtualWrite.TheVariants as write
use Rattle.nl_vseg.specs.Copying.{SameFreeBlocks, SetsFree}
use Rattle.nl_vseg.specs.Layout.{Layout, LayoutTakesAsErased, block_is_free, is_soiled, shown}
use Rattle.nl_vseg.specs.Segment.{is_taken_as_erased}
use Rattle.nl_vseg.specs.Tries.{OpensNext, SpendsNext, SpendsTriedPage, TakesNoOther}
use Rattle.nl_vseg.proofs.Places.{block_of}
use Rattle.nl_vseg.proofs.Segments.{taken_cases}
use Rattle.nl_vseg.proofs.Views.{blank_taken, taken_blank}

-- what is taken as erased in the numbers of another segment
abbrev pub Case : Layout → Layout → ℕ → Type 0
Case old new p = ((new.active * old.table.size + new.used ≤ p) × (p < new.active * old.table.size + old.table.size)) ⊎ ((block_is_free new.table (p / old.table.size) ≡ true) × (is_soiled new (p / old.table.size) ≡ false))

pub still_takes : (seg : Layout) → TakesNoOther seg seg
still_takes seg p taken = inl taken

-- a Free block is the active one now, and was erased where it was soiled
pub opened_takes : (old new : Layout) (block : ℕ) → length old.soiled ≡ length old.table.blocks → block < length old.table.blocks → SetsFree block false old.table new.table → block_is_free old.table block ≡ true → new.active ≡ block
    → ((is_soiled old block ≡ false) × (new.soiled ≡ old.soiled)) ⊎ ((is_soiled old block ≡ true) × (new.soiled ≡ set old.soiled block false)) → TakesNoOther old new
opened_takes old new block marks within restated free active soil p taken = of n.1
  where
    n : (p < length old.table.blocks * old.table.size) × Case old new p
    n = taken_cases new old.table.size (length old.table.blocks) restated.numbers.same_size restated.numbers.same_count p taken

    of : Case old new p → LayoutTakesAsErased old p ⊎ ((is_soiled old (p / old.table.size) ≡ true) × (is_soiled new (p / old.table.size) ≡ false))
    of (inl x) =
        let from : block * old.table.size + new.used ≤ p = subst (λ a. a * old.table.size + new.used ≤ p) active x.0 in
        let below : p < block * old.table.size + old.table.size = subst (λ a. p < a * old.table.size + old.table.size) active x.1 in
        let at : p / old.table.size ≡ block = block_of p old.table.size block (omega (arith, from)) below in
        ⊎_elim
        (λ clean. inl (n.0, inr (ap (block_is_free old.table) at ∙ free, ap (is_soiled old) at ∙ clean.0)))
        (λ dirty. inr (ap (is_soiled old) at ∙ dirty.0, ap (is_soiled new) at ∙ (ap (λ (l : List Bool). get_or l block false) dirty.1 ∙ get_or-set_same old.soiled block false false (omega (arith, marks, within)))))
        soil
    of (inr x) =
        let ne : p / old.table.size ≡ block → ⊥ = (λ at. true≢false (sym x.0 ∙ (ap (block_is_free new.table) at ∙ restated.here))) in
        let same : is_soiled new (p / old.table.size) ≡ is_soiled old (p / old.table.size) = ⊎_elim
        (λ clean. ap (λ (l : List Bool). get_or l (p / old.table.size) false) clean.1)
        (λ dirty. ap (λ (l : List Bool). get_or l (p / old.table.size) false) dirty.1 ∙ get_or-set_other old.soiled block (p / old.table.size) false false ne)
        soil in
        inl (n.0, inr (sym (restated.others (p / old.table.size) ne) ∙ x.0, sym same ∙ x.1))

-- no page is taken as erased that was not, where the active block is full and no block is soiled less
pub closed_takes : (old new : Layout) → SameFreeBlocks old.table new.table → new.used ≡ new.table.size → ((block : ℕ) → is_soiled new block ≡ false → is_soiled old block ≡ false) → (p : ℕ) → LayoutTakesAsErased new p → LayoutTakesAsErased old p
closed_takes old new same full soil p taken = of n.1
  where
    n : (p < length old.table.blocks * old.table.size) × Case old new p
    n = taken_cases new old.table.size (length old.table.blocks) same.numbers.same_size same.numbers.same_count p taken

    of : Case old new p → LayoutTakesAsErased old p
    of (inl x) = let size = same.numbers.same_size in absurd (omega (arith, full, size, x.0, x.1))
    of (inr x) = (n.0, inr (sym (same.free (p / old.table.size)) ∙ x.0, soil (p / old.table.size) x.1))

-- one block more is soiled
pub soiled_more : (soiled : List Bool) (at block : ℕ) → at < length soiled → get_or (set soiled at true) block false ≡ false → get_or soiled block false ≡ false
soiled_more soiled at block within is = ⊎_elim
    (λ same. absurd (true≢false (sym (ap (λ n. get_or (set soiled at true) n false) same ∙ get_or-set_same soiled at true false within) ∙ is)))
    (λ ne. sym (get_or-set_other soiled at block true false ne) ∙ is)
    (cases_eq block at)

-- after a step that takes no more as erased
pub takes_then : (a b c : Layout) → b.table.size ≡ a.table.size → b.soiled ≡ a.soiled → ((p : ℕ) → LayoutTakesAsErased b p → LayoutTakesAsErased a p) → TakesNoOther b c → TakesNoOther a c
takes_then a b c size soil first second p taken = ⊎_elim
    (λ was. inl (first p was))
    (λ w. inr (
      ap (λ (l : List Bool). get_or l (p / a.table.size) false) (sym soil) ∙ (ap (λ n. is_soiled b (p / n)) (sym size) ∙ w.0),
      ap (λ n. is_soiled c (p / n)) (sym size) ∙ w.1,
    ))
    (second p taken)

-- the same pages are taken as erased with another table
pub same_takes : (old new : Layout) → SameFreeBlocks old.table new.table → new.active ≡ old.active → new.used ≡ old.used → new.soiled ≡ old.soiled → (p : ℕ) → LayoutTakesAsErased new p → LayoutTakesAsErased old p
same_takes old new same active used soil p taken = of n.1
  where
    n : (p < length old.table.blocks * old.table.size) × Case old new p
    n = taken_cases new old.table.size (length old.table.blocks) same.numbers.same_size same.numbers.same_count p taken

    of : Case old new p → LayoutTakesAsErased old p
    of (inl x) = (
      n.0,
      inl (
        subst (λ a. a * old.table.size + old.used ≤ p) active (subst (λ u. new.active * old.table.size + u ≤ p) used x.0),
        subst (λ a. p < a * old.table.size + old.table.size) active x.1,
      ),
    )
    of (inr x) = (n.0, inr (sym (same.free (p / old.table.size)) ∙ x.0, sym (ap (λ (l : List Bool). get_or l (p / old.table.size) false) soil) ∙ x.1))

-- the next page of the active block was used
pub used_spends : (old new : Layout) → old.used < old.table.size → block_is_free old.table old.active ≡ false → SameFreeBlocks old.table new.table → new.active ≡ old.active → new.used ≡ old.used + 1 → new.soiled ≡ old.soiled → SpendsNext old new
used_spends old new room taken same active more soil = record {
  spent = λ now. let n = cases_of (old.active * old.table.size + old.used) now in no n.1;
  others = λ p now. let n = cases_of p now in was p n.0 n.1;
  same_soiled = soil;
}
  where
    cases_of : (p : ℕ) → LayoutTakesAsErased new p → (p < length old.table.blocks * old.table.size) × Case old new p
    cases_of p now = taken_cases new old.table.size (length old.table.blocks) same.numbers.same_size same.numbers.same_count p now

    no : Case old new (old.active * old.table.size + old.used) → ⊥
    no (inl x) =
        let from : old.active * old.table.size + new.used ≤ old.active * old.table.size + old.used = subst (λ a. a * old.table.size + new.used ≤ old.active * old.table.size + old.used) active x.0 in
        omega (arith, from, more)
    no (inr x) =
        let at : (old.active * old.table.size + old.used) / old.table.size ≡ old.active = block_of (old.active * old.table.size + old.used) old.table.size old.active (omega arith) (omega (arith, room)) in
        true≢false (sym x.0 ∙ (ap (block_is_free new.table) at ∙ (same.free old.active ∙ taken)))

    was : (p : ℕ) → p < length old.table.blocks * old.table.size → Case old new p → LayoutTakesAsErased old p
    was p below (inl x) =
        let from : old.active * old.table.size + new.used ≤ p = subst (λ a. a * old.table.size + new.used ≤ p) active x.0 in
        (below, inl (omega (arith, from, more), subst (λ a. p < a * old.table.size + old.table.size) active x.1))
    was p below (inr x) = (below, inr (sym (same.free (p / old.table.size)) ∙ x.0, sym (ap (λ (l : List Bool). get_or l (p / old.table.size) false) soil) ∙ x.1))

-- the table was changed after that, and the same pages are taken as erased
pub sealed_spends : (old mid new : Layout) → SpendsNext old mid → SameFreeBlocks mid.table new.table → new.active ≡ mid.active → new.used ≡ mid.used → new.soiled ≡ mid.soiled → SpendsNext old new
sealed_spends old mid new s same active used soil = record {
  spent = λ now. s.spent (same_takes mid new same active used soil (old.active * old.table.size + old.used) now);
  others = λ p now. s.others p (same_takes mid new same active used soil p now);
  same_soiled = soil ∙ s.same_soiled;
}

-- what users see of what is not taken as erased
pub not_blank : (seg : Layout) (p : ℕ) → (LayoutTakesAsErased seg p → ⊥) → is_taken_as_erased (shown seg) p ≡ false
not_blank seg p not = ⊎_elim (λ is. absurd (not (blank_taken seg p is))) (λ is. is) (cases_Bool (is_taken_as_erased (shown seg) p))

-- room was made without a cleaning, and the next page was tried
module _ (old mid new : Layout) (o : OpensNext write.Done old mid) (inside : mid.active * mid.table.size + mid.table.size ≤ length mid.table.blocks * mid.table.size) (s : SpendsNext mid new) where
  abbrev page : ℕ
  page = mid.active * mid.table.size + mid.used

  others : TakesNoOther old new
  others p now = ⊎_elim
      (λ was. inl was)
      (λ w. inr (w.0, ap (λ (l : List Bool). get_or l (p / old.table.size) false) s.same_soiled ∙ w.1))
      (o.others p (s.others p now))

  first : ((0 < old.table.size - old.used) × (page ≡ old.active * old.table.size + old.used))
      ⊎ ((old.table.size - old.used ≡ 0) × ((is_taken_as_erased (shown old) page ≡ true) ⊎ ((is_soiled old (page / old.table.size) ≡ true) × (is_soiled new (page / old.table.size) ≡ false))))
  first = ⊎_elim
      (λ same. let room = same.0 in inl (omega (arith, room), ap (λ (l : Layout). l.active * l.table.size + l.used) same.1))
      (λ full.
      let none = full.0 in
      let some = full.1 in
      inr (
        omega (arith, none),
        ⊎_elim
            (λ was. inl (taken_blank old page was))
            (λ w. inr (w.0, ap (λ (l : List Bool). get_or l (page / old.table.size) false) s.same_soiled ∙ w.1))
            (o.others page (omega (arith, inside, some), inl (omega arith, omega (arith, some)))),
      ))
      (o.done refl)

  pub opened_spends : (done : Type 0) → SpendsTriedPage done (shown old) (shown new)
  opened_spends done = record {
    tried = inl (page, record { first = first; spent = not_blank new page s.spent });
    others = λ p is. ⊎_elim (λ was. inl (taken_blank old p was)) (λ w. inr w) (others p (blank_taken new p is));
  }

-- no room was made
pub failed_spends : (answer : VirtualWrite) (done : Type 0) (old new : Layout) → (answer ≡ write.Done → ⊥) → (done → ⊥) → OpensNext answer old new → SpendsTriedPage done (shown old) (shown new)
failed_spends answer done old new not undone o =
    let w = o.failed not in
    let full = w.0 in
    record {
      tried = inr (undone, omega (arith, full), w.1);
      others = λ p is. ⊎_elim (λ was. inl (taken_blank old p was)) (λ x. inr x) (o.others p (blank_taken new p is));
    }
