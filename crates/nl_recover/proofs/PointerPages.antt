-- Whether a page has pointers, slot by slot.
use Rattle.std.proofs.Common.{◌≡◌, ℕ, zero, suc, ◌+◌, ◌<◌, Bool, true, false, not, ◌&&◌, ◌||◌, cond, List, [], ◌∷◌, length, get_or, refl, sym, ap, subst, ◌∙◌, Option, Some, None, IsSome, ◌⊎◌, inl, inr, arith, below_more}
use Rattle.std.proofs.lemmas.Bool.{and_from, and_parts, cases_Bool, not-false, not-true, or_cases, or_parts}
use Rattle.std.specs.List.{list_all}
use Rattle.std.specs.Prelude.{bytes_eq}
use Rattle.nl_field.specs.Pointers.{indirect_of, is_none_pointer, is_pointer, no_pointer, pointer_bytes, pointer_fields, pointer_of, pointers}
use Rattle.nl_field.specs.declared.pointer.Pointer.{Pointer}
use Rattle.nl_field.specs.declared.shape.Shape.{Shape}
use Rattle.nl_field.proofs.EachRow.{length-each_of}
use Rattle.nl_meta.specs.Nodes.{is_physical_name, slot_in}
use Rattle.nl_meta.specs.Walk.{is_good_indirect}
use Rattle.nl_meta.proofs.Lists.{none_some, some_in, true_false}
use Rattle.nl_indirect.specs.Ranges.{pointer_in}
use Rattle.nl_recover.specs.Addresses.{SpelledAt}
use Rattle.nl_indirect.proofs.Spelled.{holds-some, indirect-is, is-indirect, row, spells}

-- ---- what a loop over the slots has seen

pub record SpelledBefore (shape : Shape) (bytes : List ℕ) (n : ℕ) : Type 0 where
  pub each : (j : ℕ) → j < n → SpelledAt shape bytes j

pub record NoneBefore (bytes : List ℕ) (n : ℕ) : Type 0 where
  pub each : (j : ℕ) → j < n → is_none_pointer (pointer_in bytes j) ≡ true

pub record SomeBefore (bytes : List ℕ) (n : ℕ) : Type 0 where
  pub at : ℕ
  pub below : at < n
  pub some : is_none_pointer (pointer_in bytes at) ≡ false

fields-of : (bytes : List ℕ) (p : Pointer) → pointer_of bytes ≡ Some p → p ≡ pointer_fields bytes
unfolding pointer_of
fields-of bytes p e =
    elim (is_pointer (pointer_fields bytes) && bytes_eq (pointer_bytes (pointer_fields bytes)) bytes) as (λ t. cond t (Some (pointer_fields bytes)) None ≡ Some p → p ≡ pointer_fields bytes) [
      | true ↦ λ e. sym (some_in _ _ e)
      | false ↦ λ e. absurd (none_some p e)
    ] e

pub spelled-here : (shape : Shape) (bytes : List ℕ) (j : ℕ) (p : Pointer) → Some p ≡ pointer_of (slot_in 16 j bytes) → is_physical_name shape p ≡ true → SpelledAt shape bytes j × (p ≡ pointer_in bytes j)
spelled-here shape bytes j p e physical =
    let f = fields-of (slot_in 16 j bytes) p (sym e) in
    (record { spelled = sym e ∙ ap (λ (q : Pointer). Some q) f; physical = ap (is_physical_name shape) (sym f) ∙ physical }, f)

pub unphysical : (shape : Shape) (bytes : List ℕ) (j : ℕ) (p : Pointer) → Some p ≡ pointer_of (slot_in 16 j bytes) → is_physical_name shape p ≡ false → SpelledAt shape bytes j → ⊥
unphysical shape bytes j p e bad at = true_false (sym at.physical ∙ ap (is_physical_name shape) (some_in _ _ (sym at.spelled ∙ sym e)) ∙ bad)

pub unspelled : (shape : Shape) (bytes : List ℕ) (j : ℕ) → None ≡ pointer_of (slot_in 16 j bytes) → SpelledAt shape bytes j → ⊥
unspelled shape bytes j e at = none_some (pointer_in bytes j) (e ∙ at.spelled)

pub spelled-more : (shape : Shape) (bytes : List ℕ) (n : ℕ) → SpelledBefore shape bytes n → SpelledAt shape bytes n → SpelledBefore shape bytes (n + 1)
spelled-more shape bytes n before at = record { each = below_more (λ j. SpelledAt shape bytes j) n before.each at }

pub none-more : (bytes : List ℕ) (n : ℕ) (b : Bool) (p : Pointer) → p ≡ pointer_in bytes n → (b ≡ false → NoneBefore bytes n) → (b || not (is_none_pointer p)) ≡ false → NoneBefore bytes (n + 1)
none-more bytes n b p is before e =
    let parts = or_parts b (not (is_none_pointer p)) e in
    record { each = below_more (λ j. is_none_pointer (pointer_in bytes j) ≡ true) n (before parts.0).each (sym (ap is_none_pointer is) ∙ not-false _ parts.1) }

pub some-more : (bytes : List ℕ) (n : ℕ) (b : Bool) (p : Pointer) → p ≡ pointer_in bytes n → (b ≡ true → SomeBefore bytes n) → (b || not (is_none_pointer p)) ≡ true → SomeBefore bytes (n + 1)
some-more bytes n b p is before e = by (or_cases b (not (is_none_pointer p)) e)
  where
    by : (b ≡ true) ⊎ (not (is_none_pointer p) ≡ true) → SomeBefore bytes (n + 1)
    by (inl h) = let s = before h in record { at = s.at; below = let f = s.below in omega (arith, f); some = s.some }
    by (inr h) = record { at = n; below = omega arith; some = sym (ap is_none_pointer is) ∙ not-true _ h }

-- ---- the whole page

rows-all : (t : Pointer → Bool) (xs : List Pointer) → ((j : ℕ) → j < length xs → t (get_or xs j no_pointer) ≡ true) → list_all t xs ≡ true
rows-all t [] each = refl
rows-all t (x ∷ xs) each = and_from (t x) (list_all t xs) (each 0 (omega arith)) (rows-all t xs (λ j h. each (suc j) (omega (arith, h))))

all-rows : (t : Pointer → Bool) (xs : List Pointer) → list_all t xs ≡ true → (j : ℕ) → j < length xs → t (get_or xs j no_pointer) ≡ true
all-rows t [] all j h = absurd (omega (arith, h))
all-rows t (x ∷ xs) all zero h = (and_parts (t x) (list_all t xs) all).0
all-rows t (x ∷ xs) all (suc j) h = all-rows t xs (and_parts (t x) (list_all t xs) all).1 j (omega (arith, h))

rows-256 : (bytes : List ℕ) → length (pointers 256 bytes) ≡ 256
rows-256 bytes = length-each_of pointer_fields 16 256 bytes

pub good-page : (shape : Shape) (bytes : List ℕ) → length bytes ≡ 4096 → SpelledBefore shape bytes 256 → SomeBefore bytes 256 → is_good_indirect shape (indirect_of bytes) ≡ true
good-page shape bytes whole spelled some =
    ap (is_good_indirect shape) (indirect-is bytes (is-indirect bytes (record { whole = whole; each = λ j h. (spelled.each j h).spelled }) (record { at = some.at; below = some.below; some = some.some })))
    ∙ rows-all (is_physical_name shape) (pointers 256 bytes)
    (λ j h. let below : j < 256 = let n = rows-256 bytes in omega (arith, h, n) in ap (is_physical_name shape) (row bytes j below) ∙ (spelled.each j below).physical)

good-some : (shape : Shape) (o : Option (List Pointer)) → is_good_indirect shape o ≡ true → IsSome o
good-some shape None e = absurd (true_false (sym e))
good-some shape (Some ps) e = refl

good-parts : (shape : Shape) (bytes : List ℕ) → is_good_indirect shape (indirect_of bytes) ≡ true → (j : ℕ) → j < 256 → SpelledAt shape bytes j
good-parts shape bytes good j h = record {
  spelled = (spells bytes is).each j h;
  physical = ap (is_physical_name shape) (sym (row bytes j h)) ∙ all-rows (is_physical_name shape) (pointers 256 bytes) (sym (ap (is_good_indirect shape) (indirect-is bytes is)) ∙ good) j (let n = rows-256 bytes in omega (arith, h, n));
}
  where
    is : IsSome (indirect_of bytes)
    is = good-some shape (indirect_of bytes) good

pub bad-page : (shape : Shape) (bytes : List ℕ) (j : ℕ) → j < 256 → (SpelledAt shape bytes j → ⊥) → is_good_indirect shape (indirect_of bytes) ≡ false
bad-page shape bytes j h bad = by (cases_Bool (is_good_indirect shape (indirect_of bytes)))
  where
    by : (is_good_indirect shape (indirect_of bytes) ≡ true) ⊎ (is_good_indirect shape (indirect_of bytes) ≡ false) → is_good_indirect shape (indirect_of bytes) ≡ false
    by (inl good) = absurd (bad (good-parts shape bytes good j h))
    by (inr e) = e

pub none-page : (shape : Shape) (bytes : List ℕ) → NoneBefore bytes 256 → is_good_indirect shape (indirect_of bytes) ≡ false
none-page shape bytes none = by (cases_Bool (is_good_indirect shape (indirect_of bytes)))
  where
    clash : IsSome (indirect_of bytes) → ⊥
    clash is = let s = holds-some bytes is in true_false (sym (none.each s.at s.below) ∙ s.some)

    by : (is_good_indirect shape (indirect_of bytes) ≡ true) ⊎ (is_good_indirect shape (indirect_of bytes) ≡ false) → is_good_indirect shape (indirect_of bytes) ≡ false
    by (inl good) = absurd (clash (good-some shape (indirect_of bytes) good))
    by (inr e) = e

-- what a loop over all slots answers
pub page-answer : (shape : Shape) (bytes : List ℕ) (n : ℕ) (b : Bool) → n ≡ 256 → length bytes ≡ 4096 → SpelledBefore shape bytes n → (b ≡ false → NoneBefore bytes n) → (b ≡ true → SomeBefore bytes n)
    → b ≡ is_good_indirect shape (indirect_of bytes)
page-answer shape bytes n true is whole spelled none some = sym (good-page shape bytes whole (subst (SpelledBefore shape bytes) is spelled) (subst (SomeBefore bytes) is (some refl)))
page-answer shape bytes n false is whole spelled none some = sym (none-page shape bytes (subst (NoneBefore bytes) is (none refl)))
