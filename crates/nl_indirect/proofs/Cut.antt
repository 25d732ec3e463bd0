-- A page of pointers that is cut at a slot.
use Rattle.std.proofs.Common.{◌≡◌, ◌≢◌, ℕ, ◌+◌, ◌≤◌, ◌<◌, List, length, refl, sym, ap, ◌∙◌, subst, Some, IsSome, ◌⊎◌, inl, inr, arith}
use Rattle.std.proofs.lemmas.Bool.{cases_eq, cases_lt}
use Rattle.nl_field.specs.Pointers.{indirect_of, is_none_pointer, no_pointer, pointer_bytes, pointer_fields, pointer_of}
use Rattle.nl_field.specs.Spelling.{u32_at, u32_bytes, u64_at, u64_bytes}
use Rattle.nl_meta.specs.Nodes.{slot_in}
use Rattle.nl_meta.specs.SlotLaws.{with_slot}
use Rattle.nl_indirect.specs.Ranges.{pointer_in}
use Rattle.nl_indirect.specs.Truncating.{CutsSlots, HasBefore}
use Rattle.nl_indirect.proofs.Spelled.{Spells, is-indirect, kept-slot, put-slot, with-length}

-- the slots from one up to another have no pointer
pub record CutsUpTo (slot upto : ℕ) (old new : List ℕ) : Type 0 where
  pub whole : length new ≡ length old
  pub others : (j : ℕ) → (j < slot) ⊎ (upto ≤ j) → slot_in 16 j new ≡ slot_in 16 j old
  pub gone : (j : ℕ) → slot ≤ j → j < upto → slot_in 16 j new ≡ pointer_bytes no_pointer

pub cuts-none : (slot : ℕ) (bytes : List ℕ) → CutsUpTo slot slot bytes bytes
cuts-none slot bytes = record { whole = refl; others = λ j h. refl; gone = λ j low high. absurd (omega (arith, low, high)) }

pub cuts-on : (slot i : ℕ) (old new : List ℕ) → length old ≡ 4096 → slot ≤ i → i < 256 → CutsUpTo slot i old new → CutsUpTo slot (i + 1) old (with_slot 16 i (pointer_bytes no_pointer) new)
cuts-on slot i old new whole low below is = record {
  whole = with-length new len i below no_pointer ∙ is.whole;
  others = λ j h. kept-slot new len i below no_pointer j (far j h) ∙ is.others j (before j h);
  gone = λ j h k. gone j h k (cases_eq j i);
}
  where
    len : length new ≡ 4096
    len = is.whole ∙ whole

    far : (j : ℕ) → (j < slot) ⊎ (i + 1 ≤ j) → j ≢ i
    far j (inl h) e = absurd (omega (arith, h, e, low))
    far j (inr h) e = absurd (omega (arith, h, e))

    before : (j : ℕ) → (j < slot) ⊎ (i + 1 ≤ j) → (j < slot) ⊎ (i ≤ j)
    before j (inl h) = inl h
    before j (inr h) = inr (omega (arith, h))

    gone : (j : ℕ) → slot ≤ j → j < i + 1 → (j ≡ i) ⊎ (j ≡ i → ⊥) → slot_in 16 j (with_slot 16 i (pointer_bytes no_pointer) new) ≡ pointer_bytes no_pointer
    gone j h k (inl e) = ap (λ (n : ℕ). slot_in 16 n (with_slot 16 i (pointer_bytes no_pointer) new)) e ∙ put-slot new len i below no_pointer
    gone j h k (inr off) = kept-slot new len i below no_pointer j off ∙ is.gone j h (omega (arith, k, off))

pub cuts-all : (slot : ℕ) (old new : List ℕ) → CutsUpTo slot 256 old new → CutsSlots slot old new
cuts-all slot old new is = record { whole = is.whole; kept = λ j h. is.others j (inl h); gone = is.gone }

-- ---- what a cut page spells

none-back : pointer_of (pointer_bytes no_pointer) ≡ Some (pointer_fields (pointer_bytes no_pointer))
unfolding pointer_of pointer_bytes pointer_fields u32_bytes u64_bytes u32_at u64_at
none-back = refl

none-fields : pointer_fields (pointer_bytes no_pointer) ≡ no_pointer
unfolding pointer_bytes pointer_fields u32_bytes u64_bytes u32_at u64_at
none-fields = refl

module _ (slot : ℕ) (old new : List ℕ) (cut : CutsSlots slot old new) where
  pub cut-kept : (j : ℕ) → j < slot → pointer_in new j ≡ pointer_in old j
  cut-kept j h = ap pointer_fields (cut.kept j h)

  pub cut-gone : (j : ℕ) → slot ≤ j → j < 256 → pointer_in new j ≡ no_pointer
  cut-gone j h below = ap pointer_fields (cut.gone j h below) ∙ none-fields

  cut-spells : Spells old → Spells new
  cut-spells was = record { whole = cut.whole ∙ was.whole; each = λ j h. each j h (cases_lt j slot) }
    where
      each : (j : ℕ) → j < 256 → (j < slot) ⊎ (slot ≤ j) → pointer_of (slot_in 16 j new) ≡ Some (pointer_in new j)
      each j h (inl low) = subst (λ (s : List ℕ). pointer_of s ≡ Some (pointer_fields s)) (sym (cut.kept j low)) (was.each j h)
      each j h (inr high) = subst (λ (s : List ℕ). pointer_of s ≡ Some (pointer_fields s)) (sym (cut.gone j high h)) none-back

  pub cut-indirect : Spells old → slot ≤ 256 → HasBefore old slot → IsSome (indirect_of new)
  cut-indirect was low has =
      is-indirect new (cut-spells was)
      (record { at = has.at; below = (let b = has.before in omega (arith, b, low)); some = ap is_none_pointer (cut-kept has.at has.before) ∙ has.some })
