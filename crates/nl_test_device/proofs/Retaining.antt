-- The pointers of the three live pages can be kept.
use Rattle.std.proofs.Common.{◌≡◌, ◌≢◌, false, true, ℕ, zero, suc, ◌<◌, List, [], ◌∷◌, refl, arith}
use Rattle.std.specs.Prelude.{◌+◌, ◌*◌, ◌≤◌, Bool, length, filter, All, IsSome}
use Rattle.std.specs.List.{AllPairs}
use Rattle.nl_field.specs.declared.pointer.Pointer.{Pointer}
use Rattle.nl_device.specs.Kept.{has_stamp, place_among, spare_among}
use Rattle.nl_device.specs.Retain.{is_stale, owns_name, place_for, spare_for}
use Rattle.nl_test_device.specs.Reopened.{CanOpen, of_least, three}

each_of : {X : Type 0} (P : X → Type 0) (a b c : X) → P a → P b → P c → All P (a ∷ b ∷ c ∷ [])
each_of P a b c first second third zero d within = first
each_of P a b c first second third (suc zero) d within = second
each_of P a b c first second third (suc (suc zero)) d within = third
each_of P a b c first second third (suc (suc (suc i))) d within = absurd (omega (arith, within))

each_two : {X : Type 0} (P : X → X → Type 0) (a b c : X) → P a b → P a c → P b c → AllPairs P (a ∷ b ∷ c ∷ [])
each_two P a b c first second third i zero d before within = absurd (omega (arith, before))
each_two P a b c first second third zero (suc zero) d before within = first
each_two P a b c first second third (suc i) (suc zero) d before within = absurd (omega (arith, before))
each_two P a b c first second third zero (suc (suc zero)) d before within = second
each_two P a b c first second third (suc zero) (suc (suc zero)) d before within = third
each_two P a b c first second third (suc (suc i)) (suc (suc zero)) d before within = absurd (omega (arith, before))
each_two P a b c first second third i (suc (suc (suc j))) d before within = absurd (omega (arith, within))

stamps_differ : (first second : ℕ) → AllPairs (λ (p q : Pointer). p.stamp ≢ q.stamp) (three first second)
stamps_differ first second = each_two (λ (p q : Pointer). p.stamp ≢ q.stamp) _ _ _ (λ e. omega (arith, e)) (λ e. omega (arith, e)) (λ e. omega (arith, e))

names_differ : (first second : ℕ) → first ≢ second → first ≢ 288 → second ≢ 288 → AllPairs (λ (p q : Pointer). p.name ≢ q.name) (three first second)
names_differ first second a b c = each_two (λ (p q : Pointer). p.name ≢ q.name) _ _ _ a b c

-- beside these pages, where each of the three has its place and owns its name
can_open : (first : ℕ) (fives : Bool) (count one two : ℕ) → first + count ≤ 35 → IsSome (spare_for (of_least first fives count) (three one two))
    → All (λ p. IsSome (place_for (of_least first fives count) (three one two) p)) (three one two) → one ≢ two → one ≢ 288 → two ≢ 288
    → All (λ p. owns_name (of_least first fives count) p ≡ true) (three one two) → length (filter (is_stale (of_least first fives count)) (three one two)) ≤ 3 * 32 → CanOpen first fives count one two
can_open first fives count one two few spare placed a b c own lost = record {
  few = few;
  can = record {
    spare = spare;
    placed = placed;
    differ = stamps_differ one two;
    names_differ = names_differ one two a b c;
    own = own;
    few_lost = lost;
  };
}

pub opens_written : CanOpen 0 false 33 258 270
unfolding spare_among place_among has_stamp
opens_written = can_open 0 false 33 258 270 (omega arith) refl (each_of (λ p. IsSome (place_for (of_least 0 false 33) (three 258 270) p)) _ _ _ refl refl refl) (λ e. omega (arith, e)) (λ e. omega (arith, e)) (λ e. omega (arith, e))
    (each_of (λ p. owns_name (of_least 0 false 33) p ≡ true) _ _ _ refl refl refl) (omega arith)

pub opens_one_copied : CanOpen 0 false 34 258 270
unfolding spare_among place_among has_stamp
opens_one_copied = can_open 0 false 34 258 270 (omega arith) refl (each_of (λ p. IsSome (place_for (of_least 0 false 34) (three 258 270) p)) _ _ _ refl refl refl) (λ e. omega (arith, e)) (λ e. omega (arith, e)) (λ e. omega (arith, e))
    (each_of (λ p. owns_name (of_least 0 false 34) p ≡ true) _ _ _ refl refl refl) (omega arith)

pub opens_copied : CanOpen 0 false 35 320 321
unfolding spare_among place_among has_stamp
opens_copied = can_open 0 false 35 320 321 (omega arith) refl (each_of (λ p. IsSome (place_for (of_least 0 false 35) (three 320 321) p)) _ _ _ refl refl refl) (λ e. omega (arith, e)) (λ e. omega (arith, e)) (λ e. omega (arith, e))
    (each_of (λ p. owns_name (of_least 0 false 35) p ≡ true) _ _ _ refl refl refl) (omega arith)

pub opens_erased : CanOpen 32 false 3 320 321
unfolding spare_among place_among has_stamp
opens_erased = can_open 32 false 3 320 321 (omega arith) refl (each_of (λ p. IsSome (place_for (of_least 32 false 3) (three 320 321) p)) _ _ _ refl refl refl) (λ e. omega (arith, e)) (λ e. omega (arith, e)) (λ e. omega (arith, e))
    (each_of (λ p. owns_name (of_least 32 false 3) p ≡ true) _ _ _ refl refl refl) (omega arith)

pub opens_moved : CanOpen 0 false 35 258 270
unfolding spare_among place_among has_stamp
opens_moved = can_open 0 false 35 258 270 (omega arith) refl (each_of (λ p. IsSome (place_for (of_least 0 false 35) (three 258 270) p)) _ _ _ refl refl refl) (λ e. omega (arith, e)) (λ e. omega (arith, e)) (λ e. omega (arith, e))
    (each_of (λ p. owns_name (of_least 0 false 35) p ≡ true) _ _ _ refl refl refl) (omega arith)

pub opens_lost : CanOpen 32 false 3 258 270
unfolding spare_among place_among has_stamp
opens_lost = can_open 32 false 3 258 270 (omega arith) refl (each_of (λ p. IsSome (place_for (of_least 32 false 3) (three 258 270) p)) _ _ _ refl refl refl) (λ e. omega (arith, e)) (λ e. omega (arith, e)) (λ e. omega (arith, e))
    (each_of (λ p. owns_name (of_least 32 false 3) p ≡ true) _ _ _ refl refl refl) (omega arith)

pub opens_partly : CanOpen 0 true 15 320 321
unfolding spare_among place_among has_stamp
opens_partly = can_open 0 true 15 320 321 (omega arith) refl (each_of (λ p. IsSome (place_for (of_least 0 true 15) (three 320 321) p)) _ _ _ refl refl refl) (λ e. omega (arith, e)) (λ e. omega (arith, e)) (λ e. omega (arith, e))
    (each_of (λ p. owns_name (of_least 0 true 15) p ≡ true) _ _ _ refl refl refl) (omega arith)

pub opens_partly_lost : CanOpen 0 true 15 258 270
unfolding spare_among place_among has_stamp
opens_partly_lost = can_open 0 true 15 258 270 (omega arith) refl (each_of (λ p. IsSome (place_for (of_least 0 true 15) (three 258 270) p)) _ _ _ refl refl refl) (λ e. omega (arith, e)) (λ e. omega (arith, e)) (λ e. omega (arith, e))
    (each_of (λ p. owns_name (of_least 0 true 15) p ≡ true) _ _ _ refl refl refl) (omega arith)
