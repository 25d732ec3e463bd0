-- Each finding has a bit of its own.
use Rattle.std.proofs.Common.{◌≡◌, ◌==◌, ℕ, true, refl, ap}
use Rattle.std.specs.Prelude.{◌≢◌}
use Rattle.std.specs.Int.RustNames.{bit_and, bit_or}
use Rattle.std.proofs.lemmas.Bool.{eq-eqb}
use Rattle.std.proofs.lemmas.Nat.{and_or_self, and_or_apart}
use Rattle.nl_field.specs.FindingBits.{bit_of}
use Rattle.nl_field.specs.declared.place.What.{What}
use Rattle.nl_field.specs.declared.place.What.TheVariants.{Super, Stamp, Inode, Pages, Entry, Pointer, Names, Charges, Crowded}

pub bits-apart : (a b : What) → b ≢ a → bit_and (bit_of a) (bit_of b) ≡ 0
bits-apart Super Super differ = absurd (differ refl)
bits-apart Super _ differ = refl
bits-apart Stamp Stamp differ = absurd (differ refl)
bits-apart Stamp _ differ = refl
bits-apart Inode Inode differ = absurd (differ refl)
bits-apart Inode _ differ = refl
bits-apart Pages Pages differ = absurd (differ refl)
bits-apart Pages _ differ = refl
bits-apart Entry Entry differ = absurd (differ refl)
bits-apart Entry _ differ = refl
bits-apart Pointer Pointer differ = absurd (differ refl)
bits-apart Pointer _ differ = refl
bits-apart Names Names differ = absurd (differ refl)
bits-apart Names _ differ = refl
bits-apart Charges Charges differ = absurd (differ refl)
bits-apart Charges _ differ = refl
bits-apart Crowded Crowded differ = absurd (differ refl)
bits-apart Crowded _ differ = refl

pub add-has : (bits : ℕ) (what : What) → (bit_and (bit_or bits (bit_of what)) (bit_of what) == bit_of what) ≡ true
add-has bits what = eq-eqb _ _ (and_or_self (bit_of what) bits)

pub add-keeps : (bits : ℕ) (what other : What) → other ≢ what → (bit_and (bit_or bits (bit_of what)) (bit_of other) == bit_of other) ≡ (bit_and bits (bit_of other) == bit_of other)
add-keeps bits what other differ = ap (λ (n : ℕ). n == bit_of other) (and_or_apart (bit_of other) bits (bit_of what) (bits-apart what other differ))
