-- Counts of faults that never fall, and a rise of one.
use Rattle.std.proofs.Common.{◌≡◌, ℕ, ◌+◌, ◌<◌, ◌≤◌, min, inl, inr, arith}
use Rattle.std.specs.Prelude.{◌⊎◌}
use Rattle.std.proofs.lemmas.Bool.{cases_lt}
use Rattle.nl_field.specs.CrashStates.{top, saturated}
use Rattle.nl_tree.specs.Causes.{Counts, NeverFall, FaultRose, fault_sum, IsSumSince}
use Rattle.nl_tree.specs.FaultLaws.{FaultLaws}

rises : (r w r' w' : ℕ) → r ≤ r' → w ≤ w' → (min (r + 1) top ≤ r') ⊎ (min (w + 1) top ≤ w') → (saturated (r + w) < saturated (r' + w')) ⊎ (saturated (r' + w') ≡ top)
rises r w r' w' a b rose = elim (cases_lt (r' + w') top) [ inl below ↦ inl (by_count rose below) | inr above ↦ inr (omega arith) ]
  where
    by_count : (min (r + 1) top ≤ r') ⊎ (min (w + 1) top ≤ w') → r' + w' < top → saturated (r + w) < saturated (r' + w')
    by_count (inl h) below = omega arith
    by_count (inr h) below = omega arith

grows : (before now : Counts) → NeverFall before now → fault_sum before ≤ fault_sum now
grows before now h = let a = h.read_faults in let b = h.write_faults in omega arith

risen : (before now : Counts) → NeverFall before now → FaultRose before now → (fault_sum before < fault_sum now) ⊎ (fault_sum now ≡ top)
risen before now h rose = rises before.read_faults before.write_faults now.read_faults now.write_faults h.read_faults h.write_faults rose

cause : (opening before now : Counts) → NeverFall opening before → NeverFall before now → FaultRose before now → IsSumSince opening now (fault_sum now)
cause opening before now old new rose =
    let low = grows opening before old in
    (elim (risen before now new rose) as (λ x. (fault_sum opening < fault_sum now) ⊎ (fault_sum now ≡ top)) [ inl above ↦ inl (omega arith) | inr full ↦ inr full ], omega arith)

stays : (opening before now : Counts) (n : ℕ) → IsSumSince opening before n → NeverFall before now → IsSumSince opening now n
stays opening before now n since new = let up = grows before now new in (since.0, omega (arith, since.1))

above : (opening before now : Counts) (n : ℕ) → IsSumSince opening before n → NeverFall before now → FaultRose before now → (n < fault_sum now) ⊎ (fault_sum now ≡ top)
above opening before now n since new rose =
    elim (risen before now new rose) as (λ x. (n < fault_sum now) ⊎ (fault_sum now ≡ top)) [ inl below ↦ inl (omega (arith, since.1)) | inr full ↦ inr full ]

pub fault_laws : FaultLaws
fault_laws = record { cause = cause; stays = stays; above = above }
