use Rattle.std.proofs.Common.{◌≡◌, ◌≢◌, ℕ, zero, suc, ◌+◌, ◌-◌, ◌%◌, ◌^◌, ◌==◌, ◌<◌, Bool, true, false, [], ◌∷◌, Some, refl, sym, ◌∙◌, arith}
use Rattle.std.proofs.lemmas.Bool.{cond-false, ne_eqb}
use Rattle.nl_inode.specs.Free.{is_free}
use Rattle.nl_inode.specs.Nodes.{AddressBecomes, NodeBecomes, Spaces, is_free_address}
use Rattle.nl_namespace.specs.TakingExamples.{generations, least_taken, two_free}
use Rattle.nl_namespace.proofs.Taking.{address-from, takes-number, takes-of}
use Rattle.nl_namespace.proofs.taking_rows.takes_the_least.Goals as goal

-- number 1 is taken, and no address yet
abbrev between : Spaces
between = record { nodes = false ∷ false ∷ true ∷ []; first = 70; pool = true ∷ true ∷ [] }

least_number : (i : ℕ) → i < 1 → is_free two_free.nodes i ≡ false
least_number zero less = refl
least_number (suc i) less = absurd (none less)
  where
    none : suc i < 1 → ⊥
    none h = omega (arith, h)

other_numbers : (i : ℕ) → i ≢ 1 → is_free between.nodes i ≡ is_free two_free.nodes i
other_numbers zero far = refl
other_numbers (suc zero) far = absurd (far refl)
other_numbers (suc (suc i)) far = refl

least_address : (b : ℕ) → b < 70 → is_free_address between b ≡ false
least_address b less = by (is_free_address between b) refl
  where
    by : (x : Bool) → is_free_address between b ≡ x → is_free_address between b ≡ false
    by false e = e
    by true e = absurd (let h = address-from b between e in omega (arith, h, less))

other_addresses : (i : ℕ) → i ≢ 70 - 70 → is_free least_taken.pool i ≡ is_free between.pool i
other_addresses zero far = absurd (far refl)
other_addresses (suc i) far = refl

other_generations : (k : ℕ) → k ≢ 1 → (generations 1 8 k).generation ≡ (generations 1 7 k).generation
other_generations k far = cond-false (k == 1) 8 7 (ne_eqb k 1 far) ∙ sym (cond-false (k == 1) 7 7 (ne_eqb k 1 far))

eight : ◌≡◌ {A = ℕ} 8 ((7 + 1) % 2 ^ 32)
eight = omega arith

number : NodeBecomes 1 false two_free between
number = record { nodes = record { count = refl; at = refl; others = other_numbers }; first = refl; pool = refl }

address : AddressBecomes 70 false between least_taken
address = record { nodes = refl; first = refl; pool = record { count = refl; at = refl; others = other_addresses } }

pub returns : goal.returns
returns c =
    takes-number 1 two_free between least_taken (generations 1 7) (generations 1 8) (record { free_itself = refl; least = least_number }) number
    (takes-of (Some 70) between least_taken (record { free_itself = refl; least = least_address }, address)) eight other_generations
