-- What a crash may leave of a medium that tells nothing: nothing that was not left before, or what there is now.
use Rattle.std.proofs.Common.{◌≡◌, ◌⊎◌, inl, inr, ⊎_elim, ℕ, ◌+◌, ◌≤◌, arith}
use Rattle.std.proofs.Math.Nat.{eq-or-lt_of_le}
use Rattle.nl_field.specs.Page.{Page}
use Rattle.nl_nand.specs.Nand.{CrashLeaves, ticked}
use Rattle.nl_nand.specs.declared.answers.WriteAnswer.{WriteAnswer}
use Rattle.nl_nand.specs.declared.answers.WriteAnswer.TheVariants as write
use Rattle.nl_test_top_faults.specs.declared.medium.Untold.{Untold}
use Rattle.nl_test_top_faults.specs.Untold.{clock_of, contents_of, crash_states}

one_more : (m clock now : ℕ) → clock ≤ now → now ≤ clock + 1 → m ≤ now → (m ≤ clock) ⊎ (m ≡ now)
one_more m clock now later near within = ⊎_elim (λ same. inr same) (λ below. inl (omega (arith, below, near))) (eq-or-lt_of_le {n = m} {m = now} within)

ticked_near : (clock : ℕ) (answer : WriteAnswer) → ticked clock answer ≤ clock + 1
ticked_near clock write.Done = omega arith
ticked_near clock write.Failed = omega arith

pub crash_leaves : (low high : ℕ) (value : Page) (old new : Untold) (answer : WriteAnswer) → clock_of old ≤ clock_of new → clock_of new ≡ ticked (clock_of old) answer → CrashLeaves clock_of contents_of crash_states low high value old new
crash_leaves low high value old new answer later clock =
    let near : clock_of new ≤ clock_of old + 1 = rw clock (ticked_near (clock_of old) answer) in
    record {
      later = later;
      each = λ m c l. ⊎_elim (λ before. inl (before, l.1)) (λ now. inr (inr (now, l.1))) (one_more m (clock_of old) (clock_of new) later near l.0);
      keeps = λ m c l. (omega (arith, l.0), l.1);
    }
