-- What one operation leaves, beside how a run of calls goes on in what a crash may have left.
use Rattle.std.proofs.Common.{◌≡◌, ◌⊎◌, inl, inr, ⊎_elim, ℕ, ◌+◌, ◌<◌, ◌≤◌, refl, sym, subst, arith}
use Rattle.nl_field.specs.CrashStates.{saturated, LeavesOnly, Earlier, Turns}
pub use Rattle.nl_field.proofs.Crashes.{start, still, weaken, then, turns_later, turned_then, last_moment}
use Rattle.nl_field.specs.Page.{Page, Image, page_at}
use Rattle.nl_nand.specs.declared.answers.WriteAnswer.{WriteAnswer}
use Rattle.nl_nand.specs.declared.answers.WriteAnswer.TheVariants as write
use Rattle.nl_nand.specs.Nand.{Filled, Cut, OperationLeaves, ticked, SameCrashStates, CrashLeaves}
use Rattle.nl_nand.specs.ImageLaws.{filled_cut}

-- a page outside the range stays
pub outside : {low high : ℕ} {value : Page} {old c : Image} → Cut low high value old c → (p : ℕ) → (p < low) ⊎ (high ≤ p) → page_at c p ≡ page_at old p
outside cut p (inl below) = ⊎_elim (λ same. same) (λ within. absurd (omega (arith, within.0))) (cut.each p)
outside cut p (inr above) = ⊎_elim (λ same. same) (λ within. absurd (omega (arith, within.1))) (cut.each p)

-- an operation leaves what a cut one may, whatever it answered
pub leaves_cut : (low high : ℕ) (value : Page) (old : Image) (answer : WriteAnswer) (new : Image) → OperationLeaves low high value old answer new → Cut low high value old new
leaves_cut low high value old write.Done new effect = filled_cut effect
leaves_cut low high value old write.Failed new effect = effect

pub leaves_done : (low high : ℕ) (value : Page) (old : Image) (answer : WriteAnswer) (new : Image) → answer ≡ write.Done → OperationLeaves low high value old answer new → Filled low high value old new
leaves_done low high value old answer new done effect = subst (λ a. OperationLeaves low high value old a new) done effect

-- a read leaves nothing new
pub read_leaves : {M : Type 0} {clock : M → ℕ} {left : M → ℕ → Image → Type 0} {old new : M} (P : ℕ → Image → Type 0) → clock new ≡ clock old → SameCrashStates left old new → LeavesOnly clock left old new P
read_leaves P same left = still P same left.no_more

module _ {M : Type 0} {clock : M → ℕ} {contents : M → Image} {left : M → ℕ → Image → Type 0} where
  -- one operation, where each image that a cut one leaves has Q
  pub operation : {low high : ℕ} {value : Page} {old new : M} (answer : WriteAnswer) (Q : Image → Type 0)
      → CrashLeaves clock contents left low high value old new
      → OperationLeaves low high value (contents old) answer (contents new)
      → ((c : Image) → Cut low high value (contents old) c → Q c) → LeavesOnly clock left old new (λ m c. Q c)
  operation {low} {high} {value} {old} {new} answer Q crash effect by = record {
    later = crash.later;
    each = λ m c l. ⊎_elim (λ before. inl before)
        (λ here. ⊎_elim
        (λ cut. let p : clock old ≤ m = omega arith in let q : m ≤ clock new = omega (arith, crash.later) in inr (p, q, by c cut.1))
        (λ now. let p : clock old ≤ m = omega (arith, crash.later) in let q : m ≤ clock new = omega arith in
        inr (p, q, subst Q (sym now.1) (by (contents new) (leaves_cut low high value (contents old) answer (contents new) effect))))
        here)
        (crash.each m c l);
  }

  -- one operation that was to make A of B
  pub operation_turns : {low high : ℕ} {value : Page} {old new : M} (finished : Type 0) (answer : WriteAnswer) (B A : Image → Type 0) → (finished → answer ≡ write.Done)
      → CrashLeaves clock contents left low high value old new
      → OperationLeaves low high value (contents old) answer (contents new)
      → clock new ≡ ticked (clock old) answer
      → ((c : Image) → Cut low high value (contents old) c → B c ⊎ A c)
      → (answer ≡ write.Done → A (contents new))
      → LeavesOnly clock left old new (Turns finished (clock new) B A)
  operation_turns {low} {high} {value} {old} {new} finished answer B A is_done crash effect ticks by after = record {
    later = crash.later;
    each = λ m c l. ⊎_elim (λ before. inl before)
        (λ here. ⊎_elim
        (λ cut. let p : clock old ≤ m = omega arith in let q : m ≤ clock new = omega (arith, crash.later) in
        inr (p, q, ⊎_elim (λ b. inl ((λ f. earlier m cut.0 (subst (λ a. clock new ≡ ticked (clock old) a) (is_done f) ticks)), b)) (λ a. inr a) (by c cut.1)))
        (λ now. let p : clock old ≤ m = omega (arith, crash.later) in let q : m ≤ clock new = omega arith in
        inr (p, q, at_end m c now.1 answer refl effect))
        here)
        (crash.each m c l);
  }
    where
      earlier : (m : ℕ) → m ≡ clock old → clock new ≡ saturated (clock old + 1) → Earlier m (clock new)
      earlier m is tick below = omega (arith, is, tick, below)

      at_end : (m : ℕ) (c : Image) → c ≡ contents new → (a : WriteAnswer) → answer ≡ a → OperationLeaves low high value (contents old) a (contents new) → Turns finished (clock new) B A m c
      at_end m c is write.Done done e = inr (subst A (sym is) (after done))
      at_end m c is write.Failed failed e = ⊎_elim (λ b. inl ((λ f. absurd (cc (is_done f, failed))), subst B (sym is) b)) (λ a. inr (subst A (sym is) a)) (by (contents new) e)
