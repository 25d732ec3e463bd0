-- The count of failures: those of the medium, and the erases that were refused.
use Rattle.std.proofs.Common.{◌≡◌, ℕ, ◌+◌, ◌≤◌, arith}
use Rattle.nl_field.specs.CrashStates.{Earlier, Rose, saturated, top}
use Rattle.nl_iface.specs.Counting.{FailuresCounted, StampRises}

-- more failures of the medium are more in all
pub more_in_all : (before now refused : ℕ) → before ≤ now → saturated (before + refused) ≤ saturated (now + refused)
more_in_all before now refused le = omega (arith, le)

pub rose_in_all : (before now refused : ℕ) → Rose before now → Rose (saturated (before + refused)) (saturated (now + refused))
rose_in_all before now refused rose = omega (arith, rose)

pub once_in_all : (before now refused : ℕ) → now ≡ saturated (before + 1) → saturated (now + refused) ≡ saturated (saturated (before + refused) + 1)
once_in_all before now refused is = omega (arith, is)

-- one refusal more
pub refused_faults : (exact failed : Type 0) (media refused now : ℕ) → now ≡ saturated (refused + 1) → failed → FailuresCounted exact (saturated (media + refused)) (saturated (media + now)) failed
refused_faults exact failed media refused now is did = record {
  never_falls = omega (arith, is);
  cause = λ f. omega (arith, is);
  once = λ e f. omega (arith, is);
  stays = λ e no. absurd (no did);
}

pub earlier : (before : ℕ) {now : ℕ} → now ≡ saturated (before + 1) → Earlier before now
earlier before is below = omega (arith, is, below)

pub no_earlier : (before : ℕ) {now : ℕ} → now ≡ saturated (before + 1) → before ≤ top → before ≤ now
no_earlier before is most = omega (arith, is, most)

-- A write that failed, and one that was done: what they make of the count, and of the next stamp.
pub failed_faults : (exact failed : Type 0) (old new refused refused_now : ℕ) → refused_now ≡ refused → new ≡ saturated (old + 1) → failed → FailuresCounted exact (saturated (old + refused)) (saturated (new + refused_now)) failed
failed_faults exact failed old new refused refused_now same is did = record {
  never_falls = omega (arith, same, is);
  cause = λ f. omega (arith, same, is);
  once = λ e f. omega (arith, same, is);
  stays = λ e no. absurd (no did);
}

pub done_faults : (exact failed : Type 0) (old new refused refused_now : ℕ) → refused_now ≡ refused → new ≡ old → (failed → ⊥) → FailuresCounted exact (saturated (old + refused)) (saturated (new + refused_now)) failed
done_faults exact failed old new refused refused_now same is did = record {
  never_falls = omega (arith, same, is);
  cause = λ f. absurd (did f);
  once = λ e f. absurd (did f);
  stays = λ e no. omega (arith, same, is);
}

pub failed_stamp : (tried : Type 0) (next next_now clock clock_now old new refused refused_now : ℕ) → tried → next_now ≡ next + 1 → clock ≤ clock_now → refused_now ≡ refused → new ≡ saturated (old + 1)
    → StampRises tried next next_now clock clock_now (saturated (old + refused)) (saturated (new + refused_now))
failed_stamp tried next next_now clock clock_now old new refused refused_now did one later same is = record {
  never_falls = omega (arith, one);
  at_most_one = omega (arith, one);
  taken = λ t. one;
  stays = λ no. absurd (no did);
  paid = λ small few. omega (arith, one, later, same, is, few);
}

pub done_stamp : (tried : Type 0) (next next_now clock clock_now old new refused refused_now : ℕ) → tried → next_now ≡ next + 1 → clock_now ≡ saturated (clock + 1) → refused_now ≡ refused → new ≡ old
    → StampRises tried next next_now clock clock_now (saturated (old + refused)) (saturated (new + refused_now))
done_stamp tried next next_now clock clock_now old new refused refused_now did one tick same is = record {
  never_falls = omega (arith, one);
  at_most_one = omega (arith, one);
  taken = λ t. one;
  stays = λ no. absurd (no did);
  paid = λ small few. omega (arith, one, tick, same, is, small);
}
