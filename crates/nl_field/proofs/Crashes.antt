-- How a run of calls goes on in what a crash may have left, and in counts.
use Rattle.std.proofs.Common.{inl, inr, ⊎_elim, ◌≡◌, ℕ, ◌<◌, ◌≤◌, arith}
use Rattle.std.proofs.lemmas.Bool.{cases_lt}
use Rattle.nl_field.specs.CrashStates.{top, LeavesOnly, Earlier, Rose, Turns}

-- a count that rose and did not fall later rose
pub rose_then : (a b d : ℕ) → Rose a b → b ≤ d → Rose a d
rose_then a b d rose later = omega (arith, rose, later)

-- a count that did not fall and then rose rose
pub then_rose : (a b d : ℕ) → a ≤ b → Rose b d → Rose a d
then_rose a b d before rose = omega (arith, before, rose)

-- where it did not rise in two calls, it rose in neither
pub not_rose_first : (a b d : ℕ) → b ≤ d → (Rose a d → ⊥) → Rose a b → ⊥
not_rose_first a b d later off rose = off (rose_then a b d rose later)

pub not_rose_second : (a b d : ℕ) → a ≤ b → (Rose a d → ⊥) → Rose b d → ⊥
not_rose_second a b d before off rose = off (then_rose a b d before rose)

module _ {M I : Type 0} {clock : M → ℕ} {left : M → ℕ → I → Type 0} where
  -- before the first call
  pub start : (s : M) (P : ℕ → I → Type 0) → LeavesOnly clock left s s P
  start s P = record { later = omega arith; each = λ m c l. inl l }

  -- a call that programs and erases nothing
  pub still : {old new : M} (P : ℕ → I → Type 0) → clock new ≡ clock old → ((m : ℕ) (c : I) → left new m c → left old m c) → LeavesOnly clock left old new P
  still P same no_more = record { later = omega arith; each = λ m c l. inl (no_more m c l) }

  pub weaken : {old new : M} (P Q : ℕ → I → Type 0) → LeavesOnly clock left old new P
      → ((m : ℕ) (c : I) → clock old ≤ m → m ≤ clock new → P m c → Q m c) → LeavesOnly clock left old new Q
  weaken P Q leaves by = record {
    later = leaves.later;
    each = λ m c l. ⊎_elim (λ before. inl before) (λ here. inr (here.0, here.1, by m c here.0 here.1 here.2)) (leaves.each m c l);
  }

  pub then : {a b d : M} (P : ℕ → I → Type 0) → LeavesOnly clock left a b P → LeavesOnly clock left b d P → LeavesOnly clock left a d P
  then {a} {b} {d} P first second = record {
    later = omega (arith, first.later, second.later);
    each = λ m c l. ⊎_elim
        (λ before. ⊎_elim (λ b4. inl b4) (λ here. let p : m ≤ clock d = omega (arith, here.1, second.later) in inr (here.0, p, here.2)) (first.each m c before))
        (λ here. let p : clock a ≤ m = omega (arith, here.0, first.later) in inr (p, here.1, here.2)) (second.each m c l);
  }

  -- calls that leave the old, and then calls that turn to the new
  pub turns_later : {a b d : M} (finished : Type 0) (B A : I → Type 0) → LeavesOnly clock left a b (λ m c. B c) → LeavesOnly clock left b d (Turns finished (clock d) B A)
      → (finished → Earlier (clock b) (clock d)) → LeavesOnly clock left a d (Turns finished (clock d) B A)
  turns_later {a} {b} {d} finished B A first second strict = then (Turns finished (clock d) B A) (weaken (λ m c. B c) (Turns finished (clock d) B A) first
      (λ m c from to was. inl ((λ f. earlier m to (strict f)), was))) second
    where
      earlier : (m : ℕ) → m ≤ clock b → Earlier (clock b) (clock d) → Earlier m (clock d)
      earlier m to strict below = elim (cases_lt (clock b) top) [
        | inl lt ↦ let less = strict lt in omega (arith, to, less)
        | inr end ↦ omega (arith, end, below, second.later)
      ]

  -- calls that turned to the new, and then calls that leave it
  pub turned_then : {a b d : M} (first_finished finished : Type 0) (B A : I → Type 0) → first_finished → LeavesOnly clock left a b (Turns first_finished (clock b) B A)
      → LeavesOnly clock left b d (λ m c. A c) → LeavesOnly clock left a d (Turns finished (clock d) B A)
  turned_then {a} {b} {d} first_finished finished B A f first second = then (Turns finished (clock d) B A)
      (weaken (Turns first_finished (clock b) B A) (Turns finished (clock d) B A) first
      (λ m c from to. ⊎_elim (λ was. inl ((λ _. earlier m (was.0 f)), was.1)) (λ new. inr new)))
      (weaken (λ m c. A c) (Turns finished (clock d) B A) second (λ m c from to new. inr new))
    where
      earlier : (m : ℕ) → Earlier m (clock b) → Earlier m (clock d)
      earlier m before below = omega (arith, before below, second.later)

  -- what one call may have left, where each state has P or Q beside
  pub turns_both : {old new : M} (finished : Type 0) (B A P Q : I → Type 0) → LeavesOnly clock left old new (Turns finished (clock new) B A)
      → ((c : I) → B c → P c) → ((c : I) → A c → Q c) → LeavesOnly clock left old new (Turns finished (clock new) P Q)
  turns_both {old} {new} finished B A P Q leaves on_b on_a = weaken (Turns finished (clock new) B A) (Turns finished (clock new) P Q) leaves
      (λ m c from to. ⊎_elim (λ was. inl (was.0, on_b c was.1)) (λ a. inr (on_a c a)))

  -- whether it was finished or not
  pub turns_either : {old new : M} (finished : Type 0) (B A P : I → Type 0) → LeavesOnly clock left old new (Turns finished (clock new) B A)
      → ((c : I) → B c → P c) → ((c : I) → A c → P c) → LeavesOnly clock left old new (λ m c. P c)
  turns_either {old} {new} finished B A P leaves on_b on_a = weaken (Turns finished (clock new) B A) (λ m c. P c) leaves
      (λ m c from to. ⊎_elim (λ was. on_b c was.1) (λ a. on_a c a))

  -- once it turned, a crash at the last moment leaves the new: nothing else was left at so late a moment
  pub last_moment : {old new : M} (finished : Type 0) (B A : I → Type 0) → LeavesOnly clock left old new (Turns finished (clock new) B A) → finished
      → ((m : ℕ) (c : I) → left old m c → m ≤ clock old) → clock old < clock new → clock new < top → (c : I) → left new (clock new) c → A c
  last_moment {old} {new} finished B A leaves f bounded ticks small c l = ⊎_elim
      (λ before. let le = bounded (clock new) c before in absurd (omega (arith, le, ticks)))
      (λ here. ⊎_elim (λ was. let early = was.0 f small in absurd (omega (arith, early))) (λ new. new) here.2)
      (leaves.each (clock new) c l)
