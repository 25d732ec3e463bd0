-- How calls go on in what a stop leaves, and what is stored after them.
use Rattle.std.proofs.Common.{inl, inr, ⊎_elim, ◌⊎◌, ℕ, ◌≤◌, arith}
use Rattle.std.proofs.lemmas.Bool.{cases_lt}
use Rattle.nl_field.specs.CrashStates.{Earlier, Turns, top}
use Rattle.nl_field.proofs.Crashes.{start, then, weaken}
use Rattle.nl_iface.specs.Calls.{LeavesAt, stored}
use Rattle.nl_iface.specs.Stored.{Stored}
use Rattle.nl_iface.specs.declared.counts.Counts.{Ghosts}

earlier_by : (m a b : ℕ) → m ≤ a → Earlier a b → a ≤ b → Earlier m b
earlier_by m a b from strict le below = elim (cases_lt a top) [
  | inl lt ↦ let less = strict lt in omega (arith, from, less)
  | inr end ↦ omega (arith, end, below, le)
]

earlier_later : (m a b : ℕ) → Earlier m a → a ≤ b → Earlier m b
earlier_later m a b strict le below = let less = strict below in omega (arith, less, le)

module _ {D : Type 0} (g : Ghosts D) where
  -- nothing was written
  pub at_start : (done : Type 0) (B A : Stored → Type 0) (s : D) → A (stored g s) → LeavesAt g done B A s s
  at_start done B A s is = record { stops = start s (λ m c. Turns done (g.clock s) B A m (g.stored_of c)); now = inr is }

  -- in weaker words
  pub at_by : (done over : Type 0) (B A P Q : Stored → Type 0) (old new : D) → (over → done) → ((c : Stored) → B c → P c) → ((c : Stored) → A c → Q c)
      → LeavesAt g done B A old new → LeavesAt g over P Q old new
  at_by done over B A P Q old new is_done on_b on_a l = record {
    stops = weaken (λ m c. Turns done (g.clock new) B A m (g.stored_of c)) (λ m c. Turns over (g.clock new) P Q m (g.stored_of c)) l.stops
        (λ m c from to. ⊎_elim (λ was. inl ((λ f. was.0 (is_done f)), on_b (g.stored_of c) was.1)) (λ a. inr (on_a (g.stored_of c) a)));
    now = ⊎_elim (λ was. inl ((λ f. was.0 (is_done f)), on_b (stored g new) was.1)) (λ a. inr (on_a (stored g new) a)) l.now;
  }

  -- a call that was not done
  pub at_failed : (done over : Type 0) (B A P Q : Stored → Type 0) (old new : D) → (over → ⊥) → ((c : Stored) → B c → P c) → ((c : Stored) → A c → P c)
      → LeavesAt g done B A old new → LeavesAt g over P Q old new
  at_failed done over B A P Q old new off on_b on_a l = record {
    stops = weaken (λ m c. Turns done (g.clock new) B A m (g.stored_of c)) (λ m c. Turns over (g.clock new) P Q m (g.stored_of c)) l.stops
        (λ m c from to. ⊎_elim (λ was. inl ((λ o. absurd (off o)), on_b (g.stored_of c) was.1)) (λ a. inl ((λ o. absurd (off o)), on_a (g.stored_of c) a)));
    now = inl (off, ⊎_elim (λ was. on_b (stored g new) was.1) (λ a. on_a (stored g new) a) l.now);
  }

  -- a call that was done, and then another one
  pub at_then : (done over : Type 0) (B A B' A' P Q : Stored → Type 0) (old mid new : D) → done → LeavesAt g done B A old mid → LeavesAt g over B' A' mid new
      → ((c : Stored) → B c → P c) → ((over → Earlier (g.clock mid) (g.clock new)) × ((c : Stored) → A c → P c)) ⊎ ((c : Stored) → A c → Q c)
      → ((c : Stored) → B' c → P c) → ((c : Stored) → A' c → Q c) → LeavesAt g over P Q old new
  at_then done over B A B' A' P Q old mid new is_done first rest on_b on_a on_b' on_a' = record {
    stops = then (λ m c. Turns over (g.clock new) P Q m (g.stored_of c))
        (weaken (λ m c. Turns done (g.clock mid) B A m (g.stored_of c)) (λ m c. Turns over (g.clock new) P Q m (g.stored_of c)) first.stops
        (λ m c from to. ⊎_elim
        (λ was. inl ((λ o. earlier_later m (g.clock mid) (g.clock new) (was.0 is_done) rest.stops.later), on_b (g.stored_of c) was.1))
        (λ a. by m to (g.stored_of c) a on_a)))
        (weaken (λ m c. Turns over (g.clock new) B' A' m (g.stored_of c)) (λ m c. Turns over (g.clock new) P Q m (g.stored_of c)) rest.stops
        (λ m c from to. ⊎_elim (λ was. inl (was.0, on_b' (g.stored_of c) was.1)) (λ a. inr (on_a' (g.stored_of c) a))));
    now = ⊎_elim (λ was. inl (was.0, on_b' (stored g new) was.1)) (λ a. inr (on_a' (stored g new) a)) rest.now;
  }
    where
      by : (m : ℕ) → m ≤ g.clock mid → (c : Stored) → A c → ((over → Earlier (g.clock mid) (g.clock new)) × ((c : Stored) → A c → P c)) ⊎ ((c : Stored) → A c → Q c)
          → Turns over (g.clock new) P Q m c
      by m to c a (inl more) = inl ((λ o. earlier_by m (g.clock mid) (g.clock new) to (more.0 o) rest.stops.later), more.1 c a)
      by m to c a (inr last) = inr (last c a)
