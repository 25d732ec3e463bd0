-- The end of a cleaning: the victim is erased, or there was none.
use Rattle.std.proofs.Common.{◌≡◌, ◌⊎◌, inl, inr, ℕ, ◌+◌, ◌≤◌, sym, ◌∙◌, ap, subst, arith}
use Rattle.std.specs.Prelude.{⊤}
use Rattle.nl_iface.specs.declared.moving.Copying.{Copying}
use Rattle.nl_iface.specs.declared.moving.Copying.TheVariants.{Did, Nothing, Fault}
use Rattle.nl_field.proofs.Crashes.{then_rose}
use Rattle.nl_field.specs.CrashStates.{Earlier, Rose, saturated}
use Rattle.nl_iface.specs.Calls.{CallCounted, OnlyReads, Ticks, stored}
use Rattle.nl_iface.specs.Moves.{ErasesAtCrashes, HasNothingToCopy, KeepsCleaning}
use Rattle.nl_iface.specs.Names.{Names, SameTables}
use Rattle.nl_iface.specs.Space.{NoneRetired, Space}
use Rattle.nl_iface.specs.declared.counts.Counts.{Ghosts}
use Rattle.nl_iface.specs.Counting.{FailuresCounted}
use Rattle.nl_core_clean.specs.Carried.{KeepsHeld, KeepsStored}
use Rattle.nl_core_clean.specs.Spaces.{HasEmptied, HasMoved, StaysInHand}
use Rattle.nl_core_clean.proofs.Carrying.{same_itself}
use Rattle.nl_core_clean.proofs.Counting.{counted_as, counted_then}
use Rattle.nl_core_clean.proofs.Emptying.{moved_live, moved_same}
use Rattle.nl_core_clean.proofs.Steps.{erased_keeps, held_then}

pub emptied_is : (a : Copying) (s t : Space) → (a ≡ Did) ⊎ (a ≡ Nothing) → HasEmptied a s t → HasMoved s t × HasNothingToCopy t
emptied_is a s t (inl did) e = absurd (subst (λ x. HasEmptied x s t) did e)
emptied_is a s t (inr nothing) e = subst (λ x. HasEmptied x s t) nothing e

pub emptied_well : (a : Copying) → (a ≡ Did) ⊎ (a ≡ Nothing) → a ≡ Fault → ⊥
emptied_well a (inl did) fault = apart (sym did ∙ fault)
  where
    apart : Did ≡ Fault → ⊥
    apart e = cc
emptied_well a (inr nothing) fault = apart (sym nothing ∙ fault)
  where
    apart : Nothing ≡ Fault → ⊥
    apart e = cc

-- no victim was in hand, and none was begun
pub idle : (s t : Space) → HasMoved s t → HasNothingToCopy t → ((t.victim ≡ 1) × (t.left ≡ 0) → ⊥) → HasNothingToCopy s × (s.victim ≡ 0) × (t ≡ s)
idle s t moved (inl hand) off = absurd (off hand)
idle s t (inl same) (inr why) off = (subst HasNothingToCopy same (inr why), ap (λ (x : Space). x.victim) (sym same) ∙ why.0, same)
idle s t (inr moves) (inr why) off = let one = moves.victim in let none = why.0 in absurd (omega (arith, one, none))

-- a victim is in hand
pub in_hand : (t : Space) → HasNothingToCopy t → (((t.victim ≡ 1) × (t.left ≡ 0) → ⊥) → ⊥) → t.victim ≡ 1
in_hand t (inl hand) un = hand.0
in_hand t (inr why) un = absurd (un (λ hand. let one = hand.0 in let none = why.0 in omega (arith, one, none)))

pub stays : (s t : Space) → HasMoved s t → t.victim ≡ 1 → NoneRetired s t → StaysInHand s t
stays s t moved one none = record { same = moved_same s t moved; bad = none; victim = one; live = moved_live s t moved }

pub erased_rose : (before now : ℕ) (failed : Type 0) → FailuresCounted ⊤ before now failed → failed → Rose before now
erased_rose before now failed f is = f.cause is

ticked : (first before now : ℕ) → first ≤ before → now ≡ saturated (before + 1) → Earlier first now
ticked first before now le same below = omega (arith, le, same, below)

module _ {D : Type 0} (g : Ghosts D) where
  -- where a victim was in hand, there was something to clean
  pub busy : (s t : D) → (HasNothingToCopy (g.names s).space → OnlyReads g s t) → (g.names t).space.victim ≡ 1 → HasNothingToCopy (g.names s).space × ((g.names s).space.victim ≡ 0) → ⊥
  busy s t reads one nothing =
      let same = ap (λ (n : Names). n.space.victim) (reads nothing.0).names in
      let none = nothing.1 in
      omega (arith, same, one, none)

  erase_counted : (failed : Type 0) (t u : D) → g.read_faults u ≡ g.read_faults t → FailuresCounted ⊤ (g.write_faults t) (g.write_faults u) failed → CallCounted g failed t u
  erase_counted failed t u reads f = record {
    reads_never_fall = omega (arith, reads);
    writes_never_fall = f.never_falls;
    cause = λ is. inr (erased_rose (g.write_faults t) (g.write_faults u) failed f is);
    stays = λ exact off. (reads, f.stays tt off);
  }

  pub same_names : (t u : D) → g.names u ≡ g.names t → SameTables (g.names t) (g.names u)
  same_names t u same = subst (λ n. SameTables (g.names t) n) (sym same) (same_itself (g.names t))

  pub end_held : (s t u : D) → (g.tells → KeepsStored (stored g s) (stored g t)) → KeepsHeld g s t → SameTables (g.names t) (g.names u) → (g.tells → ErasesAtCrashes g t u) → KeepsCleaning g t u → KeepsHeld g s u
  end_held s t u kept first tables left k = held_then g s t u kept first (erased_keeps g t u tables left k)

  pub end_ticks : (done : Type 0) (s t u : D) → g.clock s ≤ g.clock t → g.clock t ≤ g.clock u → (done → g.clock u ≡ saturated (g.clock t + 1)) → Ticks g done s u
  end_ticks done s t u first second ticks = record { clock = omega (arith, first, second); later = λ d. ticked (g.clock s) (g.clock t) (g.clock u) first (ticks d) }

  pub end_counted : (failed erased fails : Type 0) (s t u : D) → (failed → ⊥) → (g.clean s → g.clean t) → CallCounted g failed s t → g.read_faults u ≡ g.read_faults t → FailuresCounted ⊤ (g.write_faults t) (g.write_faults u) erased
      → (fails → erased) → (erased → fails) → CallCounted g fails s u
  end_counted failed erased fails s t u fine clean k reads f to from = counted_then g failed fails s t u fine clean k (counted_as g erased fails t u to from (erase_counted erased t u reads f))

  pub end_rose : (failed erased : Type 0) (s t u : D) → CallCounted g failed s t → FailuresCounted ⊤ (g.write_faults t) (g.write_faults u) erased → erased → Rose (g.write_faults s) (g.write_faults u)
  end_rose failed erased s t u k f is = then_rose (g.write_faults s) (g.write_faults t) (g.write_faults u) k.writes_never_fall (erased_rose (g.write_faults t) (g.write_faults u) erased f is)
