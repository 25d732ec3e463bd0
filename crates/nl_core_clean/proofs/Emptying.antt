-- The moves out of one victim, one after the other.
use Rattle.std.proofs.Common.{◌≡◌, ◌⊎◌, inl, inr, ⊎_elim, ℕ, ◌+◌, ◌-◌, ◌*◌, ◌<◌, ◌≤◌, refl, sym, ◌∙◌, ap, subst, arith}
use Rattle.nl_iface.specs.declared.moving.Copying.{Copying}
use Rattle.nl_iface.specs.declared.moving.Copying.TheVariants.{Did, Nothing, Lost, Fault}
use Rattle.nl_field.proofs.Crashes.{then_rose}
use Rattle.nl_field.specs.CrashStates.{Rose}
use Rattle.nl_iface.proofs.RoundSteps.{moves_laws}
use Rattle.nl_iface.proofs.Stops.{reads_then}
use Rattle.nl_iface.specs.Calls.{CallCounted, KeepsMedium, OnlyReads, StoresPages, stored}
use Rattle.nl_iface.specs.Moves.{FailsToCopy, HasCopied, HasNothingToCopy, KeepsCleaning, LeavesMove, TakesVictim}
use Rattle.nl_iface.specs.Names.{Names, SameTables}
use Rattle.nl_iface.specs.Rounds.{MovesSomePages}
use Rattle.nl_iface.specs.Space.{VictimBegun, CanLand, Copied, NoneRetired, SameSegment, Space, Wasted}
use Rattle.nl_iface.specs.declared.Callback.{Callback}
use Rattle.nl_iface.specs.declared.counts.Counts.{Ghosts}
use Rattle.nl_core_clean.specs.Carried.{CarriesPages, KeepsHeld, KeepsStored}
use Rattle.nl_core_clean.specs.Spaces.{HasEmptied, HasMoved, StaysInHand}
use Rattle.nl_core_clean.proofs.Carrying.{move_carries, same_carries, same_itself}
use Rattle.nl_core_clean.proofs.Counting.{counted_start, counted_then}
use Rattle.nl_core_clean.proofs.Steps.{held_then, moved_held, moved_stored, still_held, stored_same, stored_then}

-- ---- numbers

-- the live pages of the victim, or more than a victim has where none is in hand
abbrev pub pages_left : Space → ℕ
pages_left s = s.left + (1 - s.victim) * (s.block + 1)

pub moves_less : (s m t : Space) → TakesVictim s m → Copied m t → pages_left t < pages_left s
moves_less s m t (inl hand) k =
    let victim = k.victim in
    let less = k.left in
    let same = ap (λ (x : Space). x.left) hand.1 in
    subst (λ v. t.left + (1 - v) * (t.block + 1) < pages_left s) (sym victim) (subst (λ v. t.left + (1 - 1) * (t.block + 1) < s.left + (1 - v) * (s.block + 1)) (sym hand.0) (omega (arith, less, same)))
moves_less s m t (inr begun) k =
    let victim = k.victim in
    let less = k.left in
    let few = begun.0.left in
    let block = begun.0.same.block in
    subst (λ v. t.left + (1 - v) * (t.block + 1) < pages_left s) (sym victim) (subst (λ v. t.left + (1 - 1) * (t.block + 1) < s.left + (1 - v) * (s.block + 1)) (sym begun.0.none) (omega (arith, less, few, block)))

pub begun_less : (s t : Space) → VictimBegun s t → t.left ≡ 0 → pages_left t < pages_left s
begun_less s t b none = subst (λ v. t.left + (1 - v) * (t.block + 1) < pages_left s) (sym b.victim) (subst (λ v. t.left + (1 - 1) * (t.block + 1) < s.left + (1 - v) * (s.block + 1)) (sym b.none) (omega (arith, none)))

pub moved_then : (r s t : Space) → HasMoved r s → MovesSomePages s t → HasMoved r t
moved_then r s t (inl same) k = inr (subst (λ x. MovesSomePages x t) same k)
moved_then r s t (inr first) k = inr (moves_laws.then r s t first k)

taken_lands : (s m : Space) → TakesVictim s m → CanLand s → CanLand m
taken_lands s m (inl hand) lands = subst CanLand (sym hand.1) lands
taken_lands s m (inr begun) lands = begun.0.lands

taken_bad : (s m : Space) → TakesVictim s m → NoneRetired s m
taken_bad s m (inl hand) = ap (λ (x : Space). x.bad) hand.1
taken_bad s m (inr begun) = begun.0.bad

pub taken_same : (s m : Space) → TakesVictim s m → SameSegment s m
taken_same s m (inl hand) = subst (SameSegment s) (sym hand.1) (record { block = refl; all = refl; bad = omega arith; kept = refl })
taken_same s m (inr begun) = begun.0.same

pub taken_live : (s m : Space) → TakesVictim s m → m.live ≡ s.live
taken_live s m (inl hand) = ap (λ (x : Space). x.live) hand.1
taken_live s m (inr begun) = begun.0.others.3

pub segment_then : {r s t : Space} → SameSegment r s → SameSegment s t → SameSegment r t
segment_then a b = record { block = b.block ∙ a.block; all = b.all ∙ a.all; bad = (let x = a.bad in let y = b.bad in omega (arith, x, y)); kept = b.kept ∙ a.kept }

pub moved_same : (s m : Space) → HasMoved s m → SameSegment s m
moved_same s m (inl same) = subst (SameSegment s) (sym same) (record { block = refl; all = refl; bad = omega arith; kept = refl })
moved_same s m (inr moves) = moves.same

pub moved_live : (s m : Space) → HasMoved s m → m.live ≡ s.live
moved_live s m (inl same) = ap (λ (x : Space). x.live) same
moved_live s m (inr moves) = moves.live

-- a move that failed leaves a victim in hand
wasted_stays : (r s m t : Space) → HasMoved r s → TakesVictim s m → Wasted m t → NoneRetired r t → StaysInHand r t
wasted_stays r s m t moved takes w none = record {
  same = segment_then (moved_same r s moved) (segment_then (taken_same s m takes) w.same);
  bad = none;
  victim = w.victim;
  live = w.tables.1 ∙ (taken_live s m takes ∙ moved_live r s moved);
}

module _ {D : Type 0} (g : Ghosts D) where
  -- what holds before each move
  pub record Emptying (start now : D) : Type 0 where
    pub formed : g.formed now
    pub lands : CanLand (g.names now).space
    pub moved : HasMoved (g.names start).space (g.names now).space
    pub held : KeepsHeld g start now
    pub stored_same : g.tells → KeepsStored (stored g start) (stored g now)
    pub counted : CallCounted g ⊥ start now
    pub none : HasNothingToCopy (g.names start).space → OnlyReads g start now

  pub medium_itself : (s : D) → KeepsMedium g s s
  medium_itself s = record {
    virtual = record { same_shape = refl; same_stamps = λ v. refl; same_map = λ t v. refl; no_failed = λ t v x f. f; spare = λ k. k };
    contents = λ t. refl;
    left = λ t m c l. l;
    bytes = λ t p. refl;
    found = refl;
    next_stamp = refl;
    clean = λ k. k;
    clock = refl;
    write_faults = refl;
  }

  pub begin : (s : D) → g.formed s → CanLand (g.names s).space → Emptying s s
  begin s formed lands = record {
    formed = formed;
    lands = lands;
    moved = inl refl;
    held = still_held g s s (same_itself (g.names s)) (medium_itself s);
    stored_same = λ t. stored_same refl;
    counted = counted_start g ⊥ s (λ f. f);
    none = λ nothing. record { medium = medium_itself s; names = refl };
  }

  -- the numbers and the names after a move
  copied_moves : (s t : D) → HasCopied g s t → NoneRetired (g.names s).space (g.names t).space → 1 ≤ (g.names s).space.block → MovesSomePages (g.names s).space (g.names t).space
  copied_moves s t (inl m) none some = moves_laws.moved (g.names s).space m.taken (g.names t).space m.takes m.space none
  copied_moves s t (inr b) none some = moves_laws.begun (g.names s).space (g.names t).space some b.0.space b.1

  pub copied_less : (s t : D) → HasCopied g s t → pages_left (g.names t).space < pages_left (g.names s).space
  copied_less s t (inl m) = moves_less (g.names s).space m.taken (g.names t).space m.takes m.space
  copied_less s t (inr b) = begun_less (g.names s).space (g.names t).space b.0.space b.1

  pub copied_in_hand : (s t : D) → HasCopied g s t → (g.names t).space.victim ≡ 1
  copied_in_hand s t (inl m) = m.space.victim
  copied_in_hand s t (inr b) = b.0.space.victim

  copied_lands : (s t : D) → HasCopied g s t → NoneRetired (g.names s).space (g.names t).space → CanLand (g.names s).space → CanLand (g.names t).space
  copied_lands s t (inl m) none lands = m.space.lands (none ∙ sym (taken_bad (g.names s).space m.taken m.takes)) (taken_lands (g.names s).space m.taken m.takes lands)
  copied_lands s t (inr b) none lands = let left = b.1 in omega (arith, left)

  pub copied_pages : (s t : D) → HasCopied g s t → KeepsCleaning g s t → CarriesPages (λ p q. g.tells → g.bytes t q ≡ g.bytes s p) (g.names s) (g.names t)
  copied_pages s t (inl m) k = move_carries _ m.callback (g.names s) (g.names t) m.names m.bytes (λ p page is tells. k.bytes tells p page is)
  copied_pages s t (inr b) k = same_carries _ (g.names s) (g.names t) b.0.tables (λ p page is tells. k.bytes tells p page is)

  -- one move more
  pub one_more : (start s t : D) (done : Type 0) (IsMove : Callback → Type 0) (failed : Type 0) → Emptying start s → HasCopied g s t → (g.tells → StoresPages g s)
      → (g.tells → LeavesMove g done IsMove s t ⊎ KeepsMedium g s t) → KeepsCleaning g s t → g.formed t → NoneRetired (g.names s).space (g.names t).space → 1 ≤ (g.names s).space.block
      → CallCounted g failed s t → (failed → ⊥) → (HasNothingToCopy (g.names s).space → ⊥) → Emptying start t
  one_more start s t done IsMove failed e copied stores left k formed none some counts fine busy = record {
    formed = formed;
    lands = copied_lands s t copied none e.lands;
    moved = moved_then (g.names start).space (g.names s).space (g.names t).space e.moved (copied_moves s t copied none some);
    held = held_then g start s t e.stored_same e.held (moved_held g done IsMove s t stores (copied_pages s t copied k) left k);
    stored_same = λ tells. stored_then (e.stored_same tells) (moved_stored g done IsMove s t tells (stores tells) (left tells));
    counted = counted_then g ⊥ ⊥ start s t (λ f. f) e.held.clean e.counted (no_failure counts);
    none = λ nothing. absurd (busy (subst (λ (n : Names). HasNothingToCopy n.space) (sym (e.none nothing).names) nothing));
  }
    where
      no_failure : CallCounted g failed s t → CallCounted g ⊥ s t
      no_failure c = record { reads_never_fall = c.reads_never_fall; writes_never_fall = c.writes_never_fall; cause = λ f. absurd f; stays = λ exact off. c.stays exact fine }

  -- ---- the last copy, which moved nothing

  -- either it only read, or it failed
  pub ended : (answer : Copying) (s t : D) → (answer ≡ Did → ⊥) → (answer ≡ Nothing → OnlyReads g s t) → ((answer ≡ Did → ⊥) → (answer ≡ Nothing → ⊥) → FailsToCopy g s t) → OnlyReads g s t ⊎ FailsToCopy g s t
  ended Did s t un reads fails = absurd (un refl)
  ended Nothing s t un reads fails = inl (reads refl)
  ended (Lost w f) s t un reads fails = inr (fails un (λ e. cc))
  ended Fault s t un reads fails = inr (fails un (λ e. cc))

  pub ended_tables : (s t : D) → OnlyReads g s t ⊎ FailsToCopy g s t → SameTables (g.names s) (g.names t)
  ended_tables s t (inl reads) = subst (λ n. SameTables (g.names s) n) (sym reads.names) (same_itself (g.names s))
  ended_tables s t (inr fails) = fails.tables

  pub ended_held : (start s t : D) (done : Type 0) (IsMove : Callback → Type 0) → Emptying start s → SameTables (g.names s) (g.names t) → (g.tells → StoresPages g s)
      → (g.tells → LeavesMove g done IsMove s t ⊎ KeepsMedium g s t) → KeepsCleaning g s t → KeepsHeld g start t
  ended_held start s t done IsMove e tables stores left k =
      held_then g start s t e.stored_same e.held (moved_held g done IsMove s t stores (same_carries _ (g.names s) (g.names t) tables (λ p page is tells. k.bytes tells p page is)) left k)

  pub ended_stored : (start s t : D) (done : Type 0) (IsMove : Callback → Type 0) → Emptying start s → (tells : g.tells) → StoresPages g s → LeavesMove g done IsMove s t ⊎ KeepsMedium g s t → KeepsStored (stored g start) (stored g t)
  ended_stored start s t done IsMove e tells stores left = stored_then (e.stored_same tells) (moved_stored g done IsMove s t tells stores left)

  pub ended_empty : (answer : Copying) (start s t : D) → (answer ≡ Did → ⊥) → Emptying start s → (answer ≡ Nothing → HasNothingToCopy (g.names s).space) → (answer ≡ Nothing → OnlyReads g s t)
      → ((answer ≡ Did → ⊥) → (answer ≡ Nothing → ⊥) → FailsToCopy g s t) → NoneRetired (g.names start).space (g.names t).space → HasEmptied answer (g.names start).space (g.names t).space
  ended_empty Did start s t un e nothing reads fails none = un refl
  ended_empty Nothing start s t un e nothing reads fails none = subst (λ (n : Names). HasMoved (g.names start).space n.space × HasNothingToCopy n.space) (sym (reads refl).names) (e.moved, nothing refl)
  ended_empty (Lost w f) start s t un e nothing reads fails none = let x = fails un (λ e. cc) in wasted_stays (g.names start).space (g.names s).space x.taken (g.names t).space e.moved x.takes x.space none
  ended_empty Fault start s t un e nothing reads fails none = let x = fails un (λ e. cc) in wasted_stays (g.names start).space (g.names s).space x.taken (g.names t).space e.moved x.takes x.space none

  pub ended_reads : (answer : Copying) (start s t : D) → Emptying start s → (HasNothingToCopy (g.names s).space → answer ≡ Nothing) → (answer ≡ Nothing → OnlyReads g s t) → HasNothingToCopy (g.names start).space → OnlyReads g start t
  ended_reads answer start s t e is reads nothing = let first = e.none nothing in reads_then g start s t first (reads (is (subst (λ (n : Names). HasNothingToCopy n.space) (sym first.names) nothing)))

  pub ended_lands : (start s t : D) → Emptying start s → Rose (g.write_faults s) (g.write_faults t) ⊎ CanLand (g.names t).space → Rose (g.write_faults start) (g.write_faults t) ⊎ CanLand (g.names t).space
  ended_lands start s t e either = ⊎_elim (λ rose. inl (then_rose (g.write_faults start) (g.write_faults s) (g.write_faults t) e.counted.writes_never_fall rose)) (λ lands. inr lands) either
