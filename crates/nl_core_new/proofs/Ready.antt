-- What holds of an idle device.
use Rattle.std.proofs.Common.{◌≡◌, ◌≢◌, ◌⊎◌, inl, inr, ℕ, zero, suc, ◌+◌, ◌*◌, ◌<◌, Bool, false, cond, count_by, is_some, None, refl, ap, ◌∙◌, arith}
use Rattle.std.proofs.lemmas.Bool.{cases_eq}
use Rattle.std.specs.List.{range_with_len}
use Rattle.std.proofs.lemmas.List.Sums.{sum_by-cons}
use Rattle.nl_field.specs.CrashStates.{top}
use Rattle.nl_field.specs.Medium.{first_physical}
use Rattle.nl_iface.specs.Device.{IsVolumeShape}
use Rattle.nl_iface.specs.Names.{Has, IsNames, IsTableOfNames, led}
use Rattle.nl_iface.specs.Space.{CanLand}
use Rattle.nl_iface.specs.declared.Callback.{Callback}
use Rattle.nl_iface.specs.declared.counts.Counts.{Ghosts}
use Rattle.nl_spec_commits.specs.Standing.{IsFirm}
use Rattle.nl_core_new.specs.Idle.{IsAlwaysFirm, IsIdle}

-- an idle device with the laws of its tables
pub record IsReady {D : Type 0} (g : Ghosts D) (s : D) : Type 0 where
  pub formed : g.formed s
  pub volume : IsVolumeShape (g.shape s)
  pub table : IsTableOfNames (g.names s)
  pub numbers : IsNames (g.shape s) (g.next_stamp s) (g.names s)
  pub no_live : (p : ℕ) → (g.names s).live p ≡ None
  pub own : (n : ℕ) → led (g.names s) n ≡ n
  pub no_pending : (c : Callback) → Has (g.names s).pending c → ⊥
  pub count : (g.names s).space.live ≡ 0
  pub one_kept : (g.names s).space.keep + (g.names s).space.bad ≡ 1
  pub lands : CanLand (g.names s).space
  pub spare : g.keeps_spare s
  pub firm : g.tells → IsFirm g s
  pub counts : g.write_faults s < top

none_count : (P : ℕ → Bool) (a n : ℕ) → ((q : ℕ) → P q ≡ false) → count_by P (range_with_len a n) ≡ 0
none_count P a zero off = refl
none_count P a (suc n) off =
    let x : count_by P (range_with_len a (suc n)) ≡ cond (P a) 1 0 + count_by P (range_with_len (a + 1) n) = sum_by-cons (λ q. cond (P q) 1 0) a (range_with_len (a + 1) n) in
    let here : cond (P a) 1 0 ≡ 0 = ap {B = ℕ} (λ b. cond b 1 0) (off a) in
    let rest = none_count P (a + 1) n off in
    omega (arith, x, here, rest)

module _ {D : Type 0} (g : Ghosts D) (s : D) (idle : IsIdle g s) (table : IsTableOfNames (g.names s)) where
  -- where no callback is pending, each name leads to its own page
  own : (n : ℕ) → (led (g.names s) n ≡ n) ⊎ (led (g.names s) n ≢ n) → led (g.names s) n ≡ n
  own n (inl same) = same
  own n (inr away) = let c = table.told n away in absurd (idle.no_pending c.0 c.1)

  pub ready : IsVolumeShape (g.shape s) → IsNames (g.shape s) (g.next_stamp s) (g.names s) → IsAlwaysFirm g → IsReady g s
  ready volume numbers firm = record {
    formed = idle.formed;
    volume = volume;
    table = table;
    numbers = numbers;
    no_live = idle.no_live;
    own = λ n. own n (cases_eq (led (g.names s) n) n);
    no_pending = idle.no_pending;
    count = numbers.counted
        ∙ none_count (λ p. is_some ((g.names s).live p)) (first_physical (g.shape s)) ((g.shape s).pblocks * (g.shape s).pages) (λ q. ap is_some (idle.no_live q));
    one_kept = idle.one_kept;
    lands = idle.lands;
    spare = idle.spare;
    firm = λ tells. firm s tells idle.formed;
    counts = idle.counts;
  }
