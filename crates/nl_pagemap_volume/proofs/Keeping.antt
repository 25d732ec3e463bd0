-- What calls of a core keep, one after the other: counts of the medium do not fall, the numbers of the volume stay, the core is read-only
-- from the first write on that failed, and write sequence numbers are paid.
use Rattle.std.proofs.Common.{◌≡◌, ⊎_elim, ℕ, ◌+◌, ◌<◌, ◌≤◌, sym, ◌∙◌, arith}
use Rattle.std.proofs.lemmas.Bool.{cases_eq, cases_lt}
use Rattle.nl_field.specs.CrashStates.{Rose, saturated}
use Rattle.nl_tree.specs.Causes.{NeverFall}
use Rattle.nl_iface.specs.declared.counts.Counts.{Ghosts}
use Rattle.nl_core.specs.Goes.{PreservesVolume, TurnsReadOnly}
use Rattle.nl_core.specs.declared.state.Core.{Core}
use Rattle.nl_calls_steps.specs.Calls.{counts_of}
use Rattle.nl_pagemap_volume.specs.Serving.{StampsPaid}

pub record Keeps {D : Type 0} (g : Ghosts D) (u v : Core D) : Type 0 where
  pub later : NeverFall (counts_of g u.device) (counts_of g v.device)
  pub same_shape : g.shape v.device ≡ g.shape u.device
  pub stops : TurnsReadOnly g u v
  pub stamps : StampsPaid g u.device v.device

pub keeps_goes : {D : Type 0} (g : Ghosts D) (m : ℕ) (u v : Core D) → PreservesVolume g m u v → Keeps g u v
keeps_goes g m u v goes = record {
  later = record { clock = goes.clock; read_faults = goes.reads; write_faults = goes.writes };
  same_shape = goes.same_shape;
  stops = goes.stops;
  stamps = goes.stamps.paid;
}

-- a count that did not rise
not_rose : (x y : ℕ) → (Rose x y → ⊥) → y < saturated (x + 1)
not_rose x y none = ⊎_elim (λ low. low) (λ high. absurd (none high)) (cases_lt y (saturated (x + 1)))

none_rose : (x y z : ℕ) → y < saturated (x + 1) → z < saturated (y + 1) → Rose x z → ⊥
none_rose x y z one two rose = omega (arith, one, two, rose)

module _ {D : Type 0} (g : Ghosts D) (u v w : Core D) (a : Keeps g u v) (b : Keeps g v w) where
  stops_then : TurnsReadOnly g u w
  stops_then = record {
    stands = λ off. let one = a.stops.stands off in b.stops.stands (λ z. off (sym one ∙ z)) ∙ one;
    none = λ none rose.
        let still : v.stopped ≡ 0 = ⊎_elim (λ e. e) (λ off. sym (b.stops.stands off) ∙ none) (cases_eq v.stopped 0) in
        none_rose (g.write_faults u.device) (g.write_faults v.device) (g.write_faults w.device)
        (not_rose (g.write_faults u.device) (g.write_faults v.device) (a.stops.none still)) (not_rose (g.write_faults v.device) (g.write_faults w.device) (b.stops.none none)) rose;
    some = λ none later. ⊎_elim
        (λ still.
        let k = b.stops.some still later in
        let r = k.0 in
        let s = k.1.0 in
        let reads = a.later.read_faults in
        let writes = a.later.write_faults in
        (omega (arith, r, writes), (omega (arith, s, reads, writes), k.1.1)))
        (λ off.
        let same = b.stops.stands off in
        let k = a.stops.some none off in
        let r = k.0 in
        let s = k.1.0 in
        let t = k.1.1 in
        let reads = b.later.read_faults in
        let writes = b.later.write_faults in
        (omega (arith, r, writes), (omega (arith, s, same), omega (arith, t, same, reads, writes))))
        (cases_eq v.stopped 0);
  }

  pub keeps_then : Keeps g u w
  keeps_then =
      let one = a.later in
      let two = b.later in
      record {
        later = record {
          clock = let x = one.clock in let y = two.clock in omega (arith, x, y);
          read_faults = let x = one.read_faults in let y = two.read_faults in omega (arith, x, y);
          write_faults = let x = one.write_faults in let y = two.write_faults in omega (arith, x, y);
        };
        same_shape = b.same_shape ∙ a.same_shape;
        stops = stops_then;
        stamps = λ low less.
            let clock = two.clock in
            let writes = two.write_faults in
            let x = a.stamps (omega (arith, low, clock)) (omega (arith, less, writes)) in
            let y = b.stamps low less in
            omega (arith, x, y);
      }
