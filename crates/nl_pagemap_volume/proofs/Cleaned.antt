-- A core stands on while its device cleans a block by itself: pages change their places, and no page its name.
use Rattle.std.proofs.Common.{◌≡◌, inl, inr, ⊎_elim, ℕ, ◌≤◌, refl, sym, ap, subst, ◌∙◌, arith}
use Rattle.nl_core_clean.specs.Carried.{KeepsHeld, KeepsStored}
use Rattle.nl_iface.specs.Calls.{CallCounted, StoresMap, StoresPages, stored}
use Rattle.nl_iface.specs.Device.{IsVolumeShape}
use Rattle.nl_iface.specs.Moves.{ErasesAtCrashes, KeepsCleaning, LeavesErased}
use Rattle.nl_iface.specs.Names.{SameTables}
use Rattle.nl_iface.specs.Space.{CanLand, SameSegment, Space}
use Rattle.nl_iface.specs.declared.counts.Counts.{Ghosts}
use Rattle.nl_tree.specs.Causes.{FaultRose}
use Rattle.nl_calls_steps.specs.Calls.{counts_of}
use Rattle.nl_core.specs.Core.{IsCore, names_of}
use Rattle.nl_core.specs.Goes.{PreservesVolume}
use Rattle.nl_core.specs.Writing.{stopped_on}
use Rattle.nl_core.specs.declared.state.Core.{Core}
use Rattle.nl_core.proofs.Cleaned.{carried_core, carried_goes}
use Rattle.nl_core.proofs.Onward.{goes_none, goes_then}
use Rattle.nl_pagemap.specs.Cleaning.{ChangesRoom}
use Rattle.nl_pagemap_volume.proofs.Erased.{held_still, stored_still}

segment_of : (s t : Space) → ChangesRoom s t → SameSegment s t × (t.live ≡ s.live) × (CanLand s → CanLand t)
segment_of s t is = subst (λ (x : Space). SameSegment s x × (x.live ≡ s.live) × (CanLand s → CanLand x)) (sym is)
    (record { block = refl; all = refl; bad = omega arith; kept = refl }, refl, λ lands. lands)

module _ {D : Type 0} (g : Ghosts D) (v w : Core D) (failed : Type 0) (others : w ≡ record v { device = w.device; stopped = w.stopped }) (core : IsCore g v) (volume : IsVolumeShape (g.shape v.device)) (writes : v.stopped ≡ 0)
    (noted : w.stopped ≡ stopped_on g (g.write_faults v.device) v w) (counts : CallCounted g failed v.device w.device) (tables : SameTables (names_of g v) (names_of g w)) (space : ChangesRoom (names_of g v).space (names_of g w).space)
    (now : g.tells → LeavesErased (names_of g v) (g.bytes v.device) (stored g v.device) (stored g w.device)) (left : g.tells → ErasesAtCrashes g v.device w.device) (kept : KeepsCleaning g v.device w.device)
    (map : g.tells → StoresMap g v.device) (stores : g.tells → StoresPages g w.device) where
  held : KeepsHeld g v.device w.device
  held = held_still g v.device w.device tables left kept

  same : SameSegment (names_of g v).space (names_of g w).space × ((names_of g w).space.live ≡ (names_of g v).space.live) × (CanLand (names_of g v).space → CanLand (names_of g w).space)
  same = segment_of (names_of g v).space (names_of g w).space space

  agrees : g.tells → KeepsStored (stored g v.device) (stored g w.device)
  agrees tells = stored_still (names_of g v) (g.bytes v.device) (stored g v.device) (stored g w.device) (now tells)

  pub cleaned_core : g.formed w.device → IsCore g w
  cleaned_core formed = carried_core g v w others core volume writes noted counts.reads_never_fall counts.writes_never_fall held same.0 same.1 map stores (λ none. same.2 (core.writes writes).lands) (λ tells none. agrees tells) formed

  pub cleaned_goes : PreservesVolume g 0 v w
  cleaned_goes = carried_goes g v w others core volume writes noted counts.reads_never_fall counts.writes_never_fall held same.0 same.1 map stores (λ none. same.2 (core.writes writes).lands) (λ tells none. agrees tells)

-- ---- one block after the other

-- The core is the volume that it was, and can be written to.
pub record Room {D : Type 0} (g : Ghosts D) (start now : Core D) : Type 0 where
  pub core : IsCore g now
  pub goes : PreservesVolume g 0 start now
  pub flight : now.flight ≡ start.flight
  pub writes : now.stopped ≡ 0

pub room_begins : {D : Type 0} (g : Ghosts D) (v : Core D) → IsCore g v → v.stopped ≡ 0 → Room g v v
room_begins g v core writes = record { core = core; goes = goes_none g v core; flight = refl; writes = writes }

pub goes_on : {D : Type 0} (g : Ghosts D) (u v w : Core D) → Room g u v → PreservesVolume g 0 v w → PreservesVolume g 0 u w
goes_on g u v w room goes = goes_then g u v w 0 0 room.goes goes

pub room_then : {D : Type 0} (g : Ghosts D) (u v w : Core D) → Room g u v → IsCore g w → PreservesVolume g 0 v w → w.flight ≡ v.flight → w.stopped ≡ 0 → Room g u w
room_then g u v w room core goes flight writes = record { core = core; goes = goes_on g u v w room goes; flight = flight ∙ room.flight; writes = writes }

-- a failure of the last of these calls is one of all of them
pub rose_on : {D : Type 0} (g : Ghosts D) (u v w : Core D) → Room g u v → FaultRose (counts_of g v.device) (counts_of g w.device) → FaultRose (counts_of g u.device) (counts_of g w.device)
rose_on g u v w room rose =
    let reads = room.goes.reads in
    let writes = room.goes.writes in
    ⊎_elim (λ r. inl (omega (arith, r, reads))) (λ r. inr (omega (arith, r, writes))) rose
