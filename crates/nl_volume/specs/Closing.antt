-- What closing a volume does, and what is spoken of its end.
use Rattle.std.specs.Prelude.{◌≡◌, ℕ, ◌+◌, ◌<◌, ◌^◌, false, List}
use Rattle.nl_tree.specs.Causes.{Counts}
use Rattle.nl_device.specs.Medium.{medium_of}
use Rattle.nl_device.specs.declared.device.Device.{Device}
use Rattle.nl_iface.specs.declared.counts.Counts.{Ghosts}
use Rattle.nl_core.specs.Calls.{CommitsAll, CommitsNot}
use Rattle.nl_core.specs.Goes.{PreservesVolume}
use Rattle.nl_core.specs.declared.state.Core.{Core}
use Rattle.nl_turns.specs.History.{Opening, effects}
use Rattle.nl_turns.specs.declared.entry.Entry.{Entry}
use Rattle.nl_volume.specs.declared.closing.Closed.{Closed}

-- the clock and the counts of faults of a medium
abbrev pub counts_on : {M : Type 0} → (clock read_faults write_faults : M → ℕ) → M → Counts
counts_on clock read_faults write_faults m = record { clock = clock m; read_faults = read_faults m; write_faults = write_faults m }

-- A call of the core led to this one, which had the medium last.
pub record EndsWithMedium {M : Type 0} (g : Ghosts (Device M)) (old last : Core (Device M)) (media : M) : Type 0 where
  pub goes : PreservesVolume g 512 old last
  pub medium : media ≡ medium_of last.device

-- The medium tells its contents, and clock, count of calls and numbers of transactions have not ended: since the opening, when this was the
-- last one that was begun, they rise by no more than the clock.
pub record IsYoungAtEnd (tells : Type 0) (opening : Opening) (history : List Entry) (begun clock : ℕ) : Type 0 where
  pub told : tells
  pub moments : clock < 2 ^ 63
  pub calls : opening.count + effects history < 2 ^ 63
  pub numbers : begun + clock + 1 < 2 ^ 63 + opening.clock

-- The volume could be written to, and nothing is said to have failed or to be lost.
pub record ClosesCommitted {M : Type 0} (old : Core (Device M)) (closed : Closed M) : Type 0 where
  pub writes : old.stopped ≡ 0
  pub unworn : closed.worn ≡ false
  pub no_fault : closed.fault ≡ false
  pub none_lost : closed.lost ≡ false

-- The last commit met a page that did not hold the write sequence number that was wanted, and was not done. The volume could be written to,
-- and no operation of the medium failed; what waits to be freed, the nodes and what is in flight are as before. It never comes over a medium
-- that tells its contents.
pub record LosesLastCommit {M : Type 0} (g : Ghosts (Device M)) (old : Core (Device M)) (closed : Closed M) : Type 0 where
  pub writes : old.stopped ≡ 0
  pub unworn : closed.worn ≡ false
  pub no_fault : closed.fault ≡ false
  pub not_done : (last : Core (Device M)) × EndsWithMedium g old last closed.media × CommitsNot g old last
  pub untold : g.tells → ⊥

-- A last commit made all calls durable.
abbrev pub CommitsLast : {M : Type 0} → Ghosts (Device M) → Core (Device M) → M → Type 0
CommitsLast {M} g old media = (last : Core (Device M)) × EndsWithMedium g old last media × (number : ℕ) × CommitsAll g old last number
