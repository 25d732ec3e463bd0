-- What holds of each formed device, by what is seen of it.
use Rattle.std.specs.Prelude.{◌≡◌}
use Rattle.nl_iface.specs.Names.{Has}
use Rattle.nl_iface.specs.declared.Callback.{Callback}
use Rattle.nl_iface.specs.declared.counts.Counts.{Ghosts}
use Rattle.nl_device.specs.Retain.{kept_of}
use Rattle.nl_device.specs.declared.device.Device.{Device}

-- Each old name has a callback: where none is pending, no pair is left.
abbrev pub PairsAreCalled : {M : Type 0} → Ghosts (Device M) → Type 0
PairsAreCalled {M} g = (s : Device M) → g.formed s → ((c : Callback) → Has (g.names s).pending c → ⊥) → (g.names s).space.pairs ≡ 0

-- Two devices of one shape that found the same keep the same of their scans.
abbrev pub KeepsWhatItFound : {M : Type 0} → Ghosts (Device M) → Type 0
KeepsWhatItFound {M} g = (s t : Device M) → g.formed s → g.formed t → g.shape t ≡ g.shape s → g.found t ≡ g.found s → kept_of t ≡ kept_of s
