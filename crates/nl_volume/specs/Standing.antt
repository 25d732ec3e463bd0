-- For which opening and which history of turns a volume stands.
use Rattle.std.specs.Prelude.{◌≡◌, List}
use Rattle.nl_device.specs.declared.device.Device.{Device}
use Rattle.nl_iface.specs.declared.counts.Counts.{Ghosts}
use Rattle.nl_calls.specs.Answering.{pages_of_files}
use Rattle.nl_turns.specs.History.{Opening}
use Rattle.nl_turns.specs.declared.entry.Entry.{Entry}
use Rattle.nl_volume_stage.specs.Standing.{RepresentsHistory}
use Rattle.nl_volume.specs.declared.volume.Volume.{Volume}

-- The core of a volume stands for that, since it was the one of the origin, and the volume knows how many pages its files have.
abbrev pub VolumeRepresents : {M : Type 0} → Ghosts (Device M) → Volume M → Opening → List Entry → Volume M → Type 0
VolumeRepresents g origin opening history v = RepresentsHistory g origin.core opening history v.core v.done × (v.files ≡ pages_of_files g v.core)
