use Rattle.nl_device.specs.Medium.{medium_of}
use Rattle.nl_device.specs.contracts.counts.DeviceCounts.TheImpl.{ghosts}
use Rattle.nl_volume.specs.Opening.{opening_of}
use Rattle.nl_volume.proofs.Trees.{tree_of}
use Rattle.nl_cmd_run.proofs.rounds.open_lock.Given as goal

-- from the tree as which the image is sound
abbrev pub ghosts-new : goal.ghosts-new
ghosts-new g a = record { opening = opening_of (ghosts g.row.M g.M.Nand g.M.Nand-dict) a.value.value.core (tree_of (g.M.Nand.contents (medium_of a.value.value.core.device))) a.lines.now }
