use Rattle.std.proofs.Common.{◌≡◌, length}
use Rattle.nl_cmd_course.specs.Asking.{Asked, HasAsked}
use Rattle.nl_turns.specs.History.{Opening}
use Rattle.nl_volume.specs.contracts.volume.VolumeKept.TheImpl.{ghosts as kept}
use Rattle.nl_volume.specs.declared.volume.Volume.{Volume}
use Rattle.nl_test_compare.proofs.pairs.most_pairs.Given as goal

-- the volume has answered the lines before
abbrev pub invariant-lines : goal.invariant-lines
invariant-lines g l =
    (origin : Volume g.row.M.Denot) × (opening : Opening) × (asked : Asked)
    × HasAsked (kept g.row.M g.M.Nand g.M.Nand-dict).stands g.M.Nand.tells origin opening asked l.volume × (length asked ≡ l.at)
