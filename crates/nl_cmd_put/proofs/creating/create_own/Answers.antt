use Rattle.nl_volume.specs.contracts.volume.VolumeKept.TheImpl.{ghosts}
use Rattle.nl_cmd_put.proofs.Phases.{fresh_tried}
use Rattle.nl_cmd_put.proofs.creating.create_own.Goals as goal

pub returns-clause-created : goal.returns-clause-created
returns-clause-created g c = λ bytes origin o has fits.
    c.create_from.ensures.created bytes origin o (fresh_tried (ghosts g.row.M g.M.Nand g.M.Nand-dict).stands g.M.Nand.tells origin o c.args.volume.now has) fits tt
