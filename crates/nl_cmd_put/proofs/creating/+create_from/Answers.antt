use Rattle.std.proofs.Common.{◌^◌, ◌<◌, ◌+◌, [], Option, sym, subst, arith}
use Rattle.std.specs.Prelude.{IfSome}
use Rattle.nl_volume.specs.contracts.volume.VolumeKept.TheImpl.{ghosts}
use Rattle.nl_put_tree.specs.Putting.{IsBeside, IsWriting, Path}
use Rattle.nl_cmd_put.specs.Phases.{StandsAt}
use Rattle.nl_cmd_put.proofs.Named.{beside_some}
use Rattle.nl_cmd_put.proofs.Phases.{memory_ends, no_name_left}
use Rattle.nl_cmd_put.proofs.creating.+create_from.Goals as goal

pub returns-then-at-ge-TRIES-clause-created : goal.returns-then-at-ge-TRIES-clause-created
returns-then-at-ge-TRIES-clause-created g fuel c = λ bytes origin o t fits tried.
    let low : c.args.number < 2 ^ 32 = (let f = c.ranges.number.fits in omega (arith, f)) in
    no_name_left (ghosts g.row.M g.M.Nand g.M.Nand-dict).stands g.M.Nand.tells origin o c.args.path.now bytes c.args.number c.args.volume.now low t fits (beside_some c.args.path.now c.requires.path.0) c.args.end tried

pub returns-in-Err-clause-created : goal.returns-in-Err-clause-created
returns-in-Err-clause-created g fuel c = λ bytes origin o t fits tried.
    let low : c.args.number < 2 ^ 32 = (let f = c.ranges.number.fits in omega (arith, f)) in
    memory_ends (ghosts g.row.M g.M.Nand g.M.Nand-dict).stands g.M.Nand.tells origin o c.args.path.now bytes c.args.number c.args.volume.now low t fits (beside_some c.args.path.now c.requires.path.0)

pub returns-in-Own-clause-created : goal.returns-in-Own-clause-created
returns-in-Own-clause-created g fuel c = λ bytes origin o t fits tried.
    let S = (ghosts g.row.M g.M.Nand g.M.Nand-dict).stands in
    let path = c.args.path.now in
    let beside = subst (λ (x : Option Path). IfSome x (IsBeside path)) c.in-Ok-Some.field-0-is c.in-Ok-Some.ensures.beside in
    let made = c.in-Own.ensures.tried path bytes beside origin o t fits in
    subst (λ (own : Path). IsBeside path own × StandsAt S g.M.Nand.tells origin o own path bytes (c.args.number + 1) c.try_own.new.volume (IsWriting o.tree own [])) (sym made.0) (beside, made.1)

pub returns-in-Taken-clause-created : goal.returns-in-Taken-clause-created
returns-in-Taken-clause-created g fuel c = λ bytes origin o t fits tried.
    let path = c.args.path.now in
    let beside = subst (λ (x : Option Path). IfSome x (IsBeside path)) c.in-Ok-Some.field-0-is c.in-Ok-Some.ensures.beside in
    let taken = c.in-Taken.ensures.tried path bytes beside origin o t fits in
    c.create_from-in-Taken.ensures.created bytes origin o taken.0 fits (c.in-Ok-Some.own, beside, taken.1)

pub returns-in-Ended-clause-created : goal.returns-in-Ended-clause-created
returns-in-Ended-clause-created g fuel c = λ bytes origin o t fits tried.
    let path = c.args.path.now in
    c.in-Ended.ensures.tried path bytes (subst (λ (x : Option Path). IfSome x (IsBeside path)) c.in-Ok-Some.field-0-is c.in-Ok-Some.ensures.beside) origin o t fits
