use Rattle.std.proofs.Common.{[], refl, sym, subst, arith}
use Rattle.nl_volume.specs.contracts.volume.VolumeKept.TheImpl.{ghosts}
use Rattle.nl_put_tree.specs.Putting.{IsBeside, IsWriting, Path}
use Rattle.nl_cmd_put.specs.Phases.{HasStopped, StandsAt, WritesAll, joined}
use Rattle.nl_cmd_put.proofs.on_volume.put_on.Goals as goal

pub returns-in-Ended : goal.returns-in-Ended
returns-in-Ended g c = record { ended = λ origin o has fits. c.in-Ended.ensures.created (joined c.args.pieces.items) origin o has fits }

pub returns-in-None : goal.returns-in-None
returns-in-None g c = record {
  ended = λ origin o has fits.
      let S = (ghosts g.row.M g.M.Nand g.M.Nand-dict).stands in
      let T = g.M.Nand.tells in
      let path = c.args.path in
      let bytes = joined c.args.pieces.items in
      let made = c.in-Own.ensures.created bytes origin o has fits in
      let w = c.write_all-written.result in
      let v2 = c.write_all-written.new.volume in
      let own = c.in-Own.own in
      let e = c.write_all-written.ensures.own in
      let all = c.write_all-written.ensures.written path [] made.0 refl origin o made.1 in
      let stood = subst (WritesAll S T origin o own path bytes w.number v2) c.in-None.is all in
      let many = c.write_all-written.ensures.count c.in-None.is in
      c.rename.ensures.ended bytes (subst (IsBeside path) (sym e) made.0) (omega (arith, many)) origin o
      (subst (λ (p : Path). StandsAt S T origin o p path bytes w.number v2 (IsWriting o.tree p bytes)) (sym e) stood) fits;
}

pub returns-in-Some : goal.returns-in-Some
returns-in-Some g c = record {
  ended = λ origin o has fits.
      let S = (ghosts g.row.M g.M.Nand g.M.Nand-dict).stands in
      let T = g.M.Nand.tells in
      let path = c.args.path in
      let bytes = joined c.args.pieces.items in
      let made = c.in-Own.ensures.created bytes origin o has fits in
      let w = c.write_all-written.result in
      let v2 = c.write_all-written.new.volume in
      let own = c.in-Own.own in
      let e = c.write_all-written.ensures.own in
      let all = c.write_all-written.ensures.written path [] made.0 refl origin o made.1 in
      let stopped = subst (WritesAll S T origin o own path bytes w.number v2) c.in-Some.is all in
      c.take_back.ensures.ended path bytes (subst (IsBeside path) (sym e) made.0) origin o
      (subst (λ (p : Path). HasStopped S T origin o p path bytes w.number v2 c.in-Some.reply) (sym e) stopped) fits;
}
