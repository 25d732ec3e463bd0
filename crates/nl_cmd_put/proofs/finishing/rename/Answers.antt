use Rattle.std.proofs.Common.{◌≡◌, ◌+◌, true, false, sym, subst, ◌∙◌}
use Rattle.nl_volume.specs.contracts.volume.VolumeKept.TheImpl.{ghosts}
use Rattle.nl_put_tree.specs.Putting.{IsBeside, Path}
use Rattle.nl_cmd_put.specs.Phases.{HasStopped, RenamesOwn, is_done}
use Rattle.nl_cmd_put.proofs.Phases.{may_more, renames_own}
use Rattle.nl_cmd_put.proofs.finishing.rename.Goals as goal

pub sync-requires : goal.sync-requires
sync-requires g c = record {
  may = may_more (ghosts g.row.M g.M.Nand g.M.Nand-dict).stands g.M.Nand.tells c.args.volume.now c.ask-reply.new.volume c.args.number _ c.ask-reply.result c.requires.may c.ask-reply.ensures.asked;
}

pub returns-then-is_done : goal.returns-then-is_done
returns-then-is_done g c = record {
  ended = λ bytes beside many origin o s fits.
      let S = (ghosts g.row.M g.M.Nand g.M.Nand-dict).stands in
      let own = c.args.own in
      let path = c.args.path in
      let reply = c.ask-reply.result in
      let v' = c.ask-reply.new.volume in
      let test : is_done reply ≡ true = sym c.is_done.ensures ∙ c.if-is_done.true in
      let has = c.ask-reply.ensures.asked origin o s.asked s.putting.so_far s.next in
      c.sync.ensures.ended own path bytes beside many origin o
      (subst (RenamesOwn S g.M.Nand.tells origin o own path bytes (c.args.number + 1) v' reply) test
      (renames_own S g.M.Nand.tells origin o path own bytes c.args.number c.args.volume.now v' beside fits s reply has));
}

pub take_back-requires-clause-may : goal.take_back-requires-clause-may
take_back-requires-clause-may g c =
    may_more (ghosts g.row.M g.M.Nand g.M.Nand-dict).stands g.M.Nand.tells c.args.volume.now c.ask-reply.new.volume c.args.number _ c.ask-reply.result c.requires.may c.ask-reply.ensures.asked

pub returns : goal.returns
returns g c = record {
  ended = λ bytes beside many origin o s fits.
      let S = (ghosts g.row.M g.M.Nand g.M.Nand-dict).stands in
      let own = c.args.own in
      let path = c.args.path in
      let reply = c.ask-reply.result in
      let v' = c.ask-reply.new.volume in
      let test : is_done reply ≡ false = sym c.is_done.ensures ∙ c.if-is_done.false in
      let has = c.ask-reply.ensures.asked origin o s.asked s.putting.so_far s.next in
      let stopped = subst (RenamesOwn S g.M.Nand.tells origin o own path bytes (c.args.number + 1) v' reply) test
      (renames_own S g.M.Nand.tells origin o path own bytes c.args.number c.args.volume.now v' beside fits s reply has) in
      c.take_back.ensures.ended path bytes (subst (IsBeside path) (sym c.own_of.ensures) beside) origin o
      (subst (λ (p : Path). HasStopped S g.M.Nand.tells origin o p path bytes (c.args.number + 1) v' reply) (sym c.own_of.ensures) stopped) fits;
}
