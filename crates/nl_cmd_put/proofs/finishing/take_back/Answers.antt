use Rattle.std.proofs.Common.{◌∷◌, ◌++◌, [], sym, subst}
use Rattle.nl_volume.specs.contracts.volume.VolumeKept.TheImpl.{ghosts}
use Rattle.nl_tree.specs.declared.call.Call.TheVariants.{Unlink}
use Rattle.nl_cmd_put.specs.Phases.{HasPut}
use Rattle.nl_cmd_put.specs.declared.ending.End.{End}
use Rattle.nl_cmd_put.proofs.Back.{takes_back}
use Rattle.nl_cmd_put.proofs.Phases.{may_more, next_more}
use Rattle.nl_cmd_put.proofs.finishing.take_back.Goals as goal

pub ask-synced-requires-clause-may : goal.ask-synced-requires-clause-may
ask-synced-requires-clause-may g c =
    may_more (ghosts g.row.M g.M.Nand g.M.Nand-dict).stands g.M.Nand.tells c.args.volume.now c.ask-gone.new.volume c.args.number _ c.ask-gone.result c.requires.may c.ask-gone.ensures.asked

pub returns : goal.returns
returns g c = record {
  ended = λ path bytes beside origin o s fits.
      let S = (ghosts g.row.M g.M.Nand g.M.Nand-dict).stands in
      let own = c.args.own in
      let gone = c.ask-gone.result in
      let synced = c.ask-synced.result in
      let first = c.ask-gone.ensures.asked origin o s.asked s.putting.so_far s.next in
      let second = c.ask-synced.ensures.asked origin o (s.asked ++ (Unlink own, gone) ∷ []) first (next_more S g.M.Nand.tells origin o s.asked (Unlink own) gone c.args.number s.next) in
      subst (λ (e : End). HasPut S g.M.Nand.tells origin o path bytes e c.ask-synced.new.volume) (sym c.end_of_back.ensures)
      (takes_back S g.M.Nand.tells origin o path own bytes c.args.number c.args.volume.now c.ask-gone.new.volume c.ask-synced.new.volume c.args.why gone synced c.requires.few beside fits s first second);
}
