use Rattle.std.proofs.Common.{◌∷◌, ◌++◌, [], ℕ, refl, subst}
use Rattle.nl_volume.specs.contracts.volume.VolumeKept.TheImpl.{ghosts}
use Rattle.nl_tree.specs.declared.call.Call.TheVariants.{Write}
use Rattle.nl_cmd_course.specs.Asking.{HasAsked}
use Rattle.nl_cmd_put.proofs.Phases.{may_more, writes_piece}
use Rattle.nl_cmd_put.proofs.writing.write_piece.Goals as goal

pub returns-clause-next : goal.returns-clause-next
returns-clause-next g c =
    may_more (ghosts g.row.M g.M.Nand g.M.Nand-dict).stands g.M.Nand.tells c.args.volume.now c.ask-reply.new.volume c.args.number _ c.ask-reply.result c.requires.may c.ask-reply.ensures.asked

pub returns-clause-written : goal.returns-clause-written
returns-clause-written g c = λ path written left beside at origin o s.
    let S = (ghosts g.row.M g.M.Nand g.M.Nand-dict).stands in
    let own = c.args.own in
    let piece = c.args.piece in
    let reply = c.ask-reply.result in
    let v' = c.ask-reply.new.volume in
    writes_piece S g.M.Nand.tells origin o path own (written ++ (piece ++ left)) written c.args.number c.args.volume.now v' beside s piece left refl reply
    (subst (λ (n : ℕ). HasAsked S g.M.Nand.tells origin o (s.asked ++ (Write own n piece, reply) ∷ []) v') at
    (c.ask-reply.ensures.asked origin o s.asked s.putting.so_far s.next))
