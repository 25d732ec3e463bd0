use Rattle.std.proofs.Common.{◌^◌, ◌<◌, sym, ap, subst, ◌∙◌, arith}
use Rattle.nl_volume.specs.contracts.volume.VolumeKept.TheImpl.{ghosts}
use Rattle.nl_put_tree.specs.Putting.{Path}
use Rattle.nl_cmd_put.specs.Phases.{TriesOwn, tried_by}
use Rattle.nl_cmd_put.proofs.Phases.{may_more, tries_own}
use Rattle.nl_cmd_put.proofs.creating.try_own.Goals as goal

pub returns-clause-tried : goal.returns-clause-tried
returns-clause-tried g c = λ path bytes beside origin o t fits.
    let S = (ghosts g.row.M g.M.Nand g.M.Nand-dict).stands in
    let own = c.args.own in
    let reply = c.ask-reply.result in
    let low : c.args.number < 2 ^ 32 = (let f = c.ranges.number.fits in omega (arith, f)) in
    subst (TriesOwn S g.M.Nand.tells origin o path bytes own c.args.number c.ask-reply.new.volume)
    (sym (c.tried_by.ensures ∙ ap (λ (p : Path). tried_by p reply) c.own_of.ensures))
    (tries_own S g.M.Nand.tells origin o path own bytes c.args.number c.args.volume.now c.ask-reply.new.volume low t beside fits reply
    (c.ask-reply.ensures.asked origin o t.asked t.so_far t.next))

pub returns-clause-next : goal.returns-clause-next
returns-clause-next g c =
    may_more (ghosts g.row.M g.M.Nand g.M.Nand-dict).stands g.M.Nand.tells c.args.volume.now c.ask-reply.new.volume c.args.number _ c.ask-reply.result c.requires.may c.ask-reply.ensures.asked
