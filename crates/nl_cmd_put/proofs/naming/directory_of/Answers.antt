use Rattle.std.proofs.Common.{◌∷◌, ◌++◌, [], ◌+◌, refl, ◌∙◌}
use Rattle.nl_cmd_put.proofs.Named.{taken_next}
use Rattle.nl_cmd_put.proofs.naming.directory_of.Goals as goal

pub loop-at-preserved : goal.loop-at-preserved
loop-at-preserved c =
    c.in_ok-push.ensures.ok
    ∙ ((λ i. c.loop-at.invariant i ++ (c.in_ok-of.ensures ∙ c.bytes.ensures) i ∷ [])
    ∙ taken_next c.args.path.now c.loop-at.at (c.loop-at.at + 1) c.get.result.now refl c.get.ensures)
