use Rattle.nl_gen.proofs.Accepted.{accepted_if, soak_accepted}
use Rattle.nl_gen.specs.Soak.{soak_text}
use Rattle.nl_gen.proofs.soak.soak_script.Goals as goal

pub returns-clause-accepted : goal.returns-clause-accepted
returns-clause-accepted c =
    let seed = c.args.seed in
    let lines = c.args.lines in
    let workers = c.args.workers in
    accepted_if _ (soak_text seed lines workers) _ (soak_accepted seed lines workers c.requires.lines.1 c.requires.workers.1) c.text_of.ensures
