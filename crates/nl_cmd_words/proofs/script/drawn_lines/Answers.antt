use Rattle.nl_gen.proofs.Accepted.{soak_accepted}
use Rattle.nl_cmd_words.proofs.script.drawn_lines.Goals as goal

pub returns-in-Err : goal.returns-in-Err
returns-in-Err c = let made = soak_accepted c.args.seed c.args.count c.args.workers c.requires.count.1 c.requires.workers.1 in (made.0, made.1, tt)
