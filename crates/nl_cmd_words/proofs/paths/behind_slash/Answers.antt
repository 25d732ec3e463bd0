use Rattle.std.proofs.Common.{◌∙◌, ap}
use Rattle.std.proofs.lemmas.Bool.{ne_eqb}
use Rattle.nl_cmd_words.specs.Paths.{spelled_path}
use Rattle.nl_cmd_words.proofs.Spelled.{no_slash, no_word}
use Rattle.nl_cmd_words.proofs.paths.behind_slash.Goals as goal

pub returns-in-None : goal.returns-in-None
returns-in-None c = no_word c.args.word.now c.in-None.ensures.cases

pub returns-else-first-eq47 : goal.returns-else-first-eq47
returns-else-first-eq47 c =
    ap spelled_path c.in-Some.ensures.cases.0 ∙ no_slash c.in-Some.first.now c.in-Some.names.now (ne_eqb c.in-Some.first.now 47 c.if-first-eq47.false)
