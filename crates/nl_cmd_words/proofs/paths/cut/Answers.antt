use Rattle.std.proofs.Common.{◌≡◌, ◌+◌, ◌-◌, ◌∷◌, take, drop, length, sym, ◌∙◌, ap, arith}
use Rattle.std.specs.Prelude.{◌==◌}
use Rattle.std.proofs.lemmas.Grind.{common_steps}
use Rattle.nl_script.proofs.Splits.{split_none, split_some}
use Rattle.nl_script.specs.Words.{parts}
use Rattle.nl_cmd_words.proofs.paths.cut.Goals as goal

pub returns-in-None-clause-parts : goal.returns-in-None-clause-parts
returns-in-None-clause-parts c = split_none (λ b. b == 47) c.args.bytes.now (sym c.slash_in.ensures ∙ c.in-None.is)

pub returns-in-Some-clause-parts : goal.returns-in-Some-clause-parts
returns-in-Some-clause-parts c =
    let found = split_some (λ b. b == 47) c.args.bytes.now c.in-Some.end (sym c.slash_in.ensures ∙ c.in-Some.is) in
    let rest = drop (c.in-Some.end + 1) c.args.bytes.now in
    let all : take (length c.args.bytes.now - (c.in-Some.end + 1)) rest ≡ rest = grind (arith, common_steps) in
    found.1 ∙ ap (λ r. take c.in-Some.end c.args.bytes.now ∷ parts 47 r) (sym all)
