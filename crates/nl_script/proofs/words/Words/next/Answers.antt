use Rattle.std.proofs.Common.{sym, ◌∙◌, rules}
use Rattle.nl_script.proofs.Placed.{words-none}
use Rattle.nl_script.proofs.words.Words.next.Goals as goal

pub returns : goal.returns
returns c =
    let e = words-none c.loop-self.self-inside.column c.loop-self.self-inside.rest.now (search rules) in
    (sym c.loop-self.invariant.words ∙ e, e)
