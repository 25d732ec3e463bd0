use Rattle.std.proofs.Common.{◌≡◌, List, ℕ, [], ◌∷◌, ◌++◌, subst}
use Rattle.std.proofs.lemmas.List.{append_assoc}
use Rattle.std.proofs.Common.{arith}
use Rattle.std.proofs.lemmas.Grind.{common_steps}
use Rattle.nl_io.specs.Streams.{WritesStream}
use Rattle.nl_print.specs.Texts.{then_number}
use Rattle.nl_io.proofs.StreamsLaws.{then_write}
use Rattle.nl_print.proofs.word.number_line.Goals as goal

pub returns-in-Took-clause-text : goal.returns-in-Took-clause-text
returns-in-Took-clause-text g c =
    let rest : c.bytes-in-Took.result.now ≡ then_number c.args.value ++ 10 ∷ [] = grind (arith, common_steps) in
    let second = subst (λ (t : List ℕ). WritesStream (g.K.Sink.taken c.write-2.new.self) (g.K.Sink.taken c.write-in-Took.new.self) c.write-in-Took.result t) rest c.write-in-Took.ensures.bytes in
    rw append_assoc (then_write _ _ _ _ c.args.word.now (then_number c.args.value ++ 10 ∷ []) c.in-Took.ensures.bytes second)
