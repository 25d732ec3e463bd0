use Rattle.std.proofs.Common.{◌≡◌, ℕ, List, [], ◌∷◌, ◌++◌, subst, arith}
use Rattle.std.proofs.lemmas.Grind.{common_steps}
use Rattle.nl_io.specs.Streams.{WritesStream}
use Rattle.nl_io.specs.declared.sink.SinkAnswer.TheVariants as sink
use Rattle.nl_print.specs.Tail.{tail_text}
use Rattle.nl_print.specs.Texts.{answer_line}
use Rattle.nl_io.proofs.StreamsLaws.{then_write, stopped}
use Rattle.nl_print.proofs.answer.answer_line.Goals as goal

pub returns-in-Took-write_tail-clause-text : goal.returns-in-Took-write_tail-clause-text
returns-in-Took-write_tail-clause-text g c =
    let front = c.bytes-2.result.now in
    let tail = tail_text c.push_reply-tail.result c.args.bytes.now in
    let old = g.K.Sink.taken c.args.sink.now in
    let mid = g.K.Sink.taken c.write-2.new.self in
    let after = g.K.Sink.taken c.write_tail.new.sink in
    let new = g.K.Sink.taken c.write-in-Took-write_tail.new.self in
    let whole : (front ++ tail) ++ 10 ∷ [] ≡ answer_line c.args.place (c.args.line, c.args.reply.now, c.args.bytes.now) = grind (arith, common_steps) in
    let two = then_write old mid after sink.Took front tail c.in-Took.ensures.bytes c.in-Took-write_tail.ensures.text in
    subst (λ (t : List ℕ). WritesStream old new c.write-in-Took-write_tail.result t) whole
    (then_write old after new c.write-in-Took-write_tail.result (front ++ tail) (10 ∷ []) two c.write-in-Took-write_tail.ensures.bytes)

pub returns-in-Failed-write_tail-clause-text : goal.returns-in-Failed-write_tail-clause-text
returns-in-Failed-write_tail-clause-text g c =
    let front = c.bytes-2.result.now in
    let tail = tail_text c.push_reply-tail.result c.args.bytes.now in
    let old = g.K.Sink.taken c.args.sink.now in
    let mid = g.K.Sink.taken c.write-2.new.self in
    let new = g.K.Sink.taken c.write_tail.new.sink in
    let whole : (front ++ tail) ++ 10 ∷ [] ≡ answer_line c.args.place (c.args.line, c.args.reply.now, c.args.bytes.now) = grind (arith, common_steps) in
    let two = then_write old mid new sink.Failed front tail c.in-Took.ensures.bytes c.in-Failed-write_tail.ensures.text in
    subst (λ (t : List ℕ). WritesStream old new sink.Failed t) whole (stopped old new (front ++ tail) (10 ∷ []) two)
