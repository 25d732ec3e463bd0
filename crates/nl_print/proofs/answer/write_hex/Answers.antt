use Rattle.std.proofs.Common.{◌≡◌, ℕ, List, [], ◌++◌, subst, arith, le_trans}
use Rattle.std.proofs.lemmas.List.{take-append-drop}
use Rattle.std.proofs.lemmas.Grind.{common_steps}
use Rattle.hex.specs.Hex.{encode_lower}
use Rattle.nl_io.specs.Streams.{WritesStream}
use Rattle.nl_io.specs.declared.sink.SinkAnswer.TheVariants as sink
use Rattle.nl_print.proofs.Digits.{digits_split, digits_end}
use Rattle.nl_io.proofs.StreamsLaws.{then_write, stopped}
use Rattle.nl_print.proofs.answer.write_hex.Goals as goal

pub pieces-preserved : goal.pieces-preserved
pieces-preserved g c =
    let front = c.pieces.invariant.front in
    let piece = c.split_at.result.0.now in
    let after = c.split_at.result.1.now in
    let split : c.pieces.rest.now ≡ piece ++ after = grind (arith, common_steps, take-append-drop {A = ℕ}) in
    let digits : c.encode_to_slice.new.output ≡ encode_lower piece = c.in-Ok.ensures.written in
    let taken = subst (λ (t : List ℕ). WritesStream (g.K.Sink.taken c.pieces.sink) (g.K.Sink.taken c.write.new.self) sink.Took t) digits c.in-Took.ensures.bytes in
    record {
      front = (
        front.0 ++ encode_lower piece,
        then_write (g.K.Sink.taken c.args.sink.now) (g.K.Sink.taken c.pieces.sink) (g.K.Sink.taken c.write.new.self) sink.Took front.0 (encode_lower piece) front.1 taken,
        digits_split front.0 c.args.bytes.now c.pieces.rest.now piece after front.2 split,
      );
      later = le_trans c.pieces.invariant.later c.write.ensures.never_falls;
    }

pub returns-in-Failed-clause-text : goal.returns-in-Failed-clause-text
returns-in-Failed-clause-text g c =
    let front = c.pieces.invariant.front in
    let piece = c.split_at.result.0.now in
    let after = c.split_at.result.1.now in
    let split : c.pieces.rest.now ≡ piece ++ after = grind (arith, common_steps, take-append-drop {A = ℕ}) in
    let digits : c.encode_to_slice.new.output ≡ encode_lower piece = c.in-Ok.ensures.written in
    let taken = subst (λ (t : List ℕ). WritesStream (g.K.Sink.taken c.pieces.sink) (g.K.Sink.taken c.write.new.self) sink.Failed t) digits c.in-Failed.ensures.bytes in
    let two = then_write (g.K.Sink.taken c.args.sink.now) (g.K.Sink.taken c.pieces.sink) (g.K.Sink.taken c.write.new.self) sink.Failed front.0 (encode_lower piece) front.1 taken in
    subst (λ (t : List ℕ). WritesStream (g.K.Sink.taken c.args.sink.now) (g.K.Sink.taken c.write.new.self) sink.Failed t)
    (digits_split front.0 c.args.bytes.now c.pieces.rest.now piece after front.2 split)
    (stopped (g.K.Sink.taken c.args.sink.now) (g.K.Sink.taken c.write.new.self) (front.0 ++ encode_lower piece) (encode_lower after) two)

pub returns-clause-text : goal.returns-clause-text
returns-clause-text g c =
    let front = c.pieces.invariant.front in
    let none : c.pieces.rest.now ≡ [] = grind (arith, common_steps) in
    let all = digits_end front.0 c.args.bytes.now c.pieces.rest.now front.2 none in
    subst (λ (t : List ℕ). WritesStream (g.K.Sink.taken c.args.sink.now) (g.K.Sink.taken c.pieces.sink) sink.Took t) all front.1
