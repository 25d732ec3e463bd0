use Rattle.std.proofs.Common.{◌≡◌, ◌≤◌, ℕ, ◌++◌, List, length}
use Rattle.hex.specs.Hex.{encode_lower}
use Rattle.nl_io.specs.Streams.{WritesStream}
use Rattle.nl_io.specs.declared.sink.SinkAnswer.TheVariants as sink
use Rattle.nl_print.proofs.answer.write_hex.Given as goal

-- the digits of the bytes before the rest are taken
abbrev pub invariant-pieces : goal.invariant-pieces
invariant-pieces g l =
    record {
      front : (done : List ℕ) × WritesStream (g.K.Sink.taken l.initial.sink) (g.K.Sink.taken l.sink) sink.Took done × (done ++ encode_lower l.rest ≡ encode_lower l.bytes);
      later : g.K.Sink.faults l.initial.sink ≤ g.K.Sink.faults l.sink;
    }

abbrev pub decreases-pieces : goal.decreases-pieces
decreases-pieces g l = length l.rest
