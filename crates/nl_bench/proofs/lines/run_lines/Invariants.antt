use Rattle.std.proofs.Common.{◌≡◌, ◌≤◌, ℕ, List, ◌++◌, drop}
use Rattle.nl_io.specs.Streams.{WritesStream}
use Rattle.nl_io.specs.declared.sink.SinkAnswer.TheVariants as sink
use Rattle.nl_bench.specs.Played.{lines_text}
use Rattle.nl_bench.proofs.lines.run_lines.Given as goal

-- the sink took a front of the text, and what the lines from here on add is the rest
abbrev pub invariant-lines : goal.invariant-lines
invariant-lines g l = record {
  told : (front : List ℕ) × WritesStream (g.K.Sink.taken l.initial.sink) (g.K.Sink.taken l.sink) sink.Took front
      × (front ++ lines_text l.plain (drop l.at l.lines) ≡ lines_text l.initial.plain l.lines);
  calls : l.plain.calls ≡ l.at;
  later : g.K.Sink.faults l.initial.sink ≤ g.K.Sink.faults l.sink;
}
