use Rattle.std.proofs.Common.{◌≡◌, ◌≤◌, ℕ, ◌++◌, List, drop}
use Rattle.nl_io.specs.Streams.{WritesStream}
use Rattle.nl_io.specs.declared.sink.SinkAnswer.TheVariants as sink
use Rattle.nl_print.specs.Texts.{slashed}
use Rattle.nl_print.proofs.path.write_path.Given as goal

-- the names so far are taken
abbrev pub invariant-names : goal.invariant-names
invariant-names g l =
    let names = g.P.Names.names l.path in
    record {
      front : (done : List ℕ) × WritesStream (g.K.Sink.taken l.initial.sink) (g.K.Sink.taken l.sink) sink.Took done × (done ++ slashed (drop l.at names) ≡ slashed names);
      later : g.K.Sink.faults l.initial.sink ≤ g.K.Sink.faults l.sink;
    }
