use Rattle.std.proofs.Common.{ℕ, ◌+◌, List, ◌∷◌, ◌++◌, drop, subst, ◌∙◌, le_trans, arith}
use Rattle.nl_io.specs.Streams.{WritesStream}
use Rattle.nl_io.specs.declared.sink.SinkAnswer.TheVariants as sink
use Rattle.nl_print.specs.Texts.{slashed}
use Rattle.nl_print.proofs.Names.{next_name, slashed_split, some_names}
use Rattle.nl_io.proofs.StreamsLaws.{then_write, stopped}
use Rattle.nl_print.proofs.path.write_path.Goals as goal

pub names-preserved : goal.names-preserved
names-preserved g c =
    let front = c.names.invariant.front in
    let names = g.P.Names.names c.args.path.now in
    let i = c.names.at in
    let name = c.name_at.result.now in
    let split = next_name names i name c.name_at.ensures in
    record {
      front = (
        front.0 ++ 47 ∷ name,
        then_write (g.K.Sink.taken c.args.sink.now) (g.K.Sink.taken c.names.sink) (g.K.Sink.taken c.write_name.new.sink) sink.Took front.0 (47 ∷ name) front.1 c.in-Took.ensures.text,
        slashed_split front.0 (slashed names) name (drop i names) (drop (i + 1) names) front.2 split,
      );
      later = le_trans c.names.invariant.later c.write_name.ensures.never_falls;
    }

pub returns-in-Failed-clause-text : goal.returns-in-Failed-clause-text
returns-in-Failed-clause-text g c =
    let front = c.names.invariant.front in
    let names = g.P.Names.names c.args.path.now in
    let i = c.names.at in
    let name = c.name_at.result.now in
    let old = g.K.Sink.taken c.args.sink.now in
    let new = g.K.Sink.taken c.write_name.new.sink in
    let split = next_name names i name c.name_at.ensures in
    let two = then_write old (g.K.Sink.taken c.names.sink) new sink.Failed front.0 (47 ∷ name) front.1 c.in-Failed.ensures.text in
    let whole = slashed_split front.0 (slashed names) name (drop i names) (drop (i + 1) names) front.2 split ∙ some_names names (λ none. omega arith) in
    subst (λ (t : List ℕ). WritesStream old new sink.Failed t) whole (stopped old new (front.0 ++ 47 ∷ name) (slashed (drop (i + 1) names)) two)
