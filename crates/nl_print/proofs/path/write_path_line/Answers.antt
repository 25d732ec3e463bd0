use Rattle.nl_io.specs.declared.sink.SinkAnswer.TheVariants as sink
use Rattle.std.proofs.Common.{◌++◌}
use Rattle.nl_print.specs.Texts.{path_text}
use Rattle.nl_io.proofs.StreamsLaws.{then_write, stopped}
use Rattle.nl_print.proofs.path.write_path_line.Goals as goal

pub returns-in-Took-write_path-clause-text : goal.returns-in-Took-write_path-clause-text
returns-in-Took-write_path-clause-text g c =
    let old = g.K.Sink.taken c.args.sink.now in
    let mid = g.K.Sink.taken c.write-2.new.self in
    let after = g.K.Sink.taken c.write_path.new.sink in
    let text = path_text (g.P.Names.names c.args.path.now) in
    let two = then_write old mid after sink.Took c.args.mark.now text c.in-Took.ensures.bytes c.in-Took-write_path.ensures.text in
    then_write old after _ _ (c.args.mark.now ++ text) c.args.rest.now two c.write-in-Took-write_path.ensures.bytes

pub returns-in-Failed-write_path-clause-text : goal.returns-in-Failed-write_path-clause-text
returns-in-Failed-write_path-clause-text g c =
    let old = g.K.Sink.taken c.args.sink.now in
    let mid = g.K.Sink.taken c.write-2.new.self in
    let new = g.K.Sink.taken c.write_path.new.sink in
    let text = path_text (g.P.Names.names c.args.path.now) in
    let two = then_write old mid new sink.Failed c.args.mark.now text c.in-Took.ensures.bytes c.in-Failed-write_path.ensures.text in
    stopped old new (c.args.mark.now ++ text) c.args.rest.now two
