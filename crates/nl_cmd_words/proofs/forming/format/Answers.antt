use Rattle.std.proofs.Common.{ap}
use Rattle.nl_field.specs.Numbers.{shape_for}
use Rattle.nl_spec_headline.specs.Streams.{medium, stream}
use Rattle.nl_print.specs.Texts.{formatted_text}
use Rattle.nl_cmd_words.proofs.Formed.{format_done}
use Rattle.nl_cmd_words.proofs.forming.format.Goals as goal

pub returns-in-Done-clause-ended : goal.returns-in-Done-clause-ended
returns-in-Done-clause-ended g c =
    let media = c.args.media in
    let made = c.in-Done.media in
    let end = c.carried_out in
    let line = c.formatted_line-answer in
    let old = stream (g.K.Sink.taken c.args.sink.now) (g.K.Sink.faults c.args.sink.now) in
    let new = stream (g.K.Sink.taken line.new.sink) (g.K.Sink.faults line.new.sink) in
    let before = medium (g.M.Nand.geometry media) (g.M.Nand.contents media) (g.M.Nand.clock media) (g.M.Nand.read_faults media) (g.M.Nand.write_faults media) in
    let middle = medium (g.M.Nand.geometry made) (g.M.Nand.contents made) (g.M.Nand.clock made) (g.M.Nand.read_faults made) (g.M.Nand.write_faults made) in
    let after = medium (g.M.Nand.geometry end.result.media) (g.M.Nand.contents end.result.media) (g.M.Nand.clock end.result.media) (g.M.Nand.read_faults end.result.media) (g.M.Nand.write_faults end.result.media) in
    let same = ap (λ m. medium (g.M.Nand.geometry m) (g.M.Nand.contents m) (g.M.Nand.clock m) (g.M.Nand.read_faults m) (g.M.Nand.write_faults m)) end.ensures.media in
    format_done g.M.Nand.tells c.args.blocks c.args.pages c.faults_of-before.result.reads c.faults_of-before.result.writes
    old new
    before middle after end.result.order.items end.result.syncs.items end.result.status (formatted_text c.in-Some.shape)
    c.faults_of-before.ensures.0 c.faults_of-before.ensures.1 same
    (record { geometry = c.in-Done.ensures.done; two_pages = c.in-Done.ensures.formatted; sound = c.in-Done.ensures.stands; text_is = ap formatted_text {y = shape_for c.args.blocks c.args.pages} c.in-Some.ensures.numbers })
    (record { answer = line.result; taken = line.ensures.text; never_falls = line.ensures.never_falls; cause = line.ensures.cause }) end.ensures.order end.ensures.syncs
    (end.ensures.status old new (formatted_text c.in-Some.shape) line.ensures.text line.ensures.cause)
