use Rattle.std.proofs.Common.{ap}
use Rattle.nl_spec_headline.specs.Streams.{medium, stream}
use Rattle.nl_cmd_compare.specs.Ends.{compare_text}
use Rattle.nl_cmd_compare.proofs.Ending.{has_compared}
use Rattle.nl_cmd_compare.proofs.comparing.compare_on.Goals as goal

pub returns-in-Some-clause-ended : goal.returns-in-Some-clause-ended
returns-in-Some-clause-ended g c =
    let media = c.args.media in
    let end = c.carried_out in
    let line = c.print_numbers-answer in
    let numbers = c.in-Some.numbers in
    let old = stream (g.K.Sink.taken c.args.sink.now) (g.K.Sink.faults c.args.sink.now) in
    let new = stream (g.K.Sink.taken line.new.sink) (g.K.Sink.faults line.new.sink) in
    let before = medium (g.M.Nand.geometry media) (g.M.Nand.contents media) (g.M.Nand.clock media) (g.M.Nand.read_faults media) (g.M.Nand.write_faults media) in
    let after = medium (g.M.Nand.geometry end.result.media) (g.M.Nand.contents end.result.media) (g.M.Nand.clock end.result.media) (g.M.Nand.read_faults end.result.media) (g.M.Nand.write_faults end.result.media) in
    let same = ap (λ m. medium (g.M.Nand.geometry m) (g.M.Nand.contents m) (g.M.Nand.clock m) (g.M.Nand.read_faults m) (g.M.Nand.write_faults m)) end.ensures.media in
    has_compared g.M.Nand.tells c.args.lines.now numbers c.faults_of-before.result.reads c.faults_of-before.result.writes old new before after
    end.result.order.items end.result.syncs.items end.result.status
    c.faults_of-before.ensures.0 c.faults_of-before.ensures.1 same c.in-Some.ensures
    (record { answer = line.result; taken = line.ensures.text; never_falls = line.ensures.never_falls; cause = line.ensures.cause }) end.ensures.order end.ensures.syncs
    (end.ensures.status old new (compare_text numbers) line.ensures.text line.ensures.cause)
