use Rattle.nl_spec_headline.specs.Streams.{stream}
use Rattle.nl_cmd_words.proofs.Reading.{too_long}
use Rattle.nl_cmd_words.proofs.script.read_script.Goals as goal

pub returns-in-TooLong-clause-script : goal.returns-in-TooLong-clause-script
returns-in-TooLong-clause-script g c =
    let read = c.in-TooLong.ensures.bytes in
    too_long (stream (g.S.Source.left c.args.src.now) (g.S.Source.faults c.args.src.now)) (stream (g.S.Source.left c.read_all.new.src) (g.S.Source.faults c.read_all.new.src)) read.0 read.1 read.2
