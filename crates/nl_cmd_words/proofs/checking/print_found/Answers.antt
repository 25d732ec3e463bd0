use Rattle.nl_spec_headline.specs.Streams.{stream}
use Rattle.nl_print.specs.Texts.{sound_text}
use Rattle.nl_cmd_words.proofs.checking.print_found.Goals as goal

pub returns-clause-sound : goal.returns-clause-sound
returns-clause-sound g c = λ none.
    let old = stream (g.K.Sink.taken c.args.sink.now) (g.K.Sink.faults c.args.sink.now) in
    let new = stream (g.K.Sink.taken c.number_line-answer.new.sink) (g.K.Sink.faults c.number_line-answer.new.sink) in
    let line = c.number_line-answer in (
      record { answer = line.result; taken = line.ensures.text; never_falls = line.ensures.never_falls; cause = line.ensures.cause },
      c.carried_out.ensures.status old new (sound_text c.args.count) line.ensures.text line.ensures.cause,
    )
