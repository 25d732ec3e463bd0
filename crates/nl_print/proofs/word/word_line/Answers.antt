use Rattle.nl_io.proofs.StreamsLaws.{then_write}
use Rattle.nl_print.proofs.word.word_line.Goals as goal

pub returns-in-Took-clause-text : goal.returns-in-Took-clause-text
returns-in-Took-clause-text g c = then_write _ _ _ _ _ _ c.in-Took.ensures.bytes c.write-in-Took.ensures.bytes
