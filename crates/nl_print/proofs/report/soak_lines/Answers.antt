use Rattle.std.proofs.Common.{ℕ, List, ◌∙◌, subst}
use Rattle.nl_io.specs.Streams.{WritesStream}
use Rattle.nl_print.specs.Texts.{calls_text, bytes_text, charges_text}
use Rattle.nl_print.proofs.Fields.{three_from_none}
use Rattle.nl_print.proofs.report.soak_lines.Goals as goal

pub returns-clause-text : goal.returns-clause-text
returns-clause-text g c =
    let a = c.args in
    let text = three_from_none c.new-text.result c.push_calls.new.line c.push_bytes.new.line c.push_charges.new.line (calls_text a.calls a.ok) (bytes_text a.written a.read) (charges_text a.data a.nodes a.meta)
    c.new-text.ensures c.push_calls.ensures.text c.push_bytes.ensures.text c.push_charges.ensures.text in
    subst (λ (t : List ℕ). WritesStream (g.K.Sink.taken a.sink.now) (g.K.Sink.taken c.write.new.self) c.write.result t) (c.bytes.ensures ∙ text) c.write.ensures.bytes
