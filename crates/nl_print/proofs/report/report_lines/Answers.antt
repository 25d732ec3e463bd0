use Rattle.std.proofs.Common.{ℕ, List, ◌++◌, ◌∙◌, ap, subst}
use Rattle.std.specs.Prelude.{codes}
use Rattle.nl_io.specs.Streams.{WritesStream}
use Rattle.nl_print.specs.Texts.{number_text, blocks_text, pages_text, wear_text}
use Rattle.nl_print.proofs.Fields.{six_from_none}
use Rattle.nl_print.proofs.report.report_lines.Goals as goal

pub returns-clause-text : goal.returns-clause-text
returns-clause-text g c =
    let a = c.args in
    let shape = a.shape.now in
    let n3 = c.push_pages.new.line in
    let text = six_from_none c.new-text.result c.push_number_line.new.line c.push_blocks.new.line n3 c.push_number_line-2.new.line c.push_wear.new.line c.push_number_line-3.new.line
    (number_text (codes "opened") a.count) (blocks_text shape.vblocks shape.pblocks) (pages_text shape a.data a.nodes a.meta) (number_text (codes "remap") a.pairs) (wear_text a.least a.greatest) (number_text (codes "stamp") a.stamp)
    c.new-text.ensures
    c.push_number_line.ensures.text
    c.push_blocks.ensures.text
    c.push_pages.ensures.text
    (c.push_number_line-2.ensures.text ∙ ap (λ (n : ℕ). n3 ++ number_text (codes "remap") n) c.from.ensures)
    c.push_wear.ensures.text
    c.push_number_line-3.ensures.text in
    subst (λ (t : List ℕ). WritesStream (g.K.Sink.taken a.sink.now) (g.K.Sink.taken c.write.new.self) c.write.result t) (c.bytes.ensures ∙ text) c.write.ensures.bytes
