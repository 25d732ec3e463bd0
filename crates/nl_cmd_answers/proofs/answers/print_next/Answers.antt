use Rattle.std.proofs.Common.{◌≡◌, ◌++◌, take, sym, ap, subst, ◌∙◌}
use Rattle.std.specs.Prelude.{IfSome, slice_get}
use Rattle.nl_io.specs.Streams.{WritesStream}
use Rattle.nl_io.specs.declared.sink.SinkAnswer.TheVariants as sink
use Rattle.nl_cmd_answers.specs.Gathering.{WritesFront}
use Rattle.nl_cmd_answers.specs.Rows.{row_line}
use Rattle.nl_cmd_answers.proofs.Gathering.{cut_back, failed_behind, written}
use Rattle.nl_cmd_answers.proofs.answers.print_next.Goals as goal

pub returns-in-Took-hand_on-clause-took : goal.returns-in-Took-hand_on-clause-took
returns-in-Took-hand_on-clause-took g c = λ is.
    let rows = c.args.answers.now.rows in
    let row = slice_get rows c.args.at in
    let old = g.K.Sink.taken c.args.sink.now in
    let mid = g.K.Sink.taken c.hand_on.new.sink in
    let new = g.K.Sink.taken c.print_row-in-Took-hand_on.new.sink in
    let text = c.args.waiting.now.text in
    let cut : c.cut.new.self.text ≡ text =
    c.cut.ensures ∙ ap (λ n. take n c.print_row.new.sink.text) c.len-len.ensures ∙ cut_back rows c.args.at c.requires text c.print_row.new.sink.text c.in-Failed.ensures.text in
    let first = subst (λ t. WritesStream old mid sink.Took t) cut c.in-Took-hand_on.ensures.text in
    let next = subst (λ answer. IfSome row (λ row. WritesStream mid new answer (row_line row))) is c.print_row-in-Took-hand_on.ensures.text in
    subst (λ t. IfSome row (λ row. WritesFront old new (text ++ row_line row) t)) (sym c.hand_on.ensures.empty) (written old mid new text row first next)

pub returns-in-Took-hand_on-clause-failed : goal.returns-in-Took-hand_on-clause-failed
returns-in-Took-hand_on-clause-failed g c = λ is.
    let rows = c.args.answers.now.rows in
    let row = slice_get rows c.args.at in
    let old = g.K.Sink.taken c.args.sink.now in
    let mid = g.K.Sink.taken c.hand_on.new.sink in
    let new = g.K.Sink.taken c.print_row-in-Took-hand_on.new.sink in
    let text = c.args.waiting.now.text in
    let cut : c.cut.new.self.text ≡ text =
    c.cut.ensures ∙ ap (λ n. take n c.print_row.new.sink.text) c.len-len.ensures ∙ cut_back rows c.args.at c.requires text c.print_row.new.sink.text c.in-Failed.ensures.text in
    let first = subst (λ t. WritesStream old mid sink.Took t) cut c.in-Took-hand_on.ensures.text in
    let next = subst (λ answer. IfSome row (λ row. WritesStream mid new answer (row_line row))) is c.print_row-in-Took-hand_on.ensures.text in
    failed_behind old mid new text row first next
