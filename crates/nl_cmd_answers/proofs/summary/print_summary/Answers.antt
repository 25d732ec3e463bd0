use Rattle.std.proofs.Common.{◌≡◌, ◌∙◌, map, sym, subst, List, ℕ}
use Rattle.std.proofs.lemmas.List.{length-map}
use Rattle.nl_io.specs.Streams.{WritesStream}
use Rattle.nl_print.specs.Texts.{soak_text}
use Rattle.nl_cmd_answers.specs.Rows.{said, summary_text}
use Rattle.nl_cmd_answers.proofs.summary.print_summary.Goals as goal

pub returns-clause-text : goal.returns-clause-text
returns-clause-text g c =
    let t = c.tally_of-tally.ensures in
    let calls = c.from.ensures ∙ c.len.ensures ∙ sym (length-map c.args.answers.now.rows said) in
    let ok = c.from-2.ensures ∙ t.ok in
    let same : soak_text c.from.result c.from-2.result c.tally_of-tally.result.written c.tally_of-tally.result.read c.args.pages c.args.nodes c.args.meta
    ≡ summary_text (map said c.args.answers.now.rows) c.args.pages c.args.nodes c.args.meta =
    λ i. soak_text (calls i) (ok i) (t.written i) (t.read i) c.args.pages c.args.nodes c.args.meta in
    subst (λ (x : List ℕ). WritesStream (g.K.Sink.taken c.args.sink.now) (g.K.Sink.taken c.soak_lines.new.sink) c.soak_lines.result x) same c.soak_lines.ensures.text
