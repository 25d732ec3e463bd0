use Rattle.std.proofs.Common.{◌++◌, ◌∙◌, ℕ, [], ap, refl, arith}
use Rattle.nl_calls_steps.proofs.ReadCores.{reads-none}
use Rattle.nl_print.specs.Texts.{opened_line}
use Rattle.nl_io.proofs.StreamsLaws.{then_write}
use Rattle.nl_cmd_print.specs.Showing.{sink_answer}
use Rattle.nl_cmd_print.proofs.Ending.{tree_begins, tree_shown}
use Rattle.nl_field.specs.declared.shape.Shape.{Shape}
use Rattle.nl_volume_list.specs.Walks.{WalkState}
use Rattle.nl_cmd_print.proofs.paths.print_tree.Goals as goal

-- a walk before the root
abbrev made : ℕ → WalkState
made room = record { path = []; nodes = []; room = room }

pub print_paths-requires-clause-way : goal.print_paths-requires-clause-way
print_paths-requires-clause-way g c =
    c.walks_begin.ensures.begin c.args.core.now c.args.walk.now (c.requires.fresh ∙ ap made (ap (λ (s : Shape). s.nodes) c.requires.core.shape))

pub returns-in-Took-clause-shows : goal.returns-in-Took-clause-shows
returns-in-Took-clause-shows g c =
    let old = g.K.Sink.taken c.args.sink.now in
    let mid = g.K.Sink.taken c.number_line.new.sink in
    let new = g.K.Sink.taken c.print_paths.new.sink in
    let answer = c.print_paths.result in
    let rest = c.print_paths.ensures.shows in
    record {
      text = opened_line c.args.count ++ rest.text;
      taken = then_write old mid new (sink_answer answer) (opened_line c.args.count) rest.text c.in-Took.ensures.text rest.taken;
      of_tree = λ tells page_of_stamp tree runs. tree_shown c.args.count tree c.items_are_printed.ensures rest.text answer (rest.of_tree tells page_of_stamp tree runs);
    }

pub returns-in-Failed-clause-same : goal.returns-in-Failed-clause-same
returns-in-Failed-clause-same g c = reads-none g.D.Counts c.args.core.now c.requires.core

pub returns-in-Failed-clause-shows : goal.returns-in-Failed-clause-shows
returns-in-Failed-clause-shows g c = record {
  text = opened_line c.args.count;
  taken = c.in-Failed.ensures.text;
  of_tree = λ tells page_of_stamp tree runs. tree_begins c.args.count tree c.items_are_printed.ensures;
}

pub returns-in-Took-clause-cause : goal.returns-in-Took-clause-cause
returns-in-Took-clause-cause g c is =
    let low = c.in-Took.ensures.never_falls in
    let rose = c.print_paths.ensures.cause is in
    omega (arith, low, rose)

pub returns-in-Failed-clause-cause : goal.returns-in-Failed-clause-cause
returns-in-Failed-clause-cause g c is = c.in-Failed.ensures.cause refl
