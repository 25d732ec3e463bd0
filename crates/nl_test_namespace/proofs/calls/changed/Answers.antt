use Rattle.std.proofs.Common.{◌∙◌, sym, arith}
use Rattle.nl_test_namespace.proofs.Dirty.{room-for-names}
use Rattle.nl_test_namespace.proofs.Opened.{left-reads, open-left}
use Rattle.nl_test_namespace.proofs.calls.changed.Goals as goal

pub change-answer-requires-clause-room : goal.change-answer-requires-clause-room
change-answer-requires-clause-room g c = room-for-names c.args.meta.now (let d = c.dirty.ensures in let f = c.if-dirty-gt50.false in omega (arith, d, f))

pub returns-clause-reads : goal.returns-clause-reads
returns-clause-reads g c = left-reads g.D.Counts c.args.device.now c.args.meta.now c.change-answer.new.device c.change-answer.new.meta c.args.nodes.now c.change-answer.new.nodes c.change-answer.result c.change-answer.ensures.left

pub returns-clause-volume : goal.returns-clause-volume
returns-clause-volume g c = λ none.
    open-left g.D.Counts c.args.device.now c.args.meta.now c.change-answer.new.device c.change-answer.new.meta c.args.nodes.now c.change-answer.new.nodes (g.met.D.VirtualPages.numbers c.args.device.now c.requires.formed) c.requires.volume c.change-answer.result (sym c.gone_of.ensures ∙ none) c.change-answer.ensures.left
