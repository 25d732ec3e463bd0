use Rattle.nl_meta.specs.Nodes.{graph_of}
use Rattle.nl_namespace.specs.Making.{empty_node}
use Rattle.nl_meta_running.specs.Running.{running_on}
use Rattle.nl_test_namespace.proofs.Dirty.{room-for-names}
use Rattle.nl_test_namespace.proofs.Opened.{left-reads, none-gone, open-left}
use Rattle.nl_test_namespace.proofs.making.make_one.Goals as goal

pub make-answer-requires-clause-room : goal.make-answer-requires-clause-room
make-answer-requires-clause-room g c = room-for-names c.args.meta.now c.requires.few

pub returns : goal.returns
returns g c =
    let none = none-gone c.args.nodes.now (graph_of (g.D.Counts.shape c.args.device.now) (running_on g.D.Counts c.args.device.now c.args.meta.now)) (graph_of (g.D.Counts.shape c.make-answer.new.device) (running_on g.D.Counts c.make-answer.new.device c.make-answer.new.meta)) c.in-Some.path (empty_node c.kind_of.result) c.make-answer.result c.make-answer.ensures.answer in
    record {
      formed = c.make-answer.ensures.formed;
      reads = left-reads g.D.Counts c.args.device.now c.args.meta.now c.make-answer.new.device c.make-answer.new.meta c.args.nodes.now c.make-answer.new.nodes c.make-answer.result c.make-answer.ensures.left;
      volume = open-left g.D.Counts c.args.device.now c.args.meta.now c.make-answer.new.device c.make-answer.new.meta c.args.nodes.now c.make-answer.new.nodes (g.met.D.VirtualPages.numbers c.args.device.now c.requires.formed) c.requires.volume c.make-answer.result none c.make-answer.ensures.left;
    }
