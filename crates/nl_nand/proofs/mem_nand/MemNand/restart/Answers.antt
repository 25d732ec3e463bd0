use Rattle.std.proofs.Common.{arith}
use Rattle.nl_nand.proofs.Fresh.{fresh_history, fresh_left}
use Rattle.nl_nand.proofs.Operations.{cells_size}
use Rattle.nl_nand.proofs.Restarts.{restarted, restarted_left, restarted_fits}
use Rattle.nl_nand.proofs.mem_nand.MemNand.restart.Goals as goal

pub left_cells-cells-requires : goal.left_cells-cells-requires
left_cells-cells-requires c = omega (arith, cells_size c.args.self, c.args.self.ends_within)

pub invariant_of-result-clause-history : goal.invariant_of-result-clause-history
invariant_of-result-clause-history c = fresh_history _ _ 0 c.new.ensures.entries
    (restarted_fits c.args.self.geometry c.args.self.stopped c.args.self.log.entries.items c.args.self.clock c.args.self.cells.items c.left_cells-cells.result.items c.left_cells-cells.ensures c.args.self.history)

pub returns-clause-contents : goal.returns-clause-contents
returns-clause-contents c = restarted c.args.self.geometry c.args.self.stopped c.args.self.cells.items _ c.left_cells-cells.ensures

pub returns-clause-was_left : goal.returns-clause-was_left
returns-clause-was_left c = restarted_left c.args.self.geometry c.args.self.stopped c.args.self.log.entries.items c.args.self.clock c.args.self.cells.items _ c.left_cells-cells.ensures

pub returns-clause-begins : goal.returns-clause-begins
returns-clause-begins c m i l = fresh_left _ _ 0 m i c.new.ensures.entries l
