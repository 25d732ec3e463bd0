use Rattle.nl_nand.proofs.Fresh.{blank_image, fresh_history, fresh_left}
use Rattle.nl_nand.proofs.mem_nand.MemNand.new.Goals as goal

pub invariant_of-result-clause-history : goal.invariant_of-result-clause-history
invariant_of-result-clause-history c = fresh_history _ _ 0 c.new-2.ensures.entries (blank_image (record { blocks = 0; pages = 0 }) c.new.result.items c.new.ensures.items)

pub returns-clause-left : goal.returns-clause-left
returns-clause-left c m i l = fresh_left _ _ 0 m i c.new-2.ensures.entries l
